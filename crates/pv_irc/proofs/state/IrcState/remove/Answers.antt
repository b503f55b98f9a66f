use Rattle.std.proofs.Common.{◌+◌, ◌<◌, ◌∷◌, [], List, length, ap, sym, subst, arith}
use Rattle.std.proofs.lemmas.List.{length-append}
use Rattle.pv_post.specs.declared.removal.Removal.{Removal}
use Rattle.pv_irc.proofs.Applying.{HaveRoom-kept, HaveLetters-removed}
use Rattle.pv_irc.specs.Room.{HaveLetters}
use Rattle.pv_irc.proofs.state.IrcState.remove.Goals as goal

-- the letter is gone, and its removal is kept
pub invariant_of-self : goal.invariant_of-self
invariant_of-self c =
    let is = c.self.invariant in
    let inside = c.self.inside in
    let below : inside.applied + length inside.items.items + inside.log_ons + length inside.removals.items < inside.limits.records =
    rw (← c.self.view_is) at c.requires in
    let removal : Removal = record { account = c.args.account; number = c.args.number; place = inside.applied } in
    let more = c.push_reserved.ensures.items in
    record {
      counts = record {
        same_limits = is.counts.same_limits;
        whole = is.counts.whole;
        within = omega (arith, below, ap length more, length-append inside.removals.items (removal ∷ []));
        items_fit = is.counts.items_fit;
        removals_fit = omega (arith, is.counts.removals_fit, c.push_reserved.ensures.capacity);
      };
      room = HaveRoom-kept inside.boxes c.remove.new.self _ c.remove.ensures.owners c.remove.ensures.room is.room;
      letters = subst (λ (list : List Removal). HaveLetters inside.centre inside.base inside.applied list c.remove.new.self) (sym more)
          (HaveLetters-removed inside.centre inside.base inside.applied inside.removals.items inside.boxes is.letters
          c.remove.new.self c.args.account c.args.number c.remove.ensures.letters);
    }
