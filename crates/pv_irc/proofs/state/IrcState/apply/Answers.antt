use Rattle.std.proofs.Common.{rules, ◌≡◌, true, ◌≤◌, ◌∷◌, [], ◌<◌, ◌+◌, length, refl, arith}
use Rattle.std.proofs.lemmas.List.{length-append}
use Rattle.pv_edits.specs.Room.{has_room}
use Rattle.pv_edits.specs.Standing.{with_record_at}
use Rattle.pv_irc.proofs.Applying.{IsWithinLimits-applied, HaveRoom-absorbed, HaveLetters-blank, HaveLetters-whole}
use Rattle.pv_irc.proofs.state.IrcState.apply.Goals as goal
use Rattle.pv_irc.proofs.state.IrcState.apply.Goals.{After-self-1, in-Whole, in_default}

-- there were fewer than the limit
below : (c : After-self-1) → c.self.inside.applied + length c.self.inside.items.items + c.self.inside.log_ons
    + length c.self.inside.removals.items < c.self.inside.limits.records
below c = rw (← c.self.view_is) at c.requires.within

pub invariant_of-self : goal.invariant_of-self
invariant_of-self c = elim c.match-rec.branch [
  | in-Whole w ↦
      let base = c.self.inside.base in
      let edit = w.in-Whole.edit in
      let next = with_record_at base edit c.self.inside.applied in
      let longer : length next.records ≤ length base.records + 1 = omega (arith, length-append base.records (edit ∷ [])) in
      let is = c.self.invariant in
      let fits : has_room base.limits base.records edit ≡ true = search rules in
      rw (w.self-inside-is, w.absorb.ensures) (record {
        counts = IsWithinLimits-applied base next _ _ _ _ _ _ _ is.counts refl longer (below c);
        room = HaveRoom-absorbed _ base edit fits w.deliver.ensures.room;
        letters = HaveLetters-whole _ base _ _ _ is.letters _ edit w.deliver.ensures.letters;
      })
  | in_default w ↦
      let base = c.self.inside.base in
      let is = c.self.invariant in
      rw w.self-inside-is (record {
        counts = IsWithinLimits-applied base base _ _ _ _ _ _ _ is.counts refl (omega arith) (below c);
        room = is.room;
        letters = HaveLetters-blank _ base _ _ _ is.letters;
      })
]
