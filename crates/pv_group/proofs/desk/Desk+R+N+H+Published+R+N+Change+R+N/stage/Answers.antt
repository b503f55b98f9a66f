use Rattle.std.proofs.Common.{◌≡◌, length, ap, sym, ◌∙◌, refl}
use Rattle.left_right.specs.Handles.{published, pending}
use Rattle.pv_live.specs.declared.entry.Entry.{Entry}
use Rattle.pv_live.specs.Entries.{with_opening}
use Rattle.pv_live.proofs.Lists.{with_count}
use Rattle.pv_live.proofs.States.{made_fits}
use Rattle.pv_group.proofs.Aheads.{ahead_more, staged_more}
use Rattle.pv_group.proofs.Boards.{adds_behind}
use Rattle.pv_group.proofs.desk.Desk+R+N+H+Published+R+N+Change+R+N.stage.Goals as goal

pub take_in-next-requires-clause-room : goal.take_in-next-requires-clause-room
take_in-next-requires-clause-room g c =
    let made = rw (← ap (λ b. b.log) c.self.view_is) at c.requires.made in
    (made_fits g.R.Rules g.N.Run.limits g.N.Run.opening g.met.R.Rules.stored g.met.R.Rules.same_room c.self.inside.state
    (with_opening g.N.Run.opening c.self.inside.known) c.args.rec.now c.self.invariant.0.state_of made).1

pub take_in-next-requires-clause-next : goal.take_in-next-requires-clause-next
take_in-next-requires-clause-next g c =
    c.length-place.ensures
    ∙ sym (with_count g.N.Run.opening c.self.inside.known)
    ∙ sym (g.met.R.Rules.counted c.self.inside.state (with_opening g.N.Run.opening c.self.inside.known)
    c.self.invariant.0.state_of.stands)

pub invariant_of-self-2 : goal.invariant_of-self-2
invariant_of-self-2 g c =
    let i = c.self.invariant in
    let made = rw (← ap (λ b. b.log) c.self.view_is) at c.requires.made in
    let entry : Entry g.row.R-Rec.Denot = record { rec = c.args.rec.now; pass = c.number.result } in
    let place : c.length-place.result ≡ length (with_opening g.N.Run.opening c.self.inside.known) =
    c.length-place.ensures ∙ sym (with_count g.N.Run.opening c.self.inside.known) in (
      rw (c.take_in-next.ensures.state, place, c.append.ensures.added, c.count_told.ensures.total)
          (ahead_more g.R.Rules g.N.Run.limits g.N.Run.opening g.met.R.Rules.stored g.met.R.Rules.same_room g.met.R.Rules.grows
          g.met.R.Rules.limits_stay c.self.inside.state c.self.inside.known entry c.self.inside.told.total c.self.inside.failed.total
          i.0 made),
      rw c.append.ensures.added
          (staged_more g.R.Rules c.self.inside.known c.self.inside.taken.total c.self.inside.staged c.push.new.self entry i.1
          (rw c.spell-size.ensures.spelled at c.if-not-push.ensures.pushed refl)),
      rw (c.append.ensures.added, c.push_back_reserved.ensures.items, c.reserve.ensures.items)
          (adds_behind _ (published c.self.inside.writer) (pending c.self.inside.writer) c.self.inside.changes.items
          c.self.inside.known c.new.result entry i.2 (c.new.ensures ∙ c.copy.ensures ∙ c.append.ensures.added)),
      i.3,
      c.append.ensures.supplied,
      i.5,
      i.6,
      i.7,
      i.8,
    )
