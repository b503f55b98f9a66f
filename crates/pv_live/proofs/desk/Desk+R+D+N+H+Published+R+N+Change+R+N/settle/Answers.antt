use Rattle.std.proofs.Common.{[], ◌∷◌, ◌++◌, inl, inr, arith, ap, sym, ◌∙◌}
use Rattle.left_right.specs.Handles.{published, pending}
use Rattle.pv_live.specs.declared.entry.Entry.{Entry}
use Rattle.pv_live.proofs.Lists.{fold_last}
use Rattle.pv_live.proofs.Desks.{desk_more, hand_made}
use Rattle.pv_live.proofs.Growing.{settles_none, settles_one}
use Rattle.pv_live.proofs.desk.Desk+R+D+N+H+Published+R+N+Change+R+N.settle.Goals as goal

-- the record in hand is the next one of the run
pub take_in-requires-clause-made : goal.take_in-requires-clause-made
take_in-requires-clause-made g c =
    let i = c.self.invariant in
    let stored = rw c.in-Ok-Some.field-0-is at c.in-Ok-Some.ensures.settled in
    (hand_made g.R.Rules g.D.Reports g.N.Run.limits g.N.Run.opening c.self.inside.known c.self.inside.told.total c.self.inside.failed.total
    c.self.inside.node i.0 c.in-Ok-Some.rec stored.was).0

pub invariant_of-self-in-Ok-Some : goal.invariant_of-self-in-Ok-Some
invariant_of-self-in-Ok-Some g c =
    let i = c.self.invariant in
    let stored = rw c.in-Ok-Some.field-0-is at c.in-Ok-Some.ensures.settled in
    let entry : Entry g.row.R-Rec.Denot = record { rec = c.in-Ok-Some.rec; pass = c.self.inside.maker } in
    let hand = hand_made g.R.Rules g.D.Reports g.N.Run.limits g.N.Run.opening c.self.inside.known c.self.inside.told.total
    c.self.inside.failed.total c.self.inside.node i.0 c.in-Ok-Some.rec stored.was in (
      rw c.take_in.ensures.known
          (desk_more g.R.Rules g.D.Reports g.N.Run.limits g.N.Run.opening c.self.inside.known c.self.inside.told.total
          c.self.inside.failed.total c.self.inside.node i.0 c.settle.new.self entry c.self.inside.told.total stored.records stored.hand
          c.settle.ensures.limits hand.0 (omega (arith, i.0.reported)) hand.1),
      fold_last (published c.self.inside.writer) (pending c.self.inside.writer) c.take_in.result ∙ c.take_in.ensures.change,
      i.2,
      i.3,
      i.4,
      i.5,
      c.take_in.ensures.supplied,
    )

-- what was in hand still is
pub returns-in-Err-clause-grows : goal.returns-in-Err-clause-grows
returns-in-Err-clause-grows g c =
    settles_none c.args.self.now _ (ap (λ b. b.log) c.self.view_is)
    (inr (c.in-Err.ensures.unsettled.hand ∙ ap (λ b. b.node.hand) c.self.view_is, ap (λ b. b.maker) c.self.view_is))

pub returns-in-Ok-None-clause-grows : goal.returns-in-Ok-None-clause-grows
returns-in-Ok-None-clause-grows g c =
    let settled = rw c.in-Ok-None.field-0-is at c.in-Ok-None.ensures.settled in
    settles_none c.args.self.now _ (ap (λ b. b.log) c.self.view_is) (inl settled.hand)

-- it is stored for the pass whose ask made it
pub returns-in-Ok-Some-clause-grows : goal.returns-in-Ok-Some-clause-grows
returns-in-Ok-Some-clause-grows g c =
    let stored = rw c.in-Ok-Some.field-0-is at c.in-Ok-Some.ensures.settled in
    let entry : Entry g.row.R-Rec.Denot = record { rec = c.in-Ok-Some.rec; pass = c.self.inside.maker } in
    settles_one c.args.self.now _ entry
    (c.take_in.ensures.known ∙ ap (λ b. b.log ++ entry ∷ []) c.self.view_is)
    (sym (ap (λ b. b.node.hand) c.self.view_is) ∙ stored.was, ap (λ b. b.maker) c.self.view_is)
    stored.hand
