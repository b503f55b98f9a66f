use Rattle.pv_service.proofs.Carrying.{makes_more, makes_last}
use Rattle.pv_service.proofs.carrier_stand.make_rounds.Goals as goal

pub loop-preserved-then-stored : goal.loop-preserved-then-stored
loop-preserved-then-stored g c =
    let end = c.carry_round-end.ensures in (
      tt,
      tt,
      makes_more _ _ _ _ _ _ _ g.row.C _ _ _ _ _ _ c.loop.invariant.2
          (record { round = end.round; cause = end.cause; right = end.right; carried = end.carried; seen = end.seen })
          c.after_round.ensures.memory c.in-Again.ensures.goes,
    )

pub loop-preserved-else-stored : goal.loop-preserved-else-stored
loop-preserved-else-stored g c =
    let end = c.carry_round-end.ensures in (
      tt,
      tt,
      makes_more _ _ _ _ _ _ _ g.row.C _ _ _ _ _ _ c.loop.invariant.2
          (record { round = end.round; cause = end.cause; right = end.right; carried = end.carried; seen = end.seen })
          c.after_round.ensures.memory c.in-Again.ensures.goes,
    )

pub loop-preserved : goal.loop-preserved
loop-preserved g c =
    let end = c.carry_round-end.ensures in (
      tt,
      tt,
      makes_more _ _ _ _ _ _ _ g.row.C _ _ _ _ _ _ c.loop.invariant.2
          (record { round = end.round; cause = end.cause; right = end.right; carried = end.carried; seen = end.seen })
          c.after_round.ensures.memory c.in-Sleep.ensures.goes,
    )

-- this round was the last
pub returns-in-End : goal.returns-in-End
returns-in-End g c =
    let end = c.carry_round-end.ensures in
    makes_last _ _ _ _ _ _ _ g.row.C _ _ _ _ _ _ c.loop.invariant.2
    (record { round = end.round; cause = end.cause; right = end.right; carried = end.carried; seen = end.seen })
    c.after_round.ensures.memory c.in-End.fault c.in-End.ensures.goes
