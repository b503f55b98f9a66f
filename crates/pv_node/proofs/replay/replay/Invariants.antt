use Rattle.std.proofs.Common.{◌≡◌, ◌-◌, ◌≤◌}
use Rattle.std.specs.Vec.{vec_capacity}
use Rattle.pv_node.specs.Trail.{trail_records}
use Rattle.pv_node.proofs.Reading.{GoesOn}
use Rattle.pv_node.proofs.replay.replay.Given as goal

-- the records that were read so far are noted, and there is room for all that may come
abbrev pub invariant-loop : goal.invariant-loop
invariant-loop g l =
    (so_far : GoesOn g.R.Rules g.D.Reports l.initial.journal l.journal l.initial.state l.state) × (so_far.records ≡ trail_records l.trail.items)
    × (l.journal.limit ≤ vec_capacity l.trail)

abbrev pub decreases-loop : goal.decreases-loop
decreases-loop g l = l.journal.limit - l.journal.count
