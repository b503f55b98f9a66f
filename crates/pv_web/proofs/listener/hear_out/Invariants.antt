use Rattle.std.proofs.Common.{◌≤◌, ◌-◌, vec_len}
use Rattle.pv_web.proofs.listener.hear_out.Given as goal

abbrev pub invariant-loop-at : goal.invariant-loop-at
invariant-loop-at l = l.at ≤ vec_len l.visitors

abbrev pub decreases-loop-at : goal.decreases-loop-at
decreases-loop-at l = vec_len l.visitors - l.at
