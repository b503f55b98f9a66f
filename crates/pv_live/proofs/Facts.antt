-- Worked examples, computed from the definitions.
use Rattle.std.proofs.Common.{arith}
use Rattle.pv_live.specs.Opening.{IsPassCount}

-- a node may be opened with 1 to 64 passes
pub pass_counts : IsPassCount 1 × ¬ IsPassCount 0 × IsPassCount 64 × ¬ IsPassCount 65
pass_counts = ((omega arith, omega arith), (λ is. omega (arith, is.0)), (omega arith, omega arith), (λ is. omega (arith, is.1)))
