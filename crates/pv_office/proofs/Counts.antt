-- How long the line of the counts is.
use Rattle.std.proofs.Common.{ℕ, ◌^◌, ◌<◌, ◌≤◌, length, decimal, arith}
use Rattle.std.proofs.lemmas.Fmt.{length-decimal-le}
use Rattle.std.proofs.lemmas.Grind.{common_steps}
use Rattle.pv_fields.proofs.CallerLemmas.{appends_then, slice_after}

-- a count has at most ten digits
pub length-count : (count : ℕ) → count < 2 ^ 32 → length (decimal count) ≤ 10
length-count count within = length-decimal-le 10 count (omega arith) (omega arith) (omega arith)

-- what the code that spells the line follows from
pub ruleset spelled = (common_steps, appends_then, slice_after)
