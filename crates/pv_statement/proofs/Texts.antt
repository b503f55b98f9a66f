-- How long the parts of a statement's lines are.
use Rattle.std.proofs.Common.{◌≡◌, ℕ, ◌+◌, ◌^◌, ◌<◌, ◌≤◌, length, decimal, arith}
use Rattle.std.proofs.lemmas.Fmt.{length-decimal-le}
use Rattle.std.proofs.lemmas.Grind.{common_steps}
use Rattle.pv_fields.proofs.CallerLemmas.{appends_then, slice_after}

-- a year has at most four digits, a price at most two, and any sum at most twenty
pub length-year : (year : ℕ) → year ≤ 9999 → length (decimal year) ≤ 4
length-year year within = length-decimal-le 4 year (omega arith) (omega arith) (omega arith)

pub length-price : (price : ℕ) → price ≤ 99 → length (decimal price) ≤ 2
length-price price within = length-decimal-le 2 price (omega arith) (omega arith) (omega arith)

-- what the code that spells lines follows from
pub ruleset spelled = (common_steps, appends_then, slice_after)
