use Rattle.std.proofs.Common.{◌≡◌, ℕ, ◌<◌, length, slice_index, nat_le, nat_lt, ◌&&◌, if◌then◌else◌}
use Rattle.pv_memory.specs.Medium.{pattern}
use Rattle.pv_memory.proofs.bytes.paint.Given as goal

-- the places up to here have the pattern
abbrev pub invariant-loop-place : goal.invariant-loop-place
invariant-loop-place l =
    (k : ℕ) → k < length l.text
    → slice_index l.text k ≡ (if nat_le l.fn.range.at k && nat_lt k l.place then pattern l.image k else slice_index l.initial.text k)
