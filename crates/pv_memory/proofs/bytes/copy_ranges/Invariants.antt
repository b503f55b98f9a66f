use Rattle.std.proofs.Common.{◌≡◌, ℕ, ◌<◌, false, length, slice_index, drop}
use Rattle.pv_memory.specs.Medium.{is_pending}
use Rattle.pv_memory.proofs.bytes.copy_ranges.Given as goal

-- the copy differs from the text only in the ranges that are left
abbrev pub invariant-loop-range : goal.invariant-loop-range
invariant-loop-range l =
    (k : ℕ) → k < length l.initial.copy → is_pending (drop l.range-index l.pending) k ≡ false → slice_index l.copy k ≡ slice_index l.text k
