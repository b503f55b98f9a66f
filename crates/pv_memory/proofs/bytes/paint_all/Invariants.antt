use Rattle.std.proofs.Common.{◌≡◌, ℕ, ◌<◌, length, slice_index, take, if◌then◌else◌}
use Rattle.pv_memory.specs.Medium.{is_pending, pattern}
use Rattle.pv_memory.proofs.bytes.paint_all.Given as goal

-- the places in the ranges so far have the pattern
abbrev pub invariant-loop-range : goal.invariant-loop-range
invariant-loop-range l =
    (k : ℕ) → k < length l.text
    → slice_index l.text k ≡ (if is_pending (take l.range-index l.pending) k then pattern l.image k else slice_index l.initial.text k)
