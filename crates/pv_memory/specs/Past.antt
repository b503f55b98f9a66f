-- What a disk in memory keeps of its last calls, from which the moments before them are known.
use Rattle.std.specs.Prelude.{ℕ, ◌+◌, List, [], ◌∷◌, ◌++◌, take, drop, nat_lt, if◌then◌else◌}
use Rattle.pv_outside.specs.declared.disk.TheConstants.{KEPT_BYTES, KEPT_CALLS}
use Rattle.pv_memory.specs.declared.past.Range.{Range}
use Rattle.pv_memory.specs.Medium.{Moment}

-- What one call has changed: the range that it wrote, and the bytes that were there before. Also which ranges were written
-- between the last sync and the call, and the end that the disk had at that sync.
pub record Change : Type 0 where
  pub range : Range
  pub replaced : List ℕ
  pub pending : List Range
  pub end : ℕ

-- the text before this change
abbrev pub text_before : Change → List ℕ → List ℕ
text_before c text = take c.range.at text ++ c.replaced ++ drop (c.range.at + c.range.size) text

-- the moments before each of these changes, newest first, of a disk that has this text now
abbrev pub moments_before : List ℕ → List Change → List Moment
moments_before text [] = []
moments_before text (c ∷ changes) =
    record { text = text_before c text; end = c.end; pending = c.pending } ∷ moments_before (text_before c text) changes

-- what is kept once this change was made: the last changes, or none after a large write
abbrev pub changes_after : Change → List Change → List Change
changes_after c changes = if nat_lt KEPT_BYTES c.range.size then [] else take KEPT_CALLS (c ∷ changes)
