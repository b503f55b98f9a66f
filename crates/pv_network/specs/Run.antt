-- The edit list as a run from nothing: each record is one that could be stored after those before it.
use Rattle.std.specs.Prelude.{◌≡◌, ℕ, ◌<◌, List, length, take, Some, slice_get}
use Rattle.pv_outside.specs.declared.limits.Limits.{Limits}
use Rattle.pv_edits.specs.declared.record.Record.{Record}
use Rattle.pv_udc.specs.Numbers.{IsStoredAt}

-- each record follows those before it in this way
abbrev pub EachFollows : (List Record → Record → Type 0) → List Record → Type 0
EachFollows Follows edits = (place : ℕ) (edit : Record) → slice_get edits place ≡ Some edit → Follows (take place edits) edit

-- The record may be stored after these: the Update Centre stores it there on some request, so that it is its editor's next
-- edit, his to make and valid; and there is room for one more record.
pub record MayFollow (limits : Limits) (before : List Record) (edit : Record) : Type 0 where
  pub judged : IsStoredAt limits before edit
  pub record_room : length before < limits.records

-- each record of the list may follow those before it
abbrev pub IsEditRun : Limits → List Record → Type 0
IsEditRun limits edits = EachFollows (MayFollow limits) edits
