-- The representation of the bytes that are gathered: some of a fixed number of places, with zeros after them; and what is keyed
-- into a field.
use Rattle.std.specs.Prelude.{◌≡◌, ℕ, ◌<◌, ◌≤◌, Bool, true, List, length}
use Rattle.std.specs.List.{list_all}
use Rattle.pv_fields.specs.Padded.{IsPadded}
use Rattle.pv_frame.specs.declared.field.Field.{Field}
use Rattle.pv_post.specs.declared.filled.TheConstants.{FILLED_BYTES}
use Rattle.pv_session.specs.Entries.{takes_byte}

-- there are fewer bytes than places, and zeros after them
pub record AreGathered (size count : ℕ) (bytes : List ℕ) : Type 0 where
  pub padded : IsPadded 0 size count bytes
  pub few : count < size

-- a field that is being filled: whether it must be full, and what was keyed into it
pub record FieldReading : Type 0 where
  pub field : Field
  pub full : Bool
  pub keyed : List ℕ

-- the field takes each byte that was keyed and has a cell for each, and it is no longer than a row
pub record IsFieldReading (reading : FieldReading) : Type 0 where
  pub bytes : list_all (takes_byte reading.field.kind) reading.keyed ≡ true
  pub fits : length reading.keyed ≤ reading.field.length
  pub row : reading.field.length ≤ FILLED_BYTES
