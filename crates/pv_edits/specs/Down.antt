-- What a centre gets of a record, its spelling in bytes, and what is read as such.
use Rattle.std.specs.Prelude.{ℕ, List, [], ◌∷◌}
use Rattle.pv_edits.specs.Record.{IsRecord, record_tag, record_body}
use Rattle.pv_edits.specs.declared.down.DownRecord.{DownRecord}
use Rattle.pv_edits.specs.declared.down.DownRecord.TheVariants.{Whole, Blank}
use Rattle.pv_edits.specs.declared.down.TheConstants.{BLANK_TAG}

-- each part is within its range
abbrev pub IsDown : DownRecord → Type 0
IsDown (Whole edit) = IsRecord edit
IsDown Blank = Unit {0}

-- the first byte: the record's, or the one that says that the record is left out
abbrev pub down_tag : DownRecord → ℕ
down_tag (Whole edit) = record_tag edit
down_tag Blank = BLANK_TAG

-- the other bytes
abbrev pub down_body : DownRecord → List ℕ
down_body (Whole edit) = record_body edit
down_body Blank = []

-- its spelling: the tag, and the other bytes
unfoldable pub down_bytes : DownRecord → List ℕ
down_bytes down = down_tag down ∷ down_body down
