-- A centre's record, its spelling in bytes, and what is read as one.
use Rattle.std.specs.Prelude.{ℕ, zero, suc, ◌<◌, ◌^◌, ◌==◌, List, ◌∷◌, ◌++◌, Some, if◌then◌else◌}
use Rattle.std.specs.Int.{w64, to_be_bytes}
use Rattle.pv_fields.specs.Reading.{Parser, byte_at, number_at, nothing_at, ◌⊗◌, map_at, chain_at, rest_at, whole}
use Rattle.pv_page.specs.Names.{IsAccount}
use Rattle.pv_page.specs.Spelling.{account_bytes, account_number_at}
use Rattle.pv_post.specs.Spelling.{IsItem, item_bytes, item_at}
use Rattle.pv_edits.specs.Record.{record_after}
use Rattle.pv_edits.specs.Down.{IsDown, down_bytes}
use Rattle.pv_edits.specs.declared.down.DownRecord.{DownRecord}
use Rattle.pv_edits.specs.declared.down.DownRecord.TheVariants.{Whole, Blank}
use Rattle.pv_edits.specs.declared.down.TheConstants.{BLANK_TAG}
use Rattle.pv_irc.specs.declared.record.CentreRecord.{CentreRecord}
use Rattle.pv_irc.specs.declared.record.CentreRecord.TheVariants.{Applied, LogOn, Kept, Removed}

-- each part of the record is within its range
abbrev pub IsCentreRecord : CentreRecord → Type 0
IsCentreRecord (Applied n rec) = (n < 2 ^ 64) × IsDown rec
IsCentreRecord (LogOn account) = IsAccount account
IsCentreRecord (Kept item) = IsItem item
IsCentreRecord (Removed account number) = IsAccount account × (number < 2 ^ 64)

-- ---- how it is spelled

-- what an Applied has: its place in the edit list, and what came down
unfoldable pub applied_bytes : ℕ → DownRecord → List ℕ
applied_bytes n rec = to_be_bytes w64 n ++ down_bytes rec

-- what a Removed has: whose letter was removed, and its number
unfoldable pub removed_bytes : ℕ → ℕ → List ℕ
removed_bytes account number = account_bytes account ++ to_be_bytes w64 number

-- the first byte, which says what the record is
abbrev pub centre_tag : CentreRecord → ℕ
centre_tag (Applied n rec) = 1
centre_tag (LogOn account) = 2
centre_tag (Kept item) = 3
centre_tag (Removed account number) = 4

-- the other bytes
abbrev pub centre_body : CentreRecord → List ℕ
centre_body (Applied n rec) = applied_bytes n rec
centre_body (LogOn account) = account_bytes account
centre_body (Kept item) = item_bytes item
centre_body (Removed account number) = removed_bytes account number

-- its spelling: the tag, and the other bytes
unfoldable pub centre_bytes : CentreRecord → List ℕ
centre_bytes rec = centre_tag rec ∷ centre_body rec

-- ---- how it is read

-- what came down, after its first byte
abbrev pub down_after : ℕ → Parser DownRecord
down_after tag bytes = if tag == BLANK_TAG then Some (Blank, bytes) else map_at Whole (record_after tag) bytes

-- what came down, at the beginning of bytes
abbrev pub down_at : Parser DownRecord
down_at = chain_at byte_at down_after

-- what came down and takes all the bytes that are left
unfoldable pub down_at_end : Parser DownRecord
down_at_end = rest_at (whole down_at)

-- an Applied
unfoldable pub applied_at : Parser CentreRecord
applied_at = map_at (λ x. Applied x.0 x.1) (number_at w64 ⊗ down_at_end)

-- a Removed
unfoldable pub removed_at : Parser CentreRecord
removed_at = map_at (λ x. Removed x.0 x.1) (account_number_at ⊗ number_at w64)

-- how the other bytes are read after a tag
abbrev pub centre_after : ℕ → Parser CentreRecord
centre_after zero = nothing_at
centre_after (suc zero) = applied_at
centre_after (suc (suc zero)) = map_at LogOn account_number_at
centre_after (suc (suc (suc zero))) = map_at Kept item_at
centre_after (suc (suc (suc (suc zero)))) = removed_at
centre_after (suc (suc (suc (suc (suc other))))) = nothing_at

-- the record that bytes begin with
unfoldable pub centre_record_at : Parser CentreRecord
centre_record_at = chain_at byte_at centre_after
