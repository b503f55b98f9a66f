-- A record, its spelling in bytes, and what is read as a record.
use Rattle.std.specs.Prelude.{ℕ, zero, suc, ◌<◌, ◌^◌, List, ◌∷◌, ◌++◌, Option}
use Rattle.std.specs.Int.{w32, to_be_bytes}
use Rattle.std.specs.Result.{result_ok}
use Rattle.pv_fields.specs.Reading.{Parser, byte_at, number_at, nothing_at, ◌⊗◌, map_at, chain_at, rest_at}
use Rattle.pv_page.specs.Names.{Name, IsPage, IsAccount, IsName}
use Rattle.pv_page.specs.Spelling.{page_bytes, page_at, account_bytes, account_number_at, name_bytes, name_at}
use Rattle.pv_frame.specs.Content.{Content}
use Rattle.pv_frame.specs.Spelling.{HasSpelling, spelling_of}
use Rattle.pv_frame.specs.Reading.{decode_of}
use Rattle.pv_account.specs.Profile.{Profile, IsProfile, profile_bytes, profile_at}
use Rattle.pv_edits.specs.Taken.{IsTakenUp, taken_bytes, taken_at}
use Rattle.pv_edits.specs.declared.record.Record.{Record}
use Rattle.pv_edits.specs.declared.record.Record.TheVariants.{Put, Drop, Account, Lease, Taken}

-- an editor and the number of an edit
pub record IsEditor (editor q : ℕ) : Type 0 where
  pub account : IsAccount editor
  pub number : q < 2 ^ 32

-- each part of the record is within its range
abbrev pub IsRecord : Record → Type 0
IsRecord (Put editor q name frame) = IsEditor editor q × (IsName name × HasSpelling frame)
IsRecord (Drop editor q name) = IsEditor editor q × IsName name
IsRecord (Account editor q account) = IsEditor editor q × IsProfile account
IsRecord (Lease editor q root account) = IsEditor editor q × (IsPage root × IsAccount account)
IsRecord (Taken taken) = IsTakenUp taken

-- ---- how records are spelled

-- who edits, and his number
abbrev pub editor_bytes : ℕ → ℕ → List ℕ
editor_bytes editor q = account_bytes editor ++ to_be_bytes w32 q

-- after that, what a Put has
unfoldable pub put_bytes : ℕ → ℕ → Name → Content → List ℕ
put_bytes editor q name frame = editor_bytes editor q ++ (name_bytes name ++ spelling_of frame)

-- what a Drop has
unfoldable pub drop_bytes : ℕ → ℕ → Name → List ℕ
drop_bytes editor q name = editor_bytes editor q ++ name_bytes name

-- what an Account has
unfoldable pub account_edit_bytes : ℕ → ℕ → Profile → List ℕ
account_edit_bytes editor q account = editor_bytes editor q ++ profile_bytes account

-- what a Lease has
unfoldable pub lease_bytes : ℕ → ℕ → ℕ → ℕ → List ℕ
lease_bytes editor q root account = editor_bytes editor q ++ (page_bytes root ++ account_bytes account)

-- the first byte, which says what the record is
abbrev pub record_tag : Record → ℕ
record_tag (Put editor q name frame) = 1
record_tag (Drop editor q name) = 2
record_tag (Account editor q account) = 3
record_tag (Lease editor q root account) = 4
record_tag (Taken taken) = 5

-- the other bytes
abbrev pub record_body : Record → List ℕ
record_body (Put editor q name frame) = put_bytes editor q name frame
record_body (Drop editor q name) = drop_bytes editor q name
record_body (Account editor q account) = account_edit_bytes editor q account
record_body (Lease editor q root account) = lease_bytes editor q root account
record_body (Taken taken) = taken_bytes taken

-- its spelling: the tag, and the other bytes
unfoldable pub record_bytes : Record → List ℕ
record_bytes edit = record_tag edit ∷ record_body edit

-- ---- how records are read

-- the frame that all of the bytes spell
unfoldable pub frame_of_bytes : List ℕ → Option Content
frame_of_bytes bytes = result_ok (decode_of bytes)

-- a frame that takes all the bytes that are left
abbrev pub frame_at_end : Parser Content
frame_at_end = rest_at frame_of_bytes

-- the Put that bytes begin with
unfoldable pub put_at : Parser Record
put_at = map_at (λ x. Put x.0 x.1.0 x.1.1.0 x.1.1.1) (account_number_at ⊗ number_at w32 ⊗ name_at ⊗ frame_at_end)

-- the Drop
unfoldable pub drop_at : Parser Record
drop_at = map_at (λ x. Drop x.0 x.1.0 x.1.1) (account_number_at ⊗ number_at w32 ⊗ name_at)

-- the Account
unfoldable pub account_edit_at : Parser Record
account_edit_at = map_at (λ x. Account x.0 x.1.0 x.1.1) (account_number_at ⊗ number_at w32 ⊗ profile_at)

-- the Lease
unfoldable pub lease_at : Parser Record
lease_at = map_at (λ x. Lease x.0 x.1.0 x.1.1.0 x.1.1.1) (account_number_at ⊗ number_at w32 ⊗ page_at ⊗ account_number_at)

-- how the other bytes are read after a tag
abbrev pub record_after : ℕ → Parser Record
record_after zero = nothing_at
record_after (suc zero) = put_at
record_after (suc (suc zero)) = drop_at
record_after (suc (suc (suc zero))) = account_edit_at
record_after (suc (suc (suc (suc zero)))) = lease_at
record_after (suc (suc (suc (suc (suc zero))))) = map_at Taken taken_at
record_after (suc (suc (suc (suc (suc (suc other)))))) = nothing_at

-- the record that bytes begin with
unfoldable pub record_at : Parser Record
record_at = chain_at byte_at record_after
