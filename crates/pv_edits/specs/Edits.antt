-- What a list of records means, oldest first: frames, accounts, and editors' numbers. The last record about something counts.
use Rattle.std.specs.Prelude.{ℕ, suc, ◌==◌, ◌&&◌, Bool, false, List, [], ◌∷◌, Option, Some, None, slice_get, option_map, codes, if◌then◌else◌}
use Rattle.std.specs.List.{count_by}
use Rattle.pv_fields.specs.Reading.{◌>>=◌}
use Rattle.pv_page.specs.Names.{Name}
use Rattle.pv_frame.specs.Content.{Content}
use Rattle.pv_account.specs.Profile.{Profile, digest_of}
use Rattle.pv_edits.specs.declared.record.Record.{Record}
use Rattle.pv_edits.specs.declared.record.Record.TheVariants.{Put, Drop, Account, Lease, Taken}
use Rattle.pv_edits.specs.declared.room.TheConstants.{OPERATOR}
use Rattle.pv_edits.specs.declared.subject.Subject.{Subject}
use Rattle.pv_edits.specs.declared.subject.Subject.TheVariants as about

-- two names are the same
abbrev pub is_name : Name → Name → Bool
is_name a b = a.page == b.page && a.letter == b.letter

-- the record gives the name a frame, or takes it away
abbrev pub names : Name → Record → Bool
names name (Put editor q other frame) = is_name name other
names name (Drop editor q other) = is_name name other
names name (Account editor q account) = false
names name (Lease editor q root account) = false
names name (Taken taken) = false

-- the record is of this account
abbrev pub makes : ℕ → Record → Bool
makes number (Put editor q name frame) = false
makes number (Drop editor q name) = false
makes number (Account editor q account) = number == account.number
makes number (Lease editor q root account) = false
makes number (Taken taken) = false

-- the record leases this root
abbrev pub leases : ℕ → Record → Bool
leases page (Put editor q name frame) = false
leases page (Drop editor q name) = false
leases page (Account editor q account) = false
leases page (Lease editor q root account) = page == root
leases page (Taken taken) = false

-- the record is an edit of this editor
abbrev pub is_edit_of : ℕ → Record → Bool
is_edit_of account (Put editor q name frame) = account == editor
is_edit_of account (Drop editor q name) = account == editor
is_edit_of account (Account editor q profile) = account == editor
is_edit_of account (Lease editor q root lessee) = account == editor
is_edit_of account (Taken taken) = false

-- the record is about this
abbrev pub is_about : Subject → Record → Bool
is_about (about.Name name) edit = names name edit
is_about (about.Account number) edit = makes number edit
is_about (about.Root page) edit = leases page edit
is_about (about.Editor account) edit = is_edit_of account edit

-- ---- the last record about something

-- an index in a list that is one longer, or that of the first element if it passes
abbrev pub later_or_first : Bool → Option ℕ → Option ℕ
later_or_first passes (Some later) = Some (suc later)
later_or_first passes None = if passes then Some 0 else None

-- the index of the last record that passes a test
abbrev pub last_index : (Record → Bool) → List Record → Option ℕ
last_index test [] = None
last_index test (edit ∷ later) = later_or_first (test edit) (last_index test later)

-- the last record that passes a test
abbrev pub last_record : (Record → Bool) → List Record → Option Record
last_record test records = last_index test records >>= slice_get records

-- ---- what it says

-- the frame that the record gives its name
abbrev pub frame_in : Record → Option Content
frame_in (Put editor q name frame) = Some frame
frame_in (Drop editor q name) = None
frame_in (Account editor q account) = None
frame_in (Lease editor q root account) = None
frame_in (Taken taken) = None

-- the account that the record makes
abbrev pub account_in : Record → Option Profile
account_in (Put editor q name frame) = None
account_in (Drop editor q name) = None
account_in (Account editor q account) = Some account
account_in (Lease editor q root account) = None
account_in (Taken taken) = None

-- the number of the edit
abbrev pub number_in : Record → Option ℕ
number_in (Put editor q name frame) = Some q
number_in (Drop editor q name) = Some q
number_in (Account editor q account) = Some q
number_in (Lease editor q root account) = Some q
number_in (Taken taken) = None

-- the frame of a name
abbrev pub frame_at : List Record → Name → Option Content
frame_at records name = last_record (names name) records >>= frame_in

-- the operator, as he is at first: his account with the password 0000, at centre 0, in no group
abbrev pub operator_profile : Profile
operator_profile = record { number = OPERATOR; digest = digest_of OPERATOR (codes "0000"); home = 0; groups = [] }

-- the operator, if the number is his
abbrev pub first_account : ℕ → Option Profile
first_account number = if number == OPERATOR then Some operator_profile else None

-- what the last record of an account says, or the operator if there is none
abbrev pub account_or_first : ℕ → Option Record → Option Profile
account_or_first number (Some edit) = account_in edit
account_or_first number None = first_account number

-- the account of a number
abbrev pub account_at : List Record → ℕ → Option Profile
account_at records number = account_or_first number (last_record (makes number) records)

-- an editor's last number, and the place of his last record, if these are the places of the records
abbrev pub last_of : List Record → List ℕ → ℕ → Option (ℕ × ℕ)
last_of records places editor =
    last_index (is_edit_of editor) records >>= λ i. slice_get records i >>= λ edit. slice_get places i >>= λ place.
    option_map (λ q. (q, place)) (number_in edit)

-- the item was taken up from this centre
abbrev pub is_of_centre : ℕ → Record → Bool
is_of_centre centre (Put editor q name frame) = false
is_of_centre centre (Drop editor q name) = false
is_of_centre centre (Account editor q account) = false
is_of_centre centre (Lease editor q root account) = false
is_of_centre centre (Taken taken) = taken.centre == centre

-- how many items were taken up from a centre
abbrev pub taken_of : List Record → ℕ → ℕ
taken_of records centre = count_by (is_of_centre centre) records
