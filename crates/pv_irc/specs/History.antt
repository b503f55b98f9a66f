-- What a list of a centre's records means: what it has applied of the edit list, its items, its log-ons, and the letters that wait.
use Rattle.std.specs.Prelude.{◌≡◌, ℕ, ◌+◌, ◌==◌, Bool, true, false, List, [], ◌∷◌, ◌++◌, length, take, slice_get, Option, Some, None}
use Rattle.std.specs.List.{filter_map, count_by, position_or_len}
use Rattle.pv_outside.specs.declared.limits.Limits.{Limits}
use Rattle.pv_fields.specs.Reading.{◌>>=◌}
use Rattle.pv_post.specs.Boxes.{WaitingLetter}
use Rattle.pv_post.specs.Waiting.{waiting_letters}
use Rattle.pv_post.specs.declared.removal.Removal.{Removal}
use Rattle.pv_post.specs.declared.item.Item.{Item}
use Rattle.pv_edits.specs.Letters.{letter_brought}
use Rattle.pv_edits.specs.declared.record.Record.{Record}
use Rattle.pv_edits.specs.declared.down.DownRecord.{DownRecord}
use Rattle.pv_edits.specs.declared.down.DownRecord.TheVariants.{Whole, Blank}
use Rattle.pv_irc.specs.declared.record.CentreRecord.{CentreRecord}
use Rattle.pv_irc.specs.declared.record.CentreRecord.TheVariants.{Applied, LogOn, Kept, Removed}

-- what was applied in a record
abbrev pub applied_in : CentreRecord → Option DownRecord
applied_in (Applied n rec) = Some rec
applied_in (LogOn account) = None
applied_in (Kept item) = None
applied_in (Removed account number) = None

-- the item that was kept in a record
abbrev pub kept_in : CentreRecord → Option Item
kept_in (Applied n rec) = None
kept_in (LogOn account) = None
kept_in (Kept item) = Some item
kept_in (Removed account number) = None

-- the record is of a log-on
abbrev pub is_log_on : CentreRecord → Bool
is_log_on (Applied n rec) = false
is_log_on (LogOn account) = true
is_log_on (Kept item) = false
is_log_on (Removed account number) = false

-- what the centre has applied of the edit list, in order
abbrev pub applied_records : List CentreRecord → List DownRecord
applied_records records = filter_map applied_in records

-- how many records of the edit list it has applied
abbrev pub applied_of : List CentreRecord → ℕ
applied_of records = length (applied_records records)

-- the items that it has kept, in order: the number of each is its index
abbrev pub items_of : List CentreRecord → List Item
items_of records = filter_map kept_in records

-- how many log-ons it has counted
abbrev pub log_ons_of : List CentreRecord → ℕ
log_ons_of records = count_by is_log_on records

-- the removals that it has stored, in order, each with the count of what was applied then; before the list this many were
abbrev pub removals_after : ℕ → List CentreRecord → List Removal
removals_after applied [] = []
removals_after applied (Applied n rec ∷ later) = removals_after (applied + 1) later
removals_after applied (LogOn account ∷ later) = removals_after applied later
removals_after applied (Kept item ∷ later) = removals_after applied later
removals_after applied (Removed account number ∷ later) =
    record { account = account; number = number; place = applied } ∷ removals_after applied later

-- the removals of a centre that has stored these records
abbrev pub removals_of : List CentreRecord → List Removal
removals_of records = removals_after 0 records

-- ---- the records that it has got whole

-- the record, if it came down whole
abbrev pub whole_in : DownRecord → Option Record
whole_in (Whole edit) = Some edit
whole_in Blank = None

-- the records that came down whole
abbrev pub whole_records : List DownRecord → List Record
whole_records downs = filter_map whole_in downs

-- the place of what came down, if it is a whole record
abbrev pub place_if_whole : ℕ → DownRecord → List ℕ
place_if_whole place (Whole edit) = place ∷ []
place_if_whole place Blank = []

-- the places of the records that came down whole, the first of the list having this one
abbrev pub whole_places : ℕ → List DownRecord → List ℕ
whole_places first [] = []
whole_places first (down ∷ later) = place_if_whole first down ++ whole_places (first + 1) later

-- ---- what a state shows of it

-- The centre's number and its limits. How many records of the edit list it has applied, and those of them that it has whole, with
-- their places there. Its items, how many log-ons it has counted, and the letters that were removed.
pub record CentreState : Type 0 where
  pub centre : ℕ
  pub limits : Limits
  pub applied : ℕ
  pub edits : List Record
  pub places : List ℕ
  pub items : List Item
  pub log_ons : ℕ
  pub removals : List Removal

-- the state of a centre that has stored these records
abbrev pub centre_state_of : ℕ → Limits → List CentreRecord → CentreState
centre_state_of centre limits records = record {
  centre = centre;
  limits = limits;
  applied = applied_of records;
  edits = whole_records (applied_records records);
  places = whole_places 0 (applied_records records);
  items = items_of records;
  log_ons = log_ons_of records;
  removals = removals_of records;
}

-- how many records a state has taken in
abbrev pub state_count : CentreState → ℕ
state_count state = state.applied + length state.items + state.log_ons + length state.removals

-- ---- the letters that wait

-- the letter that the whole record of an index brings to an account at a centre: it has this place in the edit list
abbrev pub letter_of_record : ℕ → ℕ → List Record → ℕ → ℕ → Option WaitingLetter
letter_of_record centre account edits place index = slice_get edits index >>= letter_brought centre account (take index edits) place

-- the letter that a place of the edit list brings to an account at a centre, if its record is among these, which have these places
abbrev pub letter_of_place : ℕ → ℕ → List Record → List ℕ → ℕ → Option WaitingLetter
letter_of_place centre account edits places place =
    letter_of_record centre account edits place (position_or_len (λ other. place == other) places)

-- the letter that a place brings, read from what came down: its record, if that came whole
abbrev pub letter_down : ℕ → ℕ → List DownRecord → ℕ → Option WaitingLetter
letter_down centre account downs place =
    slice_get downs place >>= whole_in >>= letter_brought centre account (whole_records (take place downs)) place

-- the letters that wait for an account: those that the applied records brought him, less those that were removed
abbrev pub letters_for : CentreState → ℕ → List WaitingLetter
letters_for state account =
    waiting_letters (letter_of_place state.centre account state.edits state.places) state.removals account state.applied

-- the state knows this of the edit list: what came down of it
pub record IsOfDowns (state : CentreState) (downs : List DownRecord) : Type 0 where
  pub applied : state.applied ≡ length downs
  pub edits : state.edits ≡ whole_records downs
  pub places : state.places ≡ whole_places 0 downs

-- ---- with one record more

-- with a record of the edit list applied
abbrev pub with_down : CentreState → DownRecord → CentreState
with_down state (Whole edit) = record state {
  applied = state.applied + 1;
  edits = state.edits ++ edit ∷ [];
  places = state.places ++ state.applied ∷ [];
}
with_down state Blank = record state { applied = state.applied + 1 }

-- with a record of the centre's
abbrev pub with_centre_record : CentreState → CentreRecord → CentreState
with_centre_record state (Applied n rec) = with_down state rec
with_centre_record state (LogOn account) = record state { log_ons = state.log_ons + 1 }
with_centre_record state (Kept item) = record state { items = state.items ++ item ∷ [] }
with_centre_record state (Removed account number) = record state {
  removals = state.removals ++ record { account = account; number = number; place = state.applied } ∷ [];
}
