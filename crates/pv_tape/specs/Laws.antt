-- What any list of runs of one tape leaves, each cut anywhere or whole.
use Rattle.std.specs.Prelude.{◌≡◌, ℕ, Bool, false, ◌&&◌, nat_le, List, [], ◌∷◌, ◌++◌, length, take, filter, Option, Some, None}
use Rattle.std.specs.List.{AllByRecursion}
use Rattle.pv_edits.specs.Edits.{is_edit_of, number_in}
use Rattle.pv_edits.specs.declared.record.Record.{Record}
use Rattle.pv_tape.specs.Loading.{wanted_records}
use Rattle.pv_tape.specs.Tape.{TapeEdit}
use Rattle.pv_tape.specs.declared.head.Head.{Head}

-- A run: what was stored since the run before it, and how many of the edits that it asked for are stored. One that was in hand when
-- it was cut, and is found stored in the settling that comes next, counts among them.
pub record Run : Type 0 where
  pub others : List Record
  pub stored : ℕ

-- the run of which this many edits are stored, and before which nothing else was
abbrev pub lone_run : ℕ → Run
lone_run stored = record { others = []; stored = stored }

-- what a run asks for
abbrev pub wanted_in_run : Head → List TapeEdit → List Record → Run → List Record
wanted_in_run head edits records run = wanted_records (records ++ run.others) head edits

-- the records after a run
abbrev pub records_after_run : Head → List TapeEdit → List Record → Run → List Record
records_after_run head edits records run = (records ++ run.others) ++ take run.stored (wanted_in_run head edits records run)

-- a run is whole: all that it asked for is stored
abbrev pub IsWhole : Head → List TapeEdit → List Record → Run → Type 0
IsWhole head edits records run = run.stored ≡ length (wanted_in_run head edits records run)

-- the records after these runs
abbrev pub records_after_runs : Head → List TapeEdit → List Record → List Run → List Record
records_after_runs head edits records [] = records
records_after_runs head edits records (run ∷ runs) = records_after_runs head edits (records_after_run head edits records run) runs

-- no record is an edit of the account
abbrev pub HasNoEdits : ℕ → List Record → Type 0
HasNoEdits account records = AllByRecursion (λ edit. is_edit_of account edit ≡ false) records

-- no edit of the account comes between the runs
abbrev pub HasOnlyOthers : ℕ → List Run → Type 0
HasOnlyOthers account runs = AllByRecursion (λ run. HasNoEdits account run.others) runs

-- the number is at least this
abbrev pub is_from : ℕ → Option ℕ → Bool
is_from first None = false
is_from first (Some q) = nat_le first q

-- the account's edits that are numbered from this number on
abbrev pub edits_from : ℕ → ℕ → List Record → List Record
edits_from account first records = filter (λ edit. is_edit_of account edit && is_from first (number_in edit)) records
