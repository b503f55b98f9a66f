-- What a state of the Update Centre shows: its edit list, and the limits that it was opened with.
use Rattle.std.specs.Prelude.{ℕ, List, [], ◌∷◌, ◌++◌, length}
use Rattle.std.specs.List.{range_with_len}
use Rattle.pv_outside.specs.declared.limits.Limits.{Limits}
use Rattle.pv_edits.specs.declared.record.Record.{Record}

-- the records, oldest first, and the limits
pub record EditList : Type 0 where
  pub limits : Limits
  pub records : List Record

-- the list of no records
abbrev pub empty_list : Limits → EditList
empty_list limits = record { limits = limits; records = [] }

-- with one record more
abbrev pub with_record : EditList → Record → EditList
with_record list edit = record list { records = list.records ++ edit ∷ [] }

-- the places of the records: 0, 1, 2 and on
abbrev pub all_places : List Record → List ℕ
all_places records = range_with_len 0 (length records)
