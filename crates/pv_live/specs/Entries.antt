-- Records with the numbers of their passes.
use Rattle.std.specs.Prelude.{List, ◌++◌, map}
use Rattle.pv_live.specs.declared.entry.Entry.{Entry}

-- the records of these entries
abbrev pub records_in : {T : Type 0} → List (Entry T) → List T
records_in log = map (λ entry. entry.rec) log

-- all records: those of the opening, and then those of these entries
abbrev pub with_opening : {T : Type 0} → List T → List (Entry T) → List T
with_opening opening log = opening ++ records_in log
