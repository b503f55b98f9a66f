-- The records that a trail of snapshots notes.
use Rattle.std.specs.Prelude.{List, map}
use Rattle.std.specs.declared.snapshot.Snapshot.{Snapshot}

-- what each snapshot is of, in order
abbrev pub trail_records : {T : Type 0} → List (Snapshot T) → List T
trail_records trail = map (λ snapshot. snapshot.value) trail
