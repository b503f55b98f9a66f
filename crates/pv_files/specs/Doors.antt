-- A port as a door.
use Rattle.std.specs.Prelude.{◌≡◌}
use Rattle.pv_files.specs.declared.door.TcpDoor.{TcpDoor}

-- no line has come in or was given back, and no accept has failed
abbrev pub IsNewDoor : {L Line : Type 0} → TcpDoor L Line → Type 0
IsNewDoor door = (door.counts.faults ≡ 0) × (door.counts.accepted ≡ 0) × (door.counts.finished ≡ 0)
