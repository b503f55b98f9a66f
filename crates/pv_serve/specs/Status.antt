-- The number that a process ends with.
use Rattle.std.specs.Prelude.{ℕ}
use Rattle.pv_serve.specs.declared.status.ServeStatus.{ServeStatus}
use Rattle.pv_serve.specs.declared.status.ServeStatus.TheVariants.{Done, Usage, Memory, DiskFault, Unopened, DoorFault, NoStart, Full}

-- the exit status of each end
abbrev pub serve_number : {D F : Type 0} → ServeStatus D F → ℕ
serve_number Done = 0
serve_number Usage = 2
serve_number Memory = 6
serve_number (DiskFault failure) = 8
serve_number (Unopened node fault) = 9
serve_number DoorFault = 10
serve_number NoStart = 11
serve_number (Full node count) = 12
