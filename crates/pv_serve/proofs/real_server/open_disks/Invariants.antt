use Rattle.std.proofs.Common.{◌≡◌, vec_len}
use Rattle.pv_serve.proofs.real_server.open_disks.Given as goal

-- there is a disk for each name up to here
abbrev pub invariant-loop-name : goal.invariant-loop-name
invariant-loop-name g l = record { count : vec_len l.disks ≡ l.name-index }
