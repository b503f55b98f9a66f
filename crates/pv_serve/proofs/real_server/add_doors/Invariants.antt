use Rattle.std.proofs.Common.{◌≡◌, ◌<◌, ◌+◌, All, vec_len}
use Rattle.pv_service.specs.declared.caller_stand.TheConstants.{MAX_ACCEPTED}
use Rattle.pv_serve.proofs.real_server.add_doors.Given as goal

-- this many doors were added, and the first one is to come
abbrev pub invariant-loop : goal.invariant-loop
invariant-loop g l = record {
  count : vec_len l.doors + 1 ≡ vec_len l.fn.doors + l.counter;
  room : All (λ logged. logged.door.counts.accepted < MAX_ACCEPTED) l.doors.items;
}
