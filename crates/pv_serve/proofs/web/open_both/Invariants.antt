use Rattle.std.proofs.Common.{◌≡◌, ◌<◌, ◌*◌, All, vec_len}
use Rattle.pv_service.specs.declared.caller_stand.TheConstants.{MAX_ACCEPTED}
use Rattle.pv_serve.proofs.web.open_both.Given as goal

-- each centre up to here has its doors
abbrev pub invariant-loop-centre : goal.invariant-loop-centre
invariant-loop-centre g l = record {
  count : vec_len l.doors ≡ l.centre * l.options.server.ports;
  room : All (λ logged. logged.door.counts.accepted < MAX_ACCEPTED) l.doors.items;
}
