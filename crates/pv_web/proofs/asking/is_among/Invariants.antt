use Rattle.std.proofs.Common.{◌≡◌, drop, map, string_bytes}
use Rattle.pv_web.specs.Asking.{is_among}
use Rattle.pv_web.proofs.asking.is_among.Given as goal

abbrev pub invariant-loop-name : goal.invariant-loop-name
invariant-loop-name l =
    is_among (map string_bytes l.names) l.text ≡ is_among (map string_bytes (drop l.name-index l.names)) l.text
