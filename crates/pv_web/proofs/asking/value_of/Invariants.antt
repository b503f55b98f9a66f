use Rattle.std.proofs.Common.{◌≡◌, drop}
use Rattle.websocket.specs.Headers.{fields_of, header_value}
use Rattle.pv_web.proofs.asking.value_of.Given as goal

abbrev pub invariant-loop-header : goal.invariant-loop-header
invariant-loop-header l =
    header_value (fields_of l.input l.headers) l.name
    ≡ header_value (fields_of l.input (drop l.header-index l.headers)) l.name
