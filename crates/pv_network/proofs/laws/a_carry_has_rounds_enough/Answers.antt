use Rattle.std.proofs.Common.{◌+◌, arith}
use Rattle.pv_traffic.specs.Link.{packet_room}
use Rattle.pv_network.specs.Traffic.{no_load}
use Rattle.pv_traffic.specs.declared.way.Way.TheVariants as ways
use Rattle.pv_network.proofs.Carrying.{rounds_suffice}
use Rattle.pv_network.proofs.laws.a_carry_has_rounds_enough.Goals as goal

-- each round before which another comes takes room
pub returns : goal.returns
returns c = λ w centre more there. rounds_suffice (packet_room w.links + 1) more centre w ways.Down no_load there (omega arith)
