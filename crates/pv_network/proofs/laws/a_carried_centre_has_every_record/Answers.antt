use Rattle.std.proofs.Common.{◌+◌}
use Rattle.pv_traffic.specs.Link.{packet_room}
use Rattle.pv_network.specs.Traffic.{no_load}
use Rattle.pv_traffic.specs.declared.way.Way.TheVariants as ways
use Rattle.pv_network.proofs.Carried.{carried_has_both}
use Rattle.pv_network.proofs.laws.a_carried_centre_has_every_record.Goals as goal

-- Both ends are idle once they heard of all, and they heard of no more than was received.
pub returns-clause-records : goal.returns-clause-records
returns-clause-records c = λ w centre records items sound is.
    (carried_has_both records items centre (packet_room w.links + 1) w ways.Down no_load sound is).0

pub returns-clause-items : goal.returns-clause-items
returns-clause-items c = λ w centre records items sound is.
    (carried_has_both records items centre (packet_room w.links + 1) w ways.Down no_load sound is).1
