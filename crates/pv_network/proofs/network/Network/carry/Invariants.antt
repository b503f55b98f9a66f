use Rattle.std.proofs.Common.{◌≡◌, ◌+◌, ◌≤◌, length}
use Rattle.pv_traffic.specs.Link.{packet_room}
use Rattle.pv_traffic.specs.declared.packets.TheConstants.{MAX_PACKETS}
use Rattle.pv_network.specs.Standing.{StandsFor}
use Rattle.pv_network.specs.World.{World}
use Rattle.pv_network.proofs.Carrying.{Rest}
use Rattle.pv_network.proofs.network.Network.carry.Given as goal

-- the rounds so far are a prefix of the carry, and all that was taken took a packet
abbrev pub invariant-rounds : goal.invariant-rounds
invariant-rounds l = record {
  rest : (w : World) → StandsFor l.fn.self w → Rest l.centre w l.way l.load l.self;
  centres : length l.self.centres ≡ length l.fn.self.centres;
  counted : l.load.records + l.load.items + packet_room l.self.links ≤ MAX_PACKETS;
}

abbrev pub decreases-rounds : goal.decreases-rounds
decreases-rounds l = packet_room l.self.links
