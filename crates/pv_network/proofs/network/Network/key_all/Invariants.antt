use Rattle.std.proofs.Common.{◌≡◌, length}
use Rattle.pv_network.specs.Standing.{StandsFor}
use Rattle.pv_network.specs.World.{World}
use Rattle.pv_network.proofs.Keying.{Taken}
use Rattle.pv_network.proofs.network.Network.key_all.Given as goal

-- the keys before the rest were taken
abbrev pub invariant-loop-byte : goal.invariant-loop-byte
invariant-loop-byte l = record {
  taken : (w : World) → StandsFor l.fn.self w → Taken l.centre l.port l.fn.text l.fn.turns w l.rest l.self l.turns;
  centres : length l.self.centres ≡ length l.fn.self.centres;
}

abbrev pub decreases-loop-byte : goal.decreases-loop-byte
decreases-loop-byte l = length l.rest
