use Rattle.std.proofs.Common.{◌≡◌, Some, length, sym, ap, ◌∙◌}
use Rattle.std.proofs.lemmas.List.{length-set}
use Rattle.pv_network.specs.Standing.{State, StandsFor}
use Rattle.pv_network.specs.Traffic.{step_of_acknowledging}
use Rattle.pv_network.specs.World.{World}
use Rattle.pv_network.proofs.Performing.{acknowledges}
use Rattle.pv_network.proofs.network.Network.acknowledge.Goals as goal
use Rattle.pv_network.proofs.network.Network.acknowledge.Goals.{After-acknowledge}

-- the network as it was
abbrev before : After-acknowledge → State
before c =
    let n = c.self.inside in
    record {
      update = n.update.state;
      disk = n.update.disk;
      moment = n.moment;
      seats = n.seats;
      centres = n.centres.items;
      links = n.links;
      is_out = n.is_out;
    }

-- the link has one acknowledgement more
made : (c : After-acknowledge) (w : World) → StandsFor (before c) w
    → StandsFor (record (before c) { links = c.acknowledge.new.self }) (step_of_acknowledging c.args.way w c.args.centre).0 ×
    (Some c.acknowledge.result ≡ (step_of_acknowledging c.args.way w c.args.centre).1)
made c w stands =
    acknowledges _ w stands c.args.centre c.args.way c.acknowledge.new.self c.received-count.result c.acknowledge.result
    (sym c.if-is_full.ensures) (c.received-count.ensures w (rw c.self.view_is at stands)) c.acknowledge.ensures.index
    c.acknowledge.ensures.made

pub invariant_of-self : goal.invariant_of-self
invariant_of-self c =
    let stands = c.self.invariant.1 in (
      ap length c.acknowledge.ensures.made ∙ length-set c.self.inside.links c.args.centre _ ∙ c.self.invariant.0,
      ((step_of_acknowledging c.args.way stands.0 c.args.centre).0, (made c stands.0 stands.1).0),
    )

pub returns-clause-performs : goal.returns-clause-performs
returns-clause-performs c = λ w stands. made c w (rw (← c.self.view_is) at stands)
