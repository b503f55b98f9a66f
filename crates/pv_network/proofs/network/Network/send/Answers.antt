use Rattle.std.proofs.Common.{◌≡◌, length, sym, ap, ◌∙◌}
use Rattle.std.proofs.lemmas.List.{length-set}
use Rattle.pv_network.specs.Standing.{State, StandsFor}
use Rattle.pv_network.specs.Traffic.{sent_answer, step_of_sending}
use Rattle.pv_network.specs.World.{World}
use Rattle.pv_network.proofs.Performing.{sends}
use Rattle.pv_network.proofs.network.Network.send.Goals as goal
use Rattle.pv_network.proofs.network.Network.send.Goals.{After-send-index}

-- the network as it was
abbrev before : After-send-index → State
before c =
    let n = c.self.inside in
    record {
      update = n.update.state;
      disk = n.update.disk;
      moment = n.moment;
      seats = n.seats;
      centres = n.centres.items;
      links = n.links;
      is_out = n.is_out;
    }

-- the packet of the next number is on its way
sent : (c : After-send-index) (w : World) → StandsFor (before c) w
    → StandsFor (record (before c) { links = c.send-index.new.self }) (step_of_sending c.args.way w c.args.centre).0 ×
    (sent_answer c.args.way c.send-index.result c.in-Some.number ≡ (step_of_sending c.args.way w c.args.centre).1)
sent c w stands =
    let here = rw c.self.view_is at stands in
    sends _ w stands c.args.centre c.args.way c.send-index.new.self c.front-front.result c.in-Some.number c.send-index.result
    c.in-Some-packet.packet
    (sym c.if-is_full.ensures) (c.front-front.ensures w here) (sym (c.in-Some.ensures w here))
    (sym (c.in-Some-packet.ensures.packet w here))
    c.send-index.ensures.index c.send-index.ensures.sent

pub invariant_of-self : goal.invariant_of-self
invariant_of-self c =
    let stands = c.self.invariant.1 in (
      ap length c.send-index.ensures.sent ∙ length-set c.self.inside.links c.args.centre _ ∙ c.self.invariant.0,
      ((step_of_sending c.args.way stands.0 c.args.centre).0, (sent (goal.at.invariant_of-self c).After-send-index stands.0 stands.1).0),
    )

pub returns-clause-performs : goal.returns-clause-performs
returns-clause-performs c =
    λ w stands. rw c.sent.ensures (sent (goal.at.returns-clause-performs c).After-send-index w (rw (← c.self.view_is) at stands))
