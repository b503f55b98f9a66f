use Rattle.std.proofs.Common.{◌≡◌, ◌<◌, List, length, Some, sym, ap, subst, ◌∙◌, arith}
use Rattle.pv_traffic.specs.Link.{Link, packet_room}
use Rattle.pv_network.specs.Standing.{State, StandsFor}
use Rattle.pv_network.specs.Traffic.{packet_in, step_of_sending}
use Rattle.pv_network.proofs.Carrying.{sent_takes_room}
use Rattle.pv_network.proofs.network.Network.round.Goals as goal

-- a packet was made, in any world that the network stands for
pub returns-in-Some-clause-room : goal.returns-in-Some-clause-room
returns-in-Some-clause-room c = λ on.
    let w = c.self.invariant.1.0 in
    let stands : StandsFor c.args.self.now w = subst (λ (s : State). StandsFor s w) c.self.view_is c.self.invariant.1.1 in
    let sent = c.send-sent.ensures.performs w stands in
    let brought = c.bring.ensures.performs (step_of_sending c.args.way w c.args.centre).0 sent.0 in
    let made : packet_in (step_of_sending c.args.way w c.args.centre).1 ≡ Some c.in-Some.index = ap packet_in (sym sent.1)
    ∙ sym c.in-Some.ensures in
    let there : c.args.centre < length w.links =
    omega (
      arith,
      rw (← c.self.view_is) at c.requires,
      c.self.invariant.0,
      ap (λ (l : List Link). length l) c.self.invariant.1.1.links,
    ) in
    let takes = sent_takes_room w c.args.centre there c.args.way c.in-Some.index made in
    omega (arith, takes, ap (λ (l : List Link). packet_room l) brought.0.links, ap (λ (l : List Link). packet_room l) stands.links)
