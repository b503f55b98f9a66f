use Rattle.std.proofs.Common.{length, ap, ◌∙◌, refl}
use Rattle.std.proofs.lemmas.List.{length-set}
use Rattle.pv_network.specs.Standing.{State, StandsFor}
use Rattle.pv_network.specs.Traffic.{step_of_hearing}
use Rattle.pv_network.specs.World.{World}
use Rattle.pv_network.proofs.Performing.{acknowledged_few, hears}
use Rattle.pv_network.proofs.network.Network.hear.Goals as goal
use Rattle.pv_network.proofs.network.Network.hear.Goals.{After-hear}

-- the network as it was
abbrev before : After-hear → State
before c =
    let n = c.self.inside in
    record {
      update = n.update.state;
      disk = n.update.disk;
      moment = n.moment;
      seats = n.seats;
      centres = n.centres.items;
      links = n.links;
      is_out = n.is_out;
    }

-- the end hears it
heard : (c : After-hear) (w : World) → StandsFor (before c) w
    → StandsFor (record (before c) { links = c.hear.new.self }) (step_of_hearing c.args.way w c.args.centre c.args.count).0
heard c w stands =
    let here = rw c.self.view_is at stands in
    hears _ w stands c.args.centre c.args.way c.hear.new.self c.front-front.result c.args.count (c.front-front.ensures w here)
    (acknowledged_few w c.args.centre c.args.way c.args.count (c.requires.genuine w here)) c.hear.ensures

pub invariant_of-self : goal.invariant_of-self
invariant_of-self c =
    let stands = c.self.invariant.1 in (
      ap length c.hear.ensures ∙ length-set c.self.inside.links c.args.centre _ ∙ c.self.invariant.0,
      ((step_of_hearing c.args.way stands.0 c.args.centre c.args.count).0, heard c stands.0 stands.1),
    )

pub returns-clause-performs : goal.returns-clause-performs
returns-clause-performs c = λ w stands. (heard c w (rw (← c.self.view_is) at stands), refl)
