use Rattle.std.proofs.Common.{◌≡◌, set, sym, ◌∙◌}
use Rattle.std.proofs.lemmas.List.{length-set}
use Rattle.pv_network.specs.Calling.{step_of_hang}
use Rattle.pv_network.specs.Standing.{State, StandsFor}
use Rattle.pv_network.specs.World.{World}
use Rattle.pv_network.proofs.Calling.{hangs}
use Rattle.pv_network.proofs.network.Network.hang.Goals as goal
use Rattle.pv_network.proofs.network.Network.hang.Goals.{After-hang}

-- the network as it was
abbrev before : After-hang → State
before c =
    let n = c.self.inside in
    record {
      update = n.update.state;
      disk = n.update.disk;
      moment = n.moment;
      seats = n.seats;
      centres = n.centres.items;
      links = n.links;
      is_out = n.is_out;
    }

-- the call ends in the world too
done : (c : After-hang) (w : World) → StandsFor (before c) w
    → StandsFor (record (before c) { centres = set c.self.inside.centres.items c.args.centre c.hang.new.self })
    (step_of_hang w c.args.centre c.args.port).0 × (c.hang.result ≡ (step_of_hang w c.args.centre c.args.port).1)
done c w stands =
    hangs _ w stands c.args.centre c.index_mut.result.now (rw (← c.self.view_is) at c.requires.centre) c.index_mut.ensures.value
    c.args.port c.hang.new.self c.hang.result c.hang.ensures

pub invariant_of-self : goal.invariant_of-self
invariant_of-self c =
    let stands = c.self.invariant.1 in (
      c.self.invariant.0 ∙ sym (length-set c.self.inside.centres.items c.args.centre c.hang.new.self),
      ((step_of_hang stands.0 c.args.centre c.args.port).0, (done (goal.at.invariant_of-self c).After-hang stands.0 stands.1).0),
    )

pub returns-clause-performs : goal.returns-clause-performs
returns-clause-performs c = λ w stands. done (goal.at.returns-clause-performs c).After-hang w (rw (← c.self.view_is) at stands)
