use Rattle.std.proofs.Common.{◌≡◌, set, sym, ◌∙◌}
use Rattle.std.proofs.lemmas.List.{length-set}
use Rattle.pv_network.specs.Calling.{step_of_show}
use Rattle.pv_network.specs.Standing.{State, StandsFor}
use Rattle.pv_network.specs.World.{World}
use Rattle.pv_network.proofs.Calling.{shows}
use Rattle.pv_network.proofs.network.Network.show.Goals as goal
use Rattle.pv_network.proofs.network.Network.show.Goals.{After-show}

-- the network as it was
abbrev before : After-show → State
before c =
    let n = c.self.inside in
    record {
      update = n.update.state;
      disk = n.update.disk;
      moment = n.moment;
      seats = n.seats;
      centres = n.centres.items;
      links = n.links;
      is_out = n.is_out;
    }

-- the caller is shown the same in the world
done : (c : After-show) (w : World) → StandsFor (before c) w
    → StandsFor (record (before c) { centres = set c.self.inside.centres.items c.args.centre c.show.new.self })
    (step_of_show w c.args.centre c.args.port).0 × (c.show.result ≡ (step_of_show w c.args.centre c.args.port).1)
done c w stands =
    shows _ w stands c.args.centre c.index_mut.result.now (rw (← c.self.view_is) at c.requires.centre) c.index_mut.ensures.value
    c.args.port c.show.new.self c.show.result c.seats_keep_their_own.ensures c.show.ensures

pub invariant_of-self : goal.invariant_of-self
invariant_of-self c =
    let stands = c.self.invariant.1 in (
      c.self.invariant.0 ∙ sym (length-set c.self.inside.centres.items c.args.centre c.show.new.self),
      ((step_of_show stands.0 c.args.centre c.args.port).0, (done (goal.at.invariant_of-self c).After-show stands.0 stands.1).0),
    )

pub returns-clause-performs : goal.returns-clause-performs
returns-clause-performs c = λ w stands. done (goal.at.returns-clause-performs c).After-show w (rw (← c.self.view_is) at stands)
