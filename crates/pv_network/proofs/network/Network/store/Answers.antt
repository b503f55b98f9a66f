use Rattle.std.proofs.Common.{◌≡◌, set, sym, ◌∙◌}
use Rattle.std.proofs.lemmas.List.{length-set}
use Rattle.pv_network.specs.Calling.{step_of_store}
use Rattle.pv_network.specs.Standing.{State, StandsFor}
use Rattle.pv_network.specs.World.{World}
use Rattle.pv_network.proofs.Calling.{stores}
use Rattle.pv_network.proofs.network.Network.store.Goals as goal
use Rattle.pv_network.proofs.network.Network.store.Goals.{After-store}

-- the network as it was
abbrev before : After-store → State
before c =
    let n = c.self.inside in
    record {
      update = n.update.state;
      disk = n.update.disk;
      moment = n.moment;
      seats = n.seats;
      centres = n.centres.items;
      links = n.links;
      is_out = n.is_out;
    }

-- the world stores what the network does
done : (c : After-store) (w : World) → StandsFor (before c) w
    → StandsFor (record (before c) { centres = set c.self.inside.centres.items c.args.centre c.store.new.self })
    (step_of_store w c.args.centre c.args.port).0 × (c.store.result ≡ (step_of_store w c.args.centre c.args.port).1)
done c w stands =
    stores _ w stands c.args.centre c.index_mut.result.now (rw (← c.self.view_is) at c.requires.centre) c.index_mut.ensures.value
    c.args.port c.store.new.self c.store.result c.letters_wait_by_places.ensures c.a_centre_shows_what_the_list_shows.ensures.letter
    c.store.ensures

pub invariant_of-self : goal.invariant_of-self
invariant_of-self c =
    let stands = c.self.invariant.1 in (
      c.self.invariant.0 ∙ sym (length-set c.self.inside.centres.items c.args.centre c.store.new.self),
      ((step_of_store stands.0 c.args.centre c.args.port).0, (done (goal.at.invariant_of-self c).After-store stands.0 stands.1).0),
    )

pub returns-clause-performs : goal.returns-clause-performs
returns-clause-performs c = λ w stands. done (goal.at.returns-clause-performs c).After-store w (rw (← c.self.view_is) at stands)
