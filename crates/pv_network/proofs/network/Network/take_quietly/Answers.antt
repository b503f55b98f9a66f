use Rattle.std.proofs.Common.{◌≡◌, Bool, true, false, set, refl, sym, Option, ◌∙◌}
use Rattle.std.proofs.lemmas.List.{length-set}
use Rattle.pv_session.specs.declared.entry.Entry.{Entry}
use Rattle.pv_network.specs.Calling.{call_at, step_of_press}
use Rattle.pv_network.specs.Calls.{IsPortEntry}
use Rattle.pv_network.specs.Standing.{State, StandsFor}
use Rattle.pv_network.specs.World.{World}
use Rattle.pv_network.specs.declared.outcome.Outcome.TheVariants as outcomes
use Rattle.pv_network.proofs.Calling.{presses}
use Rattle.pv_network.proofs.Lists.{set_read}
use Rattle.pv_network.proofs.network.Network.take_quietly.Goals as goal
use Rattle.pv_network.proofs.network.Network.take_quietly.Goals.{After-take_quietly}

-- the network as it was
abbrev before : After-take_quietly → State
before c =
    let n = c.self.inside in
    record {
      update = n.update.state;
      disk = n.update.disk;
      moment = n.moment;
      seats = n.seats;
      centres = n.centres.items;
      links = n.links;
      is_out = n.is_out;
    }

-- the network with the centre as the key left it
abbrev after : After-take_quietly → State
after c = record (before c) { centres = set c.self.inside.centres.items c.args.centre c.take_quietly.new.self }

-- a key of which nothing comes does in the world what it does here
done : (c : After-take_quietly) → c.take_quietly.result ≡ true → (w : World) → StandsFor (before c) w
    → (entry : Option Entry) × IsPortEntry (call_at w c.args.centre c.args.port) c.args.key entry
    × StandsFor (after c) (step_of_press w c.args.centre c.args.port c.args.key entry).0
    × (outcomes.Quiet ≡ (step_of_press w c.args.centre c.args.port c.args.key entry).1)
done c quiet w stands =
    presses _ w stands c.args.centre c.index_mut.result.now (rw (← c.self.view_is) at c.requires.centre) c.index_mut.ensures.value
    c.args.port c.take_quietly.new.self outcomes.Quiet c.seats_keep_their_own.ensures c.letters_wait_by_places.ensures
    c.a_centre_shows_what_the_list_shows.ensures.letter c.a_centre_shows_what_the_list_shows.ensures.sight c.args.key
    w.moment refl (c.take_quietly.ensures.pressed quiet w.moment)

-- the network stands for a world, whether it took the key or not
stands_for : (c : After-take_quietly) (w : World) → StandsFor (before c) w → (quiet : Bool) → c.take_quietly.result ≡ quiet
    → (x : World) × StandsFor (after c) x
stands_for c w stands true is = let next = done c is w stands in ((step_of_press w c.args.centre c.args.port c.args.key next.0).0, next.2)
stands_for c w stands false is =
    let same = c.take_quietly.ensures.same is in
    let centres = c.self.inside.centres.items in
    (w, rw (same, set_read centres c.args.centre c.index_mut.result.now (sym c.index_mut.ensures.value)) stands)

pub invariant_of-self : goal.invariant_of-self
invariant_of-self c =
    let taken = (goal.at.invariant_of-self c).After-take_quietly in
    let stands = c.self.invariant.1 in (
      c.self.invariant.0 ∙ sym (length-set c.self.inside.centres.items c.args.centre c.take_quietly.new.self),
      stands_for taken stands.0 stands.1 c.take_quietly.result refl,
    )

pub returns-clause-pressed : goal.returns-clause-pressed
returns-clause-pressed c = λ quiet w stands. done (goal.at.returns-clause-pressed c).After-take_quietly quiet w (rw (← c.self.view_is) at stands)
