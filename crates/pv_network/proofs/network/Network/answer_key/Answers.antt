use Rattle.std.proofs.Common.{◌≡◌, set, sym, Option, ◌∙◌}
use Rattle.std.proofs.lemmas.List.{length-set}
use Rattle.pv_session.specs.declared.entry.Entry.{Entry}
use Rattle.pv_network.specs.Calling.{call_at, step_of_press}
use Rattle.pv_network.specs.Calls.{IsPortEntry}
use Rattle.pv_network.specs.Standing.{State, StandsFor}
use Rattle.pv_network.specs.World.{World}
use Rattle.pv_network.proofs.Calling.{presses}
use Rattle.pv_network.proofs.network.Network.answer_key.Goals as goal
use Rattle.pv_network.proofs.network.Network.answer_key.Goals.{After-press}

-- the network as it was
abbrev before : After-press → State
before c =
    let n = c.self.inside in
    record {
      update = n.update.state;
      disk = n.update.disk;
      moment = n.moment;
      seats = n.seats;
      centres = n.centres.items;
      links = n.links;
      is_out = n.is_out;
    }

-- the key makes an entry in the world, and does there what it does here
done : (c : After-press) (w : World) → StandsFor (before c) w
    → (entry : Option Entry) × IsPortEntry (call_at w c.args.centre c.args.port) c.args.key entry
    × StandsFor (record (before c) { centres = set c.self.inside.centres.items c.args.centre c.press.new.self })
    (step_of_press w c.args.centre c.args.port c.args.key entry).0
    × (c.press.result ≡ (step_of_press w c.args.centre c.args.port c.args.key entry).1)
done c w stands =
    presses _ w stands c.args.centre c.index_mut.result.now (rw (← c.self.view_is) at c.requires.centre) c.index_mut.ensures.value
    c.args.port c.press.new.self c.press.result c.seats_keep_their_own.ensures c.letters_wait_by_places.ensures
    c.a_centre_shows_what_the_list_shows.ensures.letter c.a_centre_shows_what_the_list_shows.ensures.sight c.args.key
    c.seconds-moment.result
    (c.seconds-moment.ensures.value ∙ stands.moment) c.press.ensures

pub invariant_of-self : goal.invariant_of-self
invariant_of-self c =
    let stands = c.self.invariant.1 in
    let next = done (goal.at.invariant_of-self c).After-press stands.0 stands.1 in (
      c.self.invariant.0 ∙ sym (length-set c.self.inside.centres.items c.args.centre c.press.new.self),
      ((step_of_press stands.0 c.args.centre c.args.port c.args.key next.0).0, next.2),
    )

pub returns-clause-performs : goal.returns-clause-performs
returns-clause-performs c = λ w stands. done (goal.at.returns-clause-performs c).After-press w (rw (← c.self.view_is) at stands)
