use Rattle.std.proofs.Common.{◌≡◌, length, set, sym, ap, ◌∙◌}
use Rattle.std.proofs.lemmas.List.{length-set, set-get_or}
use Rattle.pv_network.specs.Crashing.{step_of_centre_crash}
use Rattle.pv_network.specs.Standing.{State, StandsFor}
use Rattle.pv_network.specs.World.{World}
use Rattle.pv_network.proofs.Crashing.{centre_crashes}
use Rattle.pv_network.proofs.network.Network.crash_centre.Goals as goal
use Rattle.pv_network.proofs.network.Network.crash_centre.Goals.{After-renew_up}

-- the network as it was
abbrev before : After-renew_up → State
before c =
    let n = c.self.inside in
    record {
      update = n.update.state;
      disk = n.update.disk;
      moment = n.moment;
      seats = n.seats;
      centres = n.centres.items;
      links = n.links;
      is_out = n.is_out;
    }

-- the centre crashes in the world too, and its end is new
done : (c : After-renew_up) (w : World) → StandsFor (before c) w
    → StandsFor
    (record (before c) { centres = set c.self.inside.centres.items c.args.centre c.crash.new.self; links = c.renew_up.new.self })
    (step_of_centre_crash w c.args.centre).0 × (c.in_ok-outcome.outcome ≡ (step_of_centre_crash w c.args.centre).1)
done c w stands =
    centre_crashes _ w stands c.args.centre c.index_mut.result.now (rw (← c.self.view_is) at c.requires) c.index_mut.ensures.value
    c.crash.new.self c.in_ok-outcome.outcome c.renew_up.new.self c.renew_up.ensures c.in_ok-outcome.ensures.ok

-- without memory the centre is as it was
pub invariant_of-self : goal.invariant_of-self
invariant_of-self c =
    let n = c.self.inside in
    let same : set n.centres.items c.args.centre c.crash.new.self ≡ n.centres.items =
    ap (set n.centres.items c.args.centre) (c.in_err-outcome.ensures.err ∙ c.index_mut.ensures.value)
    ∙ set-get_or n.centres.items c.args.centre c.index_mut.result.now in
    rw same c.self.invariant

pub invariant_of-self-2 : goal.invariant_of-self-2
invariant_of-self-2 c =
    let stands = c.self.invariant.1 in (
      ap length c.renew_up.ensures ∙ length-set c.self.inside.links c.args.centre _ ∙ c.self.invariant.0
          ∙ sym (length-set c.self.inside.centres.items c.args.centre c.crash.new.self),
      ((step_of_centre_crash stands.0 c.args.centre).0, (done (goal.at.invariant_of-self-2 c).After-renew_up stands.0 stands.1).0),
    )

pub returns-clause-performs : goal.returns-clause-performs
returns-clause-performs c = λ w stands. done (goal.at.returns-clause-performs c).After-renew_up w (rw (← c.self.view_is) at stands)
