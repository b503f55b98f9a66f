use Rattle.std.proofs.Common.{◌≡◌, length, ap, ◌∙◌}
use Rattle.std.proofs.lemmas.List.{length-map}
use Rattle.pv_network.specs.declared.outcome.Outcome.TheVariants.{Crashed}
use Rattle.pv_network.specs.Crashing.{step_of_update_crash}
use Rattle.pv_traffic.specs.declared.way.Way.TheVariants as ways
use Rattle.pv_traffic.specs.Link.{with_new_end}
use Rattle.pv_network.specs.Standing.{State, StandsFor}
use Rattle.pv_network.specs.World.{World}
use Rattle.pv_network.proofs.Crashing.{update_crashes, update_same}
use Rattle.pv_network.proofs.network.Network.crash_update.Goals as goal
use Rattle.pv_network.proofs.network.Network.crash_update.Goals.{After-count-count}

-- the network as it was
abbrev before : After-count-count → State
before c =
    let n = c.self.inside in
    record {
      update = n.update.state;
      disk = n.update.disk;
      moment = n.moment;
      seats = n.seats;
      centres = n.centres.items;
      links = n.links;
      is_out = n.is_out;
    }

-- the Update Centre crashes in the world too
done : (c : After-count-count) (w : World) → StandsFor (before c) w
    → StandsFor (record (before c) {
      update = c.crash.new.self.state;
      disk = c.crash.new.self.disk;
      seats = c.new_seats-self-inside.result;
      links = c.renew_down.new.self;
    }) (step_of_update_crash w).0 × (Crashed c.count-count.result ≡ (step_of_update_crash w).1)
done c w stands =
    update_crashes _ w stands c.crash.new.self c.new_seats-self-inside.result c.renew_down.new.self c.count-count.result
    c.in_ok-crash.ensures.ok c.crash.ensures.on_disk c.new_seats-self-inside.ensures c.renew_down.ensures c.count-count.ensures.count

-- without memory it is as it was
pub invariant_of-self : goal.invariant_of-self
invariant_of-self c =
    let stands = c.self.invariant.1 in
    (c.self.invariant.0, (stands.0, update_same _ stands.0 stands.1 c.crash.new.self c.in_err-crash.ensures.err))

pub invariant_of-self-2 : goal.invariant_of-self-2
invariant_of-self-2 c =
    let stands = c.self.invariant.1 in (
      ap length c.renew_down.ensures ∙ length-map c.self.inside.links (with_new_end ways.Down) ∙ c.self.invariant.0,
      ((step_of_update_crash stands.0).0, (done c stands.0 stands.1).0),
    )

pub returns-clause-performs : goal.returns-clause-performs
returns-clause-performs c = λ w stands. done c w (rw (← c.self.view_is) at stands)
