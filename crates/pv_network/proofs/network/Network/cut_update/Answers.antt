use Rattle.std.proofs.Common.{length, ap, ◌∙◌}
use Rattle.std.proofs.lemmas.List.{length-map}
use Rattle.pv_traffic.specs.declared.way.Way.TheVariants as ways
use Rattle.pv_network.specs.Cutting.{node_of, stored_world, step_of_stop, cut_answer}
use Rattle.pv_traffic.specs.Link.{with_new_end}
use Rattle.pv_network.specs.Standing.{State, StandsFor}
use Rattle.pv_network.specs.World.{World}
use Rattle.pv_network.proofs.Crashing.{update_same}
use Rattle.pv_network.proofs.Cutting.{IsCut, answers_so, cuts_update}
use Rattle.pv_network.proofs.network.Network.cut_update.Goals as goal
use Rattle.pv_network.proofs.network.Network.cut_update.Goals.{After-cut}

-- the network as it was
abbrev before : After-cut → State
before c =
    let n = c.self.inside in
    record {
      update = n.update.state;
      disk = n.update.disk;
      moment = n.moment;
      seats = n.seats;
      centres = n.centres.items;
      links = n.links;
      is_out = n.is_out;
    }

-- the Update Centre is lost in the world too
done : (c : After-cut) (w : World) → StandsFor (before c) w
    → IsCut c.args.calls (record (before c) {
      update = c.stop.new.update.state;
      disk = c.stop.new.update.disk;
      seats = c.new_seats-self-inside.result;
      links = c.renew_down.new.self;
    }) w (node_of c.args.command.now)
    (stored_world w c.args.command.now c.update_request-request.ensures.request.0) (cut_answer c.in_ok-cut.cut)
done c w stands =
    let request = c.update_request-request.ensures.request in
    cuts_update _ w stands c.args.calls c.stop.new.update c.stop.ensures.on_disk c.new_seats-self-inside.result
    c.new_seats-self-inside.ensures c.renew_down.new.self c.renew_down.ensures c.args.command.now request.0 c.requires.its
    c.update_request-request.result (request.2 w (rw c.self.view_is at stands)) c.in_ok-cut.cut c.in_ok-cut.ensures.may
    c.in_ok-cut.ensures.stored

-- without memory it is as it was
pub invariant_of-self : goal.invariant_of-self
invariant_of-self c =
    let stands = c.self.invariant.1 in
    (c.self.invariant.0, (stands.0, update_same _ stands.0 stands.1 c.stop.new.update c.in_err-cut.ensures.err))

pub invariant_of-self-2 : goal.invariant_of-self-2
invariant_of-self-2 c =
    let stands = c.self.invariant.1 in
    let cut = done c stands.0 stands.1 in (
      ap length c.renew_down.ensures ∙ length-map c.self.inside.links (with_new_end ways.Down) ∙ c.self.invariant.0,
      (
        (step_of_stop stands.0 (node_of c.args.command.now)
            (stored_world stands.0 c.args.command.now c.update_request-request.ensures.request.0) cut.0).0,
        cut.2,
      ),
    )

pub returns-clause-performs : goal.returns-clause-performs
returns-clause-performs c = (
  c.update_request-request.ensures.request.0,
  c.update_request-request.ensures.request.1,
  λ w stands.
      answers_so c.args.calls _ w _ _ (cut_answer c.in_ok-cut.cut) c.cut.result c.cut.ensures
      (done c w (rw (← c.self.view_is) at stands)),
)
