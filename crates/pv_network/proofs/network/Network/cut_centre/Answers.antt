use Rattle.std.proofs.Common.{◌≡◌, length, set, None, sym, ap, ◌∙◌}
use Rattle.std.proofs.lemmas.List.{length-set, set-get_or}
use Rattle.pv_network.specs.Cutting.{node_of, stored_world, step_of_stop, cut_answer}
use Rattle.pv_network.specs.Standing.{State, StandsFor}
use Rattle.pv_network.specs.World.{World}
use Rattle.pv_network.proofs.Cutting.{IsCut, answers_so, reaches_centre, says_nothing, cuts_centre}
use Rattle.pv_network.proofs.network.Network.cut_centre.Goals as goal
use Rattle.pv_network.proofs.network.Network.cut_centre.Goals.{After-cut}

-- the network as it was
abbrev before : After-cut → State
before c =
    let n = c.self.inside in
    record {
      update = n.update.state;
      disk = n.update.disk;
      moment = n.moment;
      seats = n.seats;
      centres = n.centres.items;
      links = n.links;
      is_out = n.is_out;
    }

-- the centre is lost in the world too
done : (c : After-cut) (w : World) → StandsFor (before c) w
    → IsCut c.args.calls
    (record (before c) { centres = set c.self.inside.centres.items c.args.centre c.stop.new.self; links = c.renew_up.new.self }) w
    (node_of c.args.command.now) (stored_world w c.args.command.now None) (cut_answer c.in_ok-cut.cut)
done c w stands =
    let there = reaches_centre (before c) c.args.command.now c.args.centre c.requires.its (rw (← c.self.view_is) at c.requires.possible) in
    let request = c.centre_request-request.ensures.request w (rw c.self.view_is at stands) in
    let shows = c.a_centre_shows_what_the_list_shows.ensures in
    cuts_centre _ w stands c.args.centre c.index_mut.result.now there c.index_mut.ensures.value c.letters_wait_by_places.ensures
    shows.letter shows.room c.args.command.now None c.requires.its c.args.calls c.stop.new.self c.in_ok-cut.cut
    (rw request at c.in_ok-cut.ensures.ok) c.renew_up.new.self c.renew_up.ensures

-- without memory the centre is as it was
pub invariant_of-self : goal.invariant_of-self
invariant_of-self c =
    let n = c.self.inside in
    let same : set n.centres.items c.args.centre c.stop.new.self ≡ n.centres.items =
    ap (set n.centres.items c.args.centre) (c.in_err-cut.ensures.err ∙ c.index_mut.ensures.value)
    ∙ set-get_or n.centres.items c.args.centre c.index_mut.result.now in
    rw same c.self.invariant

pub invariant_of-self-2 : goal.invariant_of-self-2
invariant_of-self-2 c =
    let stands = c.self.invariant.1 in
    let cut = done c stands.0 stands.1 in (
      ap length c.renew_up.ensures ∙ length-set c.self.inside.links c.args.centre _ ∙ c.self.invariant.0
          ∙ sym (length-set c.self.inside.centres.items c.args.centre c.stop.new.self),
      (
        (step_of_stop stands.0 (node_of c.args.command.now) (stored_world stands.0 c.args.command.now None) cut.0).0,
        cut.2,
      ),
    )

pub returns-clause-performs : goal.returns-clause-performs
returns-clause-performs c = (
  None,
  says_nothing c.args.command.now c.args.centre c.requires.its,
  λ w stands.
      answers_so c.args.calls _ w _ _ (cut_answer c.in_ok-cut.cut) c.cut.result c.cut.ensures
      (done c w (rw (← c.self.view_is) at stands)),
)
