use Rattle.std.proofs.Common.{◌≡◌, set, sym, ◌∙◌}
use Rattle.std.proofs.lemmas.List.{length-set}
use Rattle.pv_network.specs.Standing.{State, StandsFor}
use Rattle.pv_network.specs.Traffic.{arrival_on, world_after, with_next_at}
use Rattle.pv_network.specs.World.{World}
use Rattle.pv_traffic.specs.declared.way.Way.TheVariants as ways
use Rattle.pv_network.proofs.Performing.{applied_so, applied_after, answered}
use Rattle.pv_network.proofs.network.Network.apply.Goals as goal
use Rattle.pv_network.proofs.network.Network.apply.Goals.{After-apply-arrival}

-- the network as it was
abbrev before : After-apply-arrival → State
before c =
    let n = c.self.inside in
    record {
      update = n.update.state;
      disk = n.update.disk;
      moment = n.moment;
      seats = n.seats;
      centres = n.centres.items;
      links = n.links;
      is_out = n.is_out;
    }

-- with the centre that was asked
abbrev now : After-apply-arrival → State
now c = record (before c) { centres = set c.self.inside.centres.items c.args.centre c.apply-arrival.new.self }

-- the network stands for the world after the arrival, and the centre did what the world's does
applied : (c : After-apply-arrival) (w : World) → StandsFor (before c) w
    → StandsFor (now c) (world_after w (with_next_at w c.args.centre) (arrival_on ways.Down w c.args.centre c.args.number))
    × (c.apply-arrival.result ≡ arrival_on ways.Down w c.args.centre c.args.number)
applied c w stands =
    let there = rw (← c.self.view_is) at c.requires.there in
    let genuine = c.requires.genuine w (rw c.self.view_is at stands) in
    let room = c.a_centre_shows_what_the_list_shows.ensures.room in (
      applied_after _ w stands c.args.centre c.index_mut.result.now there c.index_mut.ensures.value room c.args.number
          c.args.rec.now genuine
          c.apply-arrival.new.self c.apply-arrival.result c.apply-arrival.ensures,
      applied_so _ w stands c.args.centre c.index_mut.result.now there c.index_mut.ensures.value room c.args.number c.args.rec.now genuine
          c.apply-arrival.new.self c.apply-arrival.result c.apply-arrival.ensures,
    )

pub invariant_of-self : goal.invariant_of-self
invariant_of-self c =
    let a = (goal.at.invariant_of-self c).After-apply-arrival in
    let was = c.self.invariant.1 in (
      c.self.invariant.0 ∙ sym (length-set c.self.inside.centres.items c.args.centre c.apply-arrival.new.self),
      (
        world_after was.0 (with_next_at was.0 c.args.centre) (arrival_on ways.Down was.0 c.args.centre c.args.number),
        (applied a was.0 was.1).0,
      ),
    )

pub returns-clause-performs : goal.returns-clause-performs
returns-clause-performs c = λ w stands.
    let a = (goal.at.returns-clause-performs c).After-apply-arrival in
    answered ways.Down w (with_next_at w c.args.centre) c.args.centre c.args.number c.apply-arrival.result (now a)
    c.answer.new.self c.answer.result
    (applied a w (rw (← c.self.view_is) at stands)) c.answer.ensures.performs
