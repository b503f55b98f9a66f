use Rattle.std.proofs.Common.{◌≡◌, arith}
use Rattle.pv_network.specs.Standing.{State, StandsFor}
use Rattle.pv_network.specs.Traffic.{arrival_on, world_after, with_item_of}
use Rattle.pv_network.specs.World.{World}
use Rattle.pv_traffic.specs.declared.way.Way.TheVariants as ways
use Rattle.pv_network.proofs.Performing.{takes_up, answered}
use Rattle.pv_network.proofs.network.Network.take_up.Goals as goal
use Rattle.pv_network.proofs.network.Network.take_up.Goals.{After-take_up-arrival}

-- the network as it was
abbrev before : After-take_up-arrival → State
before c =
    let n = c.self.inside in
    record {
      update = n.update.state;
      disk = n.update.disk;
      moment = n.moment;
      seats = n.seats;
      centres = n.centres.items;
      links = n.links;
      is_out = n.is_out;
    }

-- with the Update Centre that was asked
abbrev now : After-take_up-arrival → State
now c = record (before c) { update = c.take_up-arrival.new.update.state; disk = c.take_up-arrival.new.update.disk }

-- the network stands for the world after the arrival, and the Update Centre did what the world's does
taken : (c : After-take_up-arrival) (w : World) → StandsFor (before c) w
    → StandsFor (now c) (world_after w (with_item_of w c.args.centre c.args.number c.args.item.now)
    (arrival_on ways.Up w c.args.centre c.args.number))
    × (c.take_up-arrival.result ≡ arrival_on ways.Up w c.args.centre c.args.number)
taken c w stands =
    takes_up _ w stands c.args.centre c.args.centre c.args.number c.args.item.now c.take_up-arrival.new.update c.take_up-arrival.result
    (c.requires.genuine w (rw c.self.view_is at stands)) c.take_up-arrival.ensures.arrival c.take_up-arrival.ensures.stored
    c.take_up-arrival.ensures.on_disk

-- it is a centre that there can be
pub take_up-arrival-requires : goal.take_up-arrival-requires
take_up-arrival-requires c = omega (arith, rw (← c.self.view_is) at c.requires.there, c.self.invariant.0, c.within.ensures)

pub invariant_of-self : goal.invariant_of-self
invariant_of-self c =
    let a = (goal.at.invariant_of-self c).After-take_up-arrival in
    let was = c.self.invariant.1 in (
      c.self.invariant.0,
      (
        world_after was.0 (with_item_of was.0 c.args.centre c.args.number c.args.item.now)
            (arrival_on ways.Up was.0 c.args.centre c.args.number),
        (taken a was.0 was.1).0,
      ),
    )

pub returns-clause-performs : goal.returns-clause-performs
returns-clause-performs c = λ w stands.
    let a = (goal.at.returns-clause-performs c).After-take_up-arrival in
    answered ways.Up w (with_item_of w c.args.centre c.args.number c.args.item.now) c.args.centre c.args.number
    c.take_up-arrival.result (now a)
    c.answer.new.self c.answer.result (taken a w (rw (← c.self.view_is) at stands)) c.answer.ensures.performs
