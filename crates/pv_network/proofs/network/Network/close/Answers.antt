use Rattle.std.proofs.Common.{List, set, ap, ◌∙◌}
use Rattle.pv_editor.specs.Say.{new_seat}
use Rattle.pv_editor.specs.declared.seat.EditorSeat.{EditorSeat}
use Rattle.pv_network.specs.declared.outcome.Outcome.TheVariants.{Reply}
use Rattle.pv_network.specs.Standing.{State, StandsFor}
use Rattle.pv_network.specs.World.{World, with_seat}
use Rattle.pv_network.proofs.Standing.{seat_replaced}
use Rattle.pv_network.proofs.network.Network.close.Goals as goal
use Rattle.pv_network.proofs.network.Network.close.Goals.{After-closing_text}

-- the network as it was
abbrev before : After-closing_text → State
before c =
    let n = c.self.inside in
    record {
      update = n.update.state;
      disk = n.update.disk;
      moment = n.moment;
      seats = n.seats;
      centres = n.centres.items;
      links = n.links;
      is_out = n.is_out;
    }

-- the seat is new
closed : (c : After-closing_text) (w : World) → StandsFor (before c) w
    → StandsFor (record (before c) { seats = set c.self.inside.seats c.args.port c.new.result }) (with_seat w c.args.port new_seat)
closed c w stands =
    seat_replaced _ w stands c.args.port _ new_seat
    (ap (λ (l : List EditorSeat). set l c.args.port c.new.result) stands.seats ∙ ap (set w.seats c.args.port) c.new.ensures)

pub invariant_of-self : goal.invariant_of-self
invariant_of-self c =
    let stands = c.self.invariant.1 in (c.self.invariant.0, (with_seat stands.0 c.args.port new_seat, closed c stands.0 stands.1))

pub returns-clause-performs : goal.returns-clause-performs
returns-clause-performs c = λ w stands. (closed c w (rw (← c.self.view_is) at stands), ap Reply c.closing_text.ensures)
