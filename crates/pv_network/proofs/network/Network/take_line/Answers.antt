use Rattle.std.proofs.Common.{rules, ◌≡◌, length, get_or, set, refl, arith}
use Rattle.pv_udc.specs.EditList.{all_places}
use Rattle.pv_editor.specs.Say.{new_seat, Says}
use Rattle.pv_editor.specs.declared.seat.EditorSeat.{EditorSeat}
use Rattle.pv_network.specs.declared.event.TheConstants.{EDITORS}
use Rattle.pv_network.specs.Standing.{State, StandsFor}
use Rattle.pv_network.specs.Editing.{step_of_line}
use Rattle.pv_network.specs.World.{World}
use Rattle.pv_network.proofs.Lists.{read_again}
use Rattle.pv_network.proofs.Performing.{takes_line}
use Rattle.pv_network.proofs.network.Network.take_line.Goals as goal
use Rattle.pv_network.proofs.network.Network.take_line.Goals.{After-line}

-- the network as it was
abbrev before : After-line → State
before c =
    let n = c.self.inside in
    record {
      update = n.update.state;
      disk = n.update.disk;
      moment = n.moment;
      seats = n.seats;
      centres = n.centres.items;
      links = n.links;
      is_out = n.is_out;
    }

-- the seat
abbrev here : After-line → EditorSeat
here c = get_or c.self.inside.seats c.args.port c.index-self-port.result

-- what the editor's line says at it
said : (c : After-line) → Says (here c) c.args.line.now c.self.inside.update.state.records
    (all_places c.self.inside.update.state.records) c.line.new.self c.line.result
said c = rw (c.base.ensures.records, c.base.ensures.places, c.state.ensures) at c.line.ensures.says

-- it is one of the four
read : (c : After-line) → here c ≡ get_or c.self.inside.seats c.args.port new_seat
read c =
    let four : length c.self.inside.seats ≡ EDITORS = search rules in
    read_again c.self.inside.seats c.args.port c.index-self-port.result new_seat (omega (arith, four, c.requires))

-- the editor's line is taken there
taken : (c : After-line) (w : World) → StandsFor (before c) w
    → StandsFor (record (before c) { seats = set c.self.inside.seats c.args.port c.line.new.self })
    (step_of_line w c.args.port (said c).line).0
    × (c.line.result ≡ (step_of_line w c.args.port (said c).line).1)
taken c w stands = takes_line _ w stands c.args.port c.args.line.now (here c) c.line.new.self c.line.result _ (read c) (said c) refl

pub invariant_of-self : goal.invariant_of-self
invariant_of-self c =
    let stands = c.self.invariant.1 in
    (c.self.invariant.0, ((step_of_line stands.0 c.args.port (said c).line).0, (taken c stands.0 stands.1).0))

pub returns-clause-performs : goal.returns-clause-performs
returns-clause-performs c = ((said c).line, (said c).reads, λ w stands. taken c w (rw (← c.self.view_is) at stands))
