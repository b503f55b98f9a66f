use Rattle.std.proofs.Common.{rules, ◌≡◌, length, get_or, set, refl, ap, ◌∙◌, arith}
use Rattle.pv_udc.specs.EditList.{all_places}
use Rattle.pv_editor.specs.Say.{new_seat, Says}
use Rattle.pv_editor.specs.declared.seat.EditorSeat.{EditorSeat}
use Rattle.pv_network.specs.declared.event.TheConstants.{EDITORS}
use Rattle.pv_network.specs.Cutting.{request_in}
use Rattle.pv_network.proofs.Lists.{read_again}
use Rattle.pv_network.proofs.Performing.{takes_line}
use Rattle.pv_network.proofs.network.Network.line_request.Goals as goal

-- the step is the one that the editor's line has in the world
pub returns-clause-request : goal.returns-clause-request
returns-clause-request c =
    let here : EditorSeat = get_or c.self.inside.seats c.args.port c.index-self-port.result in
    let four : length c.self.inside.seats ≡ EDITORS = search rules in
    let read : here ≡ get_or c.self.inside.seats c.args.port new_seat =
    read_again c.self.inside.seats c.args.port c.index-self-port.result new_seat (omega (arith, four, c.requires)) in
    let said : Says here c.args.line.now c.self.inside.update.state.records
    (all_places c.self.inside.update.state.records) c.line.new.self c.line.result =
    rw (c.base.ensures.records, c.base.ensures.places, c.state.ensures) at c.line.ensures.says in (
      said.line,
      said.reads,
      λ w stands.
          let taken = takes_line _ w (rw (← c.self.view_is) at stands) c.args.port c.args.line.now here c.line.new.self c.line.result
          (set c.self.inside.seats c.args.port c.line.new.self) read said refl in
          c.request_in.ensures.request ∙ ap request_in taken.1,
    )
