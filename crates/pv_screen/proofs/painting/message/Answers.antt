use Rattle.std.proofs.{Common.{◌≡◌, take, arith}, lemmas.{Grind.common_steps, List.take_at}}
use Rattle.pv_fields.proofs.CallerLemmas.{appends_then, slice_after}
use Rattle.pv_screen.proofs.{Vocabulary.message_text, Shows.message_ready}
use Rattle.pv_screen.proofs.painting.message.Goals as goal

pub returns-clause-ready : goal.returns-clause-ready
returns-clause-ready c = λ fits t before.
    let text : take c.written.result c.put_cells.new.out.into.now ≡ message_text c.args.cells.now =
    grind (arith, common_steps, appends_then, slice_after, take_at) in
    let ready = message_ready c.args.cells.now (record { width = c.told-cells; seven_bits = fits }) t before in
    rw text ready
