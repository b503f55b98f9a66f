use Rattle.std.proofs.{Common.{◌+◌, arith}, lemmas.{Grind.common_steps, List.take_all}}
use Rattle.pv_fields.proofs.CallerLemmas.{appends_then}
use Rattle.pv_screen.proofs.Spaces.{cells_bytes_more}
use Rattle.pv_screen.proofs.painting.put_cells.Goals as goal

pub loop-at-preserved : goal.loop-at-preserved
loop-at-preserved c =
    grind (arith, common_steps, appends_then, cells_bytes_more c.args.cells.now c.loop-at.at (c.loop-at.at + 8))

pub returns : goal.returns
returns c = grind (arith, common_steps, appends_then, cells_bytes_more, take_all)
