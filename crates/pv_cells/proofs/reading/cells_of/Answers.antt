use Rattle.std.proofs.{Common.arith, lemmas.Grind.common_steps}
use Rattle.pv_cells.proofs.Rows.{row_found, row_again, row_cells}
use Rattle.pv_cells.proofs.reading.cells_of.Goals as goal

pub returns-in-Some-clause-only : goal.returns-in-Some-clause-only
returns-in-Some-clause-only g c = λ row spells. grind (arith, common_steps, row_again g.row.N c.args.text.now row spells)

pub returns-in-None-clause-only : goal.returns-in-None-clause-only
returns-in-None-clause-only g c = λ row spells. grind (arith, common_steps, row_again g.row.N c.args.text.now row spells)

pub returns-in-None-clause-cells : goal.returns-in-None-clause-cells
returns-in-None-clause-cells g c = row_cells g.row.N c.args.text.now c.fill-count.new.row (grind (arith, common_steps, row_found))
