use Rattle.pv_cells.proofs.Squares.{same_block}
use Rattle.pv_cells.proofs.mosaics.mosaics_are_one_to_one.Goals as goal

pub returns-clause-squares : goal.returns-clause-squares
returns-clause-squares c = same_block
