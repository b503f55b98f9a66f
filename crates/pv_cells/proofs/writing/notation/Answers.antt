use Rattle.std.proofs.{Common.arith, lemmas.List.Folds.length-flat_map-take}
use Rattle.pv_cells.specs.Notation.{notation_of_byte}
use Rattle.pv_cells.proofs.writing.notation.Goals as goal

-- the notation of all the cells fits, and so that of each
pub put_byte-requires : goal.put_byte-requires
put_byte-requires c =
    let up_to_here = length-flat_map-take notation_of_byte c.args.cells.now c.loop-cell.cell-index 0 (omega arith) in
    omega (arith, up_to_here, c.fits.ensures.0 c.if-not-fits.false, c.loop-cell.invariant.room)
