use Rattle.std.proofs.{Common.arith, lemmas.List.Folds.length-flat_map-take}
use Rattle.pv_cells.specs.Notation.{notation_of_byte}
use Rattle.pv_cells.proofs.writing.fits.Goals as goal

-- what needs more than is left needs more than there was
pub returns-then-left-needed : goal.returns-then-left-needed
returns-then-left-needed c =
    let up_to_here = length-flat_map-take notation_of_byte c.args.bytes.now c.loop-byte.byte-index 0 (omega arith) in
    (λ never. cc, λ fits. absurd (omega (arith, up_to_here, c.notation_length-needed.ensures)))
