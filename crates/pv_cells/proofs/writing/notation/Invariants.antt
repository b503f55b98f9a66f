use Rattle.std.proofs.Common.{take}
use Rattle.pv_fields.specs.Out.{Appends}
use Rattle.pv_cells.specs.Notation.{notation_of}
use Rattle.pv_cells.proofs.writing.notation.Given as goal

-- what was appended is the notation of the cells so far
abbrev pub invariant-loop-cell : goal.invariant-loop-cell
invariant-loop-cell l = Appends l.initial.out l.out (notation_of (take l.cell-index l.cells))
