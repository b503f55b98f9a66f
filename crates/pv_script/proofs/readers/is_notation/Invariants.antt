use Rattle.std.proofs.Common.{length}
use Rattle.std.specs.Prelude.{◌↔◌}
use Rattle.pv_script.proofs.Notation.{IsWhole}
use Rattle.pv_script.proofs.readers.is_notation.Given as goal

-- the text is a notation exactly when the rest is one
abbrev pub invariant-loop-later : goal.invariant-loop-later
invariant-loop-later l = IsWhole l.fn.text ↔ IsWhole l.rest

abbrev pub decreases-loop-later : goal.decreases-loop-later
decreases-loop-later l = length l.rest
