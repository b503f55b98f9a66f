use Rattle.std.proofs.Common.{◌≡◌, ◌-◌, ◌≤◌, ◌++◌, take, length}
use Rattle.pv_cells.specs.Notation.{notation_of}
use Rattle.pv_cells.proofs.writing.push_notation.Given as goal

-- the text so far ends with the notation of the bytes so far
abbrev pub invariant-loop-at : goal.invariant-loop-at
invariant-loop-at l = record {
  within : l.at ≤ length l.bytes;
  written : l.text.items ≡ l.initial.text.items ++ notation_of (take l.at l.bytes);
}

abbrev pub decreases-loop-at : goal.decreases-loop-at
decreases-loop-at l = length l.bytes - l.at
