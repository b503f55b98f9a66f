use Rattle.std.proofs.Common.{◌+◌, ◌-◌, ◌≤◌, length}
use Rattle.std.specs.Vec.{vec_capacity}
use Rattle.pv_input.specs.Reading.{HasRead, longest_text}
use Rattle.pv_input.proofs.text.read_text.Given as goal

-- the text is what was read so far, and has its room
abbrev pub invariant-loop-piece : goal.invariant-loop-piece
invariant-loop-piece g l = record {
  read : HasRead (g.S.Source.taken l.fn.source) (g.S.Source.taken l.source) (g.S.Source.left l.fn.source) (g.S.Source.left l.source) l.text.items;
  room : longest_text + 1 ≤ vec_capacity l.text;
  within : length l.text.items ≤ longest_text + 1;
  counted : g.S.Source.read_faults l.fn.source ≤ g.S.Source.read_faults l.source;
}

abbrev pub decreases-loop-piece : goal.decreases-loop-piece
decreases-loop-piece g l = longest_text + 1 - length l.text.items
