use Rattle.std.proofs.Common.{take}
use Rattle.pv_words.specs.Split.{HasNone}
use Rattle.pv_words.proofs.lines.split_at.Given as goal

-- the byte is not among those so far
abbrev pub invariant-loop-at : goal.invariant-loop-at
invariant-loop-at l = HasNone l.byte (take l.at l.text)
