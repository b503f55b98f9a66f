use Rattle.std.proofs.Common.{take}
use Rattle.pv_words.specs.Split.{HasNone, word_gap}
use Rattle.pv_words.proofs.split.split_of.Given as goal

-- no space is among those so far
abbrev pub invariant-loop-at : goal.invariant-loop-at
invariant-loop-at l = HasNone word_gap (take l.at l.line)
