use Rattle.std.proofs.Common.{◌≡◌, ◌++◌, take}
use Rattle.pv_script.specs.Transcript.{turns_text}
use Rattle.pv_script.proofs.answer.push_turns.Given as goal

-- the text so far ends with the screens so far
abbrev pub invariant-loop-turn : goal.invariant-loop-turn
invariant-loop-turn l = l.text.items ≡ l.initial.text.items ++ turns_text (take l.turn-index l.turns)
