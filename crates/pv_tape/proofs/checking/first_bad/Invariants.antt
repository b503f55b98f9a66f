use Rattle.std.proofs.Common.{◌+◌, ◌≤◌, ℕ, List, None, length}
use Rattle.pv_words.specs.Lines.{lines_of}
use Rattle.pv_tape.specs.Tape.{TapeEdit, AreGood, IsFirstBad, second_line}
use Rattle.pv_input.specs.declared.text.TheConstants.{LONGEST_TEXT}
use Rattle.pv_tape.proofs.checking.first_bad.Given as goal

-- what is known of the lines that are left is known of all: that they are good, and which is the first bad one
abbrev pub invariant-loop-rest : goal.invariant-loop-rest
invariant-loop-rest l = record {
  good : (edits : List TapeEdit) → AreGood l.working l.number (lines_of l.rest) edits
      → (all : List TapeEdit) × AreGood None second_line (lines_of l.text) all;
  bad : (line : ℕ) → IsFirstBad l.working l.number (lines_of l.rest) line → IsFirstBad None second_line (lines_of l.text) line;
  only : (all : List TapeEdit) → AreGood None second_line (lines_of l.text) all
      → (edits : List TapeEdit) × AreGood l.working l.number (lines_of l.rest) edits;
  number : l.number + length l.rest ≤ second_line + LONGEST_TEXT;
}

abbrev pub decreases-loop-rest : goal.decreases-loop-rest
decreases-loop-rest l = length l.rest
