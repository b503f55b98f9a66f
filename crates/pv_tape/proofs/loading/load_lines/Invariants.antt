use Rattle.std.proofs.Common.{◌≡◌, ◌+◌, ◌<◌, ◌≤◌, List, None, true, length}
use Rattle.pv_input.specs.declared.text.TheConstants.{LONGEST_TEXT}
use Rattle.pv_edits.specs.Room.{has_editor}
use Rattle.pv_udc.specs.Judgement.{next_number}
use Rattle.pv_udc.specs.contracts.rules.UdcRulesRules.TheImpl as udc
use Rattle.pv_words.specs.Lines.{lines_of}
use Rattle.pv_tape.specs.Loading.{last_number_of}
use Rattle.pv_tape.specs.Tape.{TapeEdit, AreGood, second_line}
use Rattle.pv_tape.specs.declared.head.TheConstants.{LAST_FIRST}
use Rattle.pv_tape.proofs.Ahead.{IsWaiting}
use Rattle.pv_tape.proofs.Progressing.{IsGoing}
use Rattle.pv_tape.proofs.loading.load_lines.Given as goal

-- how far the run is, whatever edits the lines are
abbrev pub invariant-loop-rest : goal.invariant-loop-rest
invariant-loop-rest g l = record {
  going : (edits : List TapeEdit) → AreGood None second_line (lines_of l.text) edits
      → IsGoing udc.ghosts g.D.Reports l.head.account l.head.first (last_number_of l.fn.node.state.records l.head.account) l.fn.node
      edits l.node l.progress (lines_of l.rest);
  hand : l.node.hand ≡ None;
  last : l.progress.numbers.last ≡ last_number_of l.node.state.records l.head.account;
  limits : l.node.state.limits ≡ l.fn.node.state.limits;
  lines : l.progress.line + length l.rest ≤ second_line + LONGEST_TEXT;
  numbers : l.progress.numbers.next + length l.rest ≤ LAST_FIRST + LONGEST_TEXT;
  stored : l.progress.numbers.stored + l.head.first ≤ l.progress.numbers.next;
  waiting : has_editor l.fn.node.state.records l.head.account ≡ true
      → next_number l.fn.node.state.records l.head.account < l.head.first
      → IsWaiting udc.ghosts g.D.Reports l.head l.fn.node (lines_of l.text) l.node l.progress (lines_of l.rest);
  counted : g.D.Reports.faults l.fn.node.journal.disk ≤ g.D.Reports.faults l.node.journal.disk;
}

abbrev pub decreases-loop-rest : goal.decreases-loop-rest
decreases-loop-rest g l = length l.rest
