-- A line that is answered by a refusal leaves the seat as it was.
use Rattle.std.proofs.Common.{◌≡◌, ℕ, List, Option, Some, None, refl}
use Rattle.pv_fields.specs.Refusals.{first_of}
use Rattle.pv_edits.specs.declared.record.Record.{Record}
use Rattle.pv_editor.specs.declared.line.EditLine.{EditLine}
use Rattle.pv_editor.specs.declared.line.EditLine.TheVariants as lines
use Rattle.pv_editor.specs.declared.replies.UdcReplyView.{UdcReplyView}
use Rattle.pv_editor.specs.declared.seat.EditorSeat.{EditorSeat}
use Rattle.pv_editor.specs.declared.step.EditStep.TheVariants.{Say}
use Rattle.pv_editor.specs.Replies.{ok_reply, refusal_text}
use Rattle.pv_editor.specs.Say.{refusals, seat_after, step_of, turn_by, turn_of}

-- what was done is no refusal
ok-refused : (code shown : ℕ) → Say ok_reply ≡ Say (refusal_text code shown) → ⊥
ok-refused code shown same = absurd cc

module _ (seat : EditorSeat) (records : List Record) (places : List ℕ) (code shown : ℕ) where
  -- a line whose step is a refusal changes nothing
  unchanged : (line : EditLine) → step_of seat records places line ≡ Say (refusal_text code shown) → seat_after seat records line ≡ seat
  unchanged (lines.LogOn account password) is = absurd (ok-refused code shown is)
  unchanged (lines.New name) is = absurd (ok-refused code shown is)
  unchanged (lines.Open name) is = absurd (ok-refused code shown is)
  unchanged (lines.Change change) is = absurd (ok-refused code shown is)
  unchanged (lines.Store q) is = refl
  unchanged (lines.Ask q wish) is = refl
  unchanged lines.Last is = refl
  unchanged (lines.Responses place) is = refl
  unchanged lines.Quit is = refl

  -- neither does one that is refused
  kept_by : (found : Option UdcReplyView) (line : EditLine)
      → (turn_by found seat (seat_after seat records line, step_of seat records places line)).1 ≡ Say (refusal_text code shown)
      → (turn_by found seat (seat_after seat records line, step_of seat records places line)).0 ≡ seat
  kept_by (Some refusal) line is = refl
  kept_by None line is = unchanged line is

  -- so a turn that ends in a refusal keeps the seat
  pub kept : (line : Option EditLine) → (turn_of seat records places line).1 ≡ Say (refusal_text code shown)
      → (turn_of seat records places line).0 ≡ seat
  kept None is = refl
  kept (Some line) is = kept_by (first_of (refusals seat records line)) line is
