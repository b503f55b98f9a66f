-- A turn is that of the line, or of its refusal.
use Rattle.std.proofs.Common.{◌≡◌, Option, Some, None, ap}
use Rattle.pv_editor.specs.declared.replies.UdcReplyView.{UdcReplyView}
use Rattle.pv_editor.specs.declared.seat.EditorSeat.{EditorSeat}
use Rattle.pv_editor.specs.declared.step.EditStep.{EditStep}
use Rattle.pv_editor.specs.Say.{turn_by, refusal_step}

module _ (found : Option UdcReplyView) (seat : EditorSeat) (turn : EditorSeat × EditStep) where
  -- a line that is refused
  pub turn-refused : (refusal : UdcReplyView) → found ≡ Some refusal → turn_by found seat turn ≡ (seat, refusal_step refusal)
  turn-refused refusal is = ap (λ (o : Option UdcReplyView). turn_by o seat turn) is

  -- a line that is not
  pub turn-taken : found ≡ None → turn_by found seat turn ≡ turn
  turn-taken is = ap (λ (o : Option UdcReplyView). turn_by o seat turn) is
