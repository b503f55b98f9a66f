-- Which bytes are at the gates of a disk over the writes of an append.
use Rattle.std.proofs.Common.{◌≡◌, inl, inr, ℕ, ◌+◌, ◌≤◌, List, [], ◌∷◌, length, get_or, sym, ◌∙◌, arith}
use Rattle.pv_outside.specs.Disk.{Torn, text_after_write}
use Rattle.pv_outside.proofs.CallerLemmas.{length-text_after_write, stands, inside}
use Rattle.pv_journal.specs.Text.{HasClosedGate, MayHaveBody}

-- the gate at this place is closed, and so is the one after a body of this size
pub record IsBehind (gate size : ℕ) (text : List ℕ) : Type 0 where
  pub here : HasClosedGate gate text
  pub next : HasClosedGate (gate + size + 3) text

-- the first write of an append, if it succeeds, leaves the gate closed and a closed one after the bodies
pub behind_written : (gate size : ℕ) (bytes text : List ℕ) → length bytes ≡ size + 3 → get_or bytes (size + 2) 0 ≡ 0 → HasClosedGate gate text
    → IsBehind gate size (text_after_write (gate + 1) bytes text)
behind_written gate size bytes text long_bytes ends closed =
    let long = length-text_after_write (gate + 1) bytes text (omega (arith, closed.0)) in
    let last : get_or (text_after_write (gate + 1) bytes text) (gate + size + 3) 0 ≡ 0 =
    inside (gate + 1) bytes text (omega (arith, closed.0)) (size + 2) (gate + size + 3) (omega arith) (omega (arith, long_bytes)) ∙ ends in
    record {
      here = (
        omega (arith, closed.0, long),
        λ e. closed.1 (sym (stands (gate + 1) bytes text (omega (arith, closed.0)) gate (inl (omega arith))) ∙ e),
      );
      next = (omega (arith, long, long_bytes), λ e. omega (arith, last, e));
    }

-- a write at the gate, if it fails, leaves a gate after which the bodies may be in hand
pub behind_torn : (gate size : ℕ) (old new : List ℕ) → IsBehind gate size old → Torn gate 1 old new → MayHaveBody gate size new
behind_torn gate size old new behind torn = grind arith

-- once the gate was opened, the one after the bodies is still closed
pub behind_opened : (gate size : ℕ) (text : List ℕ) → IsBehind gate size text
    → HasClosedGate (gate + size + 3) (text_after_write gate (1 ∷ []) text)
behind_opened gate size text behind =
    let within : gate ≤ length text = omega (arith, behind.here.0) in (
      omega (arith, behind.next.0, length-text_after_write gate (1 ∷ []) text within),
      λ e. behind.next.1 (sym (stands gate (1 ∷ []) text within (gate + size + 3) (inr (omega arith))) ∙ e),
    )
