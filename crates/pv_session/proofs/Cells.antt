-- The cells of what a seat sends.
use Rattle.std.proofs.Common.{ℕ, Bool, true, false, Option, Some, None, sym, subst}
use Rattle.pv_edits.specs.Sight.{View}
use Rattle.pv_session.specs.declared.entry.Entry.{Entry}
use Rattle.pv_session.specs.declared.message.Message.TheVariants.{CallEnded}
use Rattle.pv_session.specs.declared.step.Step.{Step}
use Rattle.pv_session.specs.State.{CallState}
use Rattle.pv_session.specs.Turns.{CanBeShown, Goes, Listens, reading_call, read_turn, byte_turn, call_at_entry}
use Rattle.pv_session.proofs.EachTurn.{entry_holds}
use Rattle.pv_session.proofs.Rows.{message_cells}

-- what comes of a turn can be shown if the turn's screen can
goes_shown : (turn : CallState × Step) (after : CallState) (step : Step) → CanBeShown turn.1 → Goes turn after step → CanBeShown step
goes_shown turn after step shown goes = subst CanBeShown (sym goes.step_is) shown

-- what comes of a byte that is read
read_shown : (call : CallState) (byte : ℕ) (view : View) (moment : ℕ) (entry : Option Entry)
    → CanBeShown (read_turn call byte view moment entry).1
read_shown call byte view moment None = tt
read_shown call byte view moment (Some entry) =
    entry_holds (λ _. Unit {0}) (λ turn. CanBeShown turn.1) moment (λ _ _ _. tt) (λ _ words _. message_cells words) (λ _ _ _. tt)
    (λ _ _ words _. message_cells words) (λ _ _ _. tt) (λ _ _ _. tt) (λ _ _ _ _ _. tt) (λ _ _. tt) (λ _ _ _ _ _ _. tt) (λ _ _ _. tt)
    (call_at_entry call) view entry tt

-- at a seat that takes keys
pub listens_shown : (spent : Bool) (call after : CallState) (byte : ℕ) (view : View) (moment : ℕ) (step : Step)
    → Listens spent call byte view moment after step → CanBeShown step
listens_shown true call after byte view moment step goes = goes_shown _ after step (message_cells CallEnded) goes
listens_shown false call after byte view moment step hears =
    goes_shown (byte_turn call byte view moment hears.entry) after step
    (read_shown (reading_call call byte) byte view moment hears.entry) hears.goes
