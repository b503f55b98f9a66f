-- The refusals of edits: the number of each, and the number that its text shows.
use Rattle.std.specs.Prelude.{ℕ}
use Rattle.pv_frame.specs.Errors.{error_number}
use Rattle.pv_udc.specs.declared.refusal.Refusal.{Refusal}
use Rattle.pv_udc.specs.declared.refusal.Refusal.TheVariants.{NotLoggedOn, NotOwner, BadNumber, NoFrame, FramesFull, AccountsFull, BadFrame, OperatorOnly, LeasesFull, NoAccount}
use Rattle.pv_udc.specs.declared.reply.Code.{Code}

-- the number of a refusal
abbrev pub code_number : Refusal → ℕ
code_number NotLoggedOn = 1
code_number NotOwner = 2
code_number (BadNumber wanted) = 3
code_number NoFrame = 4
code_number (FramesFull count) = 5
code_number (AccountsFull count) = 6
code_number (BadFrame error) = 7
code_number OperatorOnly = 8
code_number (LeasesFull count) = 9
code_number NoAccount = 10

-- the number that its text shows: what is wanted, the limit that is met, or the number of the frame's error; 0 if it shows none
abbrev pub shown_number : Refusal → ℕ
shown_number NotLoggedOn = 0
shown_number NotOwner = 0
shown_number (BadNumber wanted) = wanted
shown_number NoFrame = 0
shown_number (FramesFull count) = count
shown_number (AccountsFull count) = count
shown_number (BadFrame error) = error_number error
shown_number OperatorOnly = 0
shown_number (LeasesFull count) = count
shown_number NoAccount = 0

-- both together
abbrev pub code_of : Refusal → Code
code_of refusal = record { code = code_number refusal; shown = shown_number refusal }
