-- The rows of the messages.
use Rattle.std.proofs.Common.{◌≡◌, ℕ, ◌-◌, true, List, length, All, replicate, refl, lit≤}
use Rattle.std.specs.Bool.{Decides}
use Rattle.std.specs.List.{list_all}
use Rattle.std.proofs.lemmas.Bool.{leb-true, le-leb}
use Rattle.std.proofs.lemmas.Bool.Decides.{Decides-by_and}
use Rattle.std.proofs.lemmas.List.Elements.{All-append, All-replicate}
use Rattle.pv_cells.specs.Row.{IsCell}
use Rattle.pv_frame.specs.Errors.{is_cell}
use Rattle.pv_session.specs.declared.message.Message.{Message}
use Rattle.pv_session.specs.declared.message.Message.TheVariants.{KeyAccount, KeyPassword, NotKnown, CallRefused, Welcome, PageNotAvailable, NoSuchRoute, NoPreviousFrame, KeysNotUnderstood, Blank, CallEnded, PleaseTryLater, KeyToSend, MessageStored, MessageNotSent, NoMessages, MessageRemoved, KeyToDelete}
use Rattle.pv_session.specs.Messages.{message_words, message_row}

-- bytes that pass the test are cells
cells_of : (bytes : List ℕ) → Decides (list_all is_cell bytes) (All IsCell bytes)
cells_of = Decides-by_and is_cell IsCell (list_all is_cell) (λ cell. (leb-true cell 127, le-leb cell 127)) refl (λ _ _. refl)

-- the words of each message pass it
pass : (message : Message) → list_all is_cell (message_words message) ≡ true
pass KeyAccount = refl
pass KeyPassword = refl
pass NotKnown = refl
pass CallRefused = refl
pass Welcome = refl
pass PageNotAvailable = refl
pass NoSuchRoute = refl
pass NoPreviousFrame = refl
pass KeysNotUnderstood = refl
pass Blank = refl
pass CallEnded = refl
pass PleaseTryLater = refl
pass KeyToSend = refl
pass MessageStored = refl
pass MessageNotSent = refl
pass NoMessages = refl
pass MessageRemoved = refl
pass KeyToDelete = refl

-- so a message's row has cells
pub message_cells : (message : Message) → All IsCell (message_row message)
unfolding message_row
message_cells message =
    let words = message_words message in
    All-append IsCell words (replicate (40 - length words) 32) ((cells_of words).0 (pass message))
    (All-replicate IsCell (40 - length words) 32 (lit≤ tt))
