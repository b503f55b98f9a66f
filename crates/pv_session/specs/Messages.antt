-- What row 24 says to a caller: one table of texts, and the screens that show one.
use Rattle.std.specs.Prelude.{ℕ, ◌-◌, List, [], codes, slice_set}
use Rattle.pv_screen.specs.Composing.{at_left}
use Rattle.pv_screen.specs.Grid.{blank_grid}
use Rattle.pv_screen.specs.declared.grid.TheConstants.{ROWS, COLUMNS}
use Rattle.pv_screen.specs.declared.screen.Screen.{Screen}
use Rattle.pv_screen.specs.declared.screen.Screen.TheVariants.{Whole, Row}
use Rattle.pv_session.specs.declared.message.Message.{Message}
use Rattle.pv_session.specs.declared.message.Message.TheVariants.{KeyAccount, KeyPassword, NotKnown, CallRefused, Welcome, PageNotAvailable, NoSuchRoute, NoPreviousFrame, KeysNotUnderstood, Blank, CallEnded, PleaseTryLater, KeyToSend, MessageStored, MessageNotSent, NoMessages, MessageRemoved, KeyToDelete}

-- the words of a message
abbrev pub message_words : Message → List ℕ
message_words KeyAccount = codes "KEY YOUR ACCOUNT NUMBER"
message_words KeyPassword = codes "KEY YOUR PASSWORD"
message_words NotKnown = codes "NOT KNOWN. KEY YOUR ACCOUNT NUMBER"
message_words CallRefused = codes "CALL REFUSED"
message_words Welcome = codes "WELCOME"
message_words PageNotAvailable = codes "PAGE NOT AVAILABLE"
message_words NoSuchRoute = codes "NO SUCH ROUTE"
message_words NoPreviousFrame = codes "NO PREVIOUS FRAME"
message_words KeysNotUnderstood = codes "KEYS NOT UNDERSTOOD"
message_words Blank = []
message_words CallEnded = codes "CALL ENDED"
message_words PleaseTryLater = codes "PLEASE TRY LATER"
message_words KeyToSend = codes "KEY 1 TO SEND, 2 NOT TO SEND"
message_words MessageStored = codes "MESSAGE STORED"
message_words MessageNotSent = codes "MESSAGE NOT SENT"
message_words NoMessages = codes "NO MESSAGES WAITING"
message_words MessageRemoved = codes "MESSAGE REMOVED"
message_words KeyToDelete = codes "KEY 1 TO DELETE"

-- the words fill a row from its left, with spaces after them
unfoldable pub message_row : Message → List ℕ
message_row message = at_left COLUMNS (message_words message)

-- the screen that changes row 24 alone
abbrev pub screen_of_row : Message → Screen
screen_of_row message = Row (message_row message)

-- the screen that has the message in row 24 and is blank above it
abbrev pub screen_of_blank : Message → Screen
screen_of_blank message = Whole (slice_set blank_grid (ROWS - 1) (message_row message))
