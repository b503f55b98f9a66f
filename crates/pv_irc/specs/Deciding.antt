-- How a centre judges a request at its state: the first answer that applies, or the record that is stored.
use Rattle.std.specs.Prelude.{ℕ, ◌<◌, ◌^◌, not, nat_lt, Bool, true, false, List, [], ◌∷◌, length, Option, Some, None}
use Rattle.pv_fields.specs.Refusals.{first_of, some_if}
use Rattle.pv_page.specs.Names.{IsAccount}
use Rattle.pv_post.specs.Boxes.{has_letter}
use Rattle.pv_post.specs.Spelling.{IsItem}
use Rattle.pv_edits.specs.Down.{IsDown}
use Rattle.pv_edits.specs.Room.{has_room}
use Rattle.pv_edits.specs.declared.down.DownRecord.{DownRecord}
use Rattle.pv_edits.specs.declared.down.DownRecord.TheVariants.{Whole, Blank}
use Rattle.pv_node.specs.declared.decision.Decision.{Decision}
use Rattle.pv_node.specs.declared.decision.Decision.TheVariants.{Answer, Store}
use Rattle.pv_irc.specs.History.{CentreState, letters_for}
use Rattle.pv_irc.specs.declared.record.CentreRecord.{CentreRecord}
use Rattle.pv_irc.specs.declared.record.CentreRecord.TheVariants as records
use Rattle.pv_irc.specs.declared.reply.IrcReply.{IrcReply}
use Rattle.pv_irc.specs.declared.reply.IrcReply.TheVariants.{Applied, Old, Early, NoRoom, Serial, Kept, Nothing}
use Rattle.pv_irc.specs.declared.request.IrcRequest.{IrcRequest}
use Rattle.pv_irc.specs.declared.request.IrcRequest.TheVariants.{Apply, LogOn, Keep, Remove}

-- each part of a request is within its range
abbrev pub IsCentreRequest : IrcRequest → Type 0
IsCentreRequest (Apply n rec) = (n < 2 ^ 64) × IsDown rec
IsCentreRequest (LogOn account) = IsAccount account
IsCentreRequest (Keep item) = IsItem item
IsCentreRequest (Remove account number) = IsAccount account × (number < 2 ^ 64)

-- there is room for what came down: a whole record has room in the base, and what was left out takes none
abbrev pub down_fits : CentreState → DownRecord → Bool
down_fits state (Whole edit) = has_room state.limits state.edits edit
down_fits state Blank = true

-- there is room for a record of the centre's
abbrev pub centre_has_room : CentreState → CentreRecord → Bool
centre_has_room state (records.Applied n rec) = down_fits state rec
centre_has_room state (records.LogOn account) = true
centre_has_room state (records.Kept item) = true
centre_has_room state (records.Removed account number) = true

-- why what came down under a place is not applied, in order: it was before, others are to come first, there is no room
abbrev pub reasons_against : CentreState → ℕ → DownRecord → List (Option IrcReply)
reasons_against state n rec =
    some_if (nat_lt n state.applied) (Old state.applied)
    ∷ some_if (nat_lt state.applied n) (Early state.applied)
    ∷ some_if (not (down_fits state rec)) (NoRoom state.applied)
    ∷ []

-- a reason not to apply it, or its record
abbrev pub applied_unless : Option IrcReply → ℕ → DownRecord → Decision CentreRecord IrcReply
applied_unless (Some reply) n rec = Answer reply
applied_unless None n rec = Store (records.Applied n rec) Applied

-- a removal's record, if the letter waits
abbrev pub removed_if : Bool → ℕ → ℕ → Decision CentreRecord IrcReply
removed_if true account number = Store (records.Removed account number) Applied
removed_if false account number = Answer Nothing

-- what is decided on a request: log-ons and items are always stored, and removals of letters that wait
abbrev pub centre_judgement : CentreState → IrcRequest → Decision CentreRecord IrcReply
centre_judgement state (Apply n rec) = applied_unless (first_of (reasons_against state n rec)) n rec
centre_judgement state (LogOn account) = Store (records.LogOn account) (Serial state.log_ons)
centre_judgement state (Keep item) = Store (records.Kept item) (Kept (length state.items))
centre_judgement state (Remove account number) = removed_if (has_letter (letters_for state account) number) account number
