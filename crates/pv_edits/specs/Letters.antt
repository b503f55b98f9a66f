-- The letters that an edit list brings: each from the place of a mail that was taken up, to a centre that is the account's home then.
use Rattle.std.specs.Prelude.{ℕ, ◌==◌, Bool, List, Option, Some, None, is_some, slice_get, take, if◌then◌else◌}
use Rattle.pv_fields.specs.Reading.{◌>>=◌}
use Rattle.pv_post.specs.Boxes.{WaitingLetter}
use Rattle.pv_post.specs.Item.{Message}
use Rattle.pv_post.specs.Waiting.{letter_of}
use Rattle.pv_post.specs.declared.item.Item.{Item}
use Rattle.pv_post.specs.declared.item.Item.TheVariants as items
use Rattle.pv_edits.specs.Sight.{account_at_home}
use Rattle.pv_edits.specs.declared.record.Record.{Record}
use Rattle.pv_edits.specs.declared.record.Record.TheVariants.{Put, Drop, Account, Lease, Taken}

-- the account's home is the centre
abbrev pub is_home : List Record → ℕ → ℕ → Bool
is_home records centre account = is_some (account_at_home records centre account)

-- the mail in an item
abbrev pub mail_of : Item → Option Message
mail_of (items.Charge line) = None
mail_of (items.Reply reply) = None
mail_of (items.Mail mail) = Some mail

-- the mail that a record took up
abbrev pub mail_in : Record → Option Message
mail_in (Put editor q name frame) = None
mail_in (Drop editor q name) = None
mail_in (Account editor q account) = None
mail_in (Lease editor q root account) = None
mail_in (Taken taken) = mail_of taken.item

-- the letter under this number, if the mail is to the account
abbrev pub letter_to : ℕ → ℕ → Message → Option WaitingLetter
letter_to account number mail = if account == mail.to then Some (letter_of number mail) else None

-- the letter that a record of this place brings to the account at a centre, if the centre is his home by the records before
abbrev pub letter_brought : ℕ → ℕ → List Record → ℕ → Record → Option WaitingLetter
letter_brought centre account before place edit =
    if is_home before centre account then mail_in edit >>= letter_to account place else None

-- the letter that a place of an edit list brings to the account at a centre
abbrev pub letter_at : List Record → ℕ → ℕ → ℕ → Option WaitingLetter
letter_at records centre account place = slice_get records place >>= letter_brought centre account (take place records) place
