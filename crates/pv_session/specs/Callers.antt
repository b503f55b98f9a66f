-- What always holds of a call: its caller has logged on before he is charged, and what it owes is its own.
use Rattle.std.specs.Prelude.{◌≡◌, ℕ, Bool, true, false, Option, Some, None, is_some, IsSome, IfSome}
use Rattle.pv_charge.specs.Line.{Charge}
use Rattle.pv_post.specs.declared.item.Item.{Item}
use Rattle.pv_post.specs.declared.item.Item.TheVariants as items
use Rattle.pv_session.specs.declared.step.Wish.{Wish}
use Rattle.pv_session.specs.declared.step.Wish.TheVariants as wishes
use Rattle.pv_session.specs.Entries.{Mode, AccountMode, PasswordMode, BrowseMode, FillMode, QuestionMode, LetterMode}
use Rattle.pv_session.specs.Shown.{ShownFrame}
use Rattle.pv_session.specs.State.{CallState, wish_in}

-- a caller in this mode has logged on
abbrev pub has_logged_on : Mode → Bool
has_logged_on AccountMode = false
has_logged_on PasswordMode = false
has_logged_on BrowseMode = true
has_logged_on (FillMode field full) = true
has_logged_on QuestionMode = true
has_logged_on (LetterMode number) = true

-- who sends an item; a charge is sent by nobody
abbrev pub sender_of : Item → Option ℕ
sender_of (items.Charge line) = None
sender_of (items.Reply reply) = Some reply.account
sender_of (items.Mail mail) = Some mail.sender

-- a charge is for a frame
pub record IsChargeFor (charge : Charge) (shown : ShownFrame) : Type 0 where
  pub name : charge.name ≡ shown.name
  pub price : charge.price ≡ shown.frame.price

-- a charge is the call's own: it has the call's serial, its line number and its account, and is for the frame that is kept aside
pub record IsOwnCharge (call : CallState) (charge : Charge) : Type 0 where
  pub serial : call.serial ≡ Some charge.serial
  pub number : charge.number ≡ call.lines
  pub account : call.account ≡ Some charge.account
  pub aside : (shown : ShownFrame) × (call.aside ≡ Some shown) × IsChargeFor charge shown

-- what is to be stored is the call's own: that its account has logged on, before it has a serial; and later its charge, what its
-- account sends, or that a letter of its account is removed
abbrev pub IsOwn : CallState → Wish → Type 0
IsOwn call (wishes.LogOn account) = (call.account ≡ Some account) × (call.serial ≡ None)
IsOwn call (wishes.Charge charge) = IsOwnCharge call charge
IsOwn call (wishes.Post item) = IsSome call.serial × IsSome call.account × (call.account ≡ sender_of item)
IsOwn call (wishes.Remove account number) = IsSome call.serial × (call.account ≡ Some account)

-- what always holds of a call
pub record IsCallState (call : CallState) : Type 0 where
  -- it has a serial exactly when its caller has logged on, and then it has his account
  pub serial : is_some call.serial ≡ has_logged_on call.mode
  pub account : IsSome call.serial → IsSome call.account
  -- before that nothing was charged
  pub lines : call.serial ≡ None → call.lines ≡ 0
  -- what it owes is its own
  pub owed : IfSome (wish_in call.phase) (IsOwn call)
