-- What there is of a call at a caller's seat.
use Rattle.std.specs.Prelude.{ℕ, Bool, true, false, List, [], Option, Some, None}
use Rattle.pv_page.specs.Names.{Name}
use Rattle.pv_session.specs.Entries.{Mode, AccountMode}
use Rattle.pv_session.specs.Shown.{ShownFrame}
use Rattle.pv_session.specs.declared.step.Phase.{Phase}
use Rattle.pv_session.specs.declared.step.Phase.TheVariants.{Listening, Owing, Over}
use Rattle.pv_session.specs.declared.step.Wish.{Wish}
use Rattle.pv_session.specs.declared.step.Wish.TheVariants.{LogOn, Charge, Post, Remove}

-- something is to be stored
abbrev pub is_owing : Phase → Bool
is_owing Listening = false
is_owing (Owing wish) = true
is_owing Over = false

-- what is to be stored, if something is
abbrev pub wish_in : Phase → Option Wish
wish_in Listening = None
wish_in (Owing wish) = Some wish
wish_in Over = None

-- how many charges are to be stored: one or none
abbrev pub charges_in : Phase → ℕ
charges_in Listening = 0
charges_in (Owing (LogOn account)) = 0
charges_in (Owing (Charge line)) = 1
charges_in (Owing (Post item)) = 0
charges_in (Owing (Remove account number)) = 0
charges_in Over = 0

-- a call: what the caller is asked for, and what he has keyed of it; how many of his log-ons failed; his account and the call's
-- serial; how many priced frames he was shown, and the one that is kept aside until its charge is stored; the frame that he is
-- shown, what he has filled in of it, and the names of those before it, the last one first; and how much he has keyed in all
pub record CallState : Type 0 where
  pub phase : Phase
  pub mode : Mode
  pub keyed : List ℕ
  pub failed : ℕ
  pub account : Option ℕ
  pub serial : Option ℕ
  pub lines : ℕ
  pub aside : Option ShownFrame
  pub present : Option ShownFrame
  pub filled : List (List ℕ)
  pub earlier : List Name
  pub bytes : ℕ
  pub entries : ℕ

-- a call that begins
abbrev pub new_call : CallState
new_call = record {
  phase = Listening;
  mode = AccountMode;
  keyed = [];
  failed = 0;
  account = None;
  serial = None;
  lines = 0;
  aside = None;
  present = None;
  filled = [];
  earlier = [];
  bytes = 0;
  entries = 0;
}
