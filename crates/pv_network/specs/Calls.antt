-- The calls at a centre's ports: what each event makes of them, and the answer to it.
use Rattle.std.specs.Prelude.{◌≡◌, ℕ, ◌+◌, ◌&&◌, nat_le, Bool, true, false, List, [], ◌∷◌, ◌++◌, replicate, slice_index_or, slice_set, Option, Some, None, Result, Ok, Err, if◌then◌else◌}
use Rattle.pv_edits.specs.Sight.{View}
use Rattle.pv_post.specs.Boxes.{WaitingLetter, has_letter}
use Rattle.pv_post.specs.declared.item.Item.{Item}
use Rattle.pv_post.specs.declared.item.Item.TheVariants as items
use Rattle.pv_post.specs.declared.removal.Removal.{Removal}
use Rattle.pv_session.specs.declared.entry.Entry.{Entry}
use Rattle.pv_session.specs.declared.message.Message.TheVariants.{KeyAccount}
use Rattle.pv_session.specs.declared.step.Paid.{Paid}
use Rattle.pv_session.specs.declared.step.Paid.TheVariants.{Serial, Stored}
use Rattle.pv_session.specs.declared.step.Step.{Step}
use Rattle.pv_session.specs.declared.step.Step.TheVariants as steps
use Rattle.pv_session.specs.declared.step.Wish.{Wish}
use Rattle.pv_session.specs.declared.step.Wish.TheVariants as wishes
use Rattle.pv_session.specs.Messages.{screen_of_blank}
use Rattle.pv_session.specs.State.{CallState}
use Rattle.pv_session.specs.Turns.{storing_turn, full_turn}
use Rattle.pv_network.specs.declared.event.TheConstants.{PORTS}
use Rattle.pv_network.specs.declared.outcome.Outcome.{Outcome}
use Rattle.pv_network.specs.declared.outcome.Outcome.TheVariants as outcomes
use Rattle.pv_network.specs.Call.{Call, call_of, first_call, is_waiting, wish_to_store, key_turn, IsEntryAt}

-- the calls of a centre: how many of its callers have logged on, the items that it has kept for them, the letters that they have
-- removed, and the call at each port
pub record Calls : Type 0 where
  pub log_ons : ℕ
  pub items : List Item
  pub removals : List Removal
  pub ports : List (Option Call)

-- a centre that nobody has called
abbrev pub no_calls : Calls
no_calls = record { log_ons = 0; items = []; removals = []; ports = replicate PORTS None }

-- the call at a port; after the last port there is none
abbrev pub call_among : List (Option Call) → ℕ → Option Call
call_among ports port = slice_index_or ports port None

abbrev pub call_in : Calls → ℕ → Option Call
call_in calls port = call_among calls.ports port

-- the account that a caller gave, if there is a call
abbrev pub given_account : Option Call → Option ℕ
given_account None = None
given_account (Some call) = call.seat.account

-- another call at a port, or none
abbrev pub with_call : Calls → ℕ → Option Call → Calls
with_call calls port call = record calls { ports = slice_set calls.ports port call }

-- what is done at the ports, and the answer: the same whatever was stored, which stays
abbrev pub IsDone : List (Option Call) → List (Option Call) → Outcome → (Calls → Calls × Outcome) → Type 0
IsDone old new outcome step = (calls : Calls)
    → (record calls { ports = new } ≡ (step (record calls { ports = old })).0)
    × (outcome ≡ (step (record calls { ports = old })).1)

-- ---- what a step at a seat does

-- the answer to a step
abbrev pub step_answer : Step → Outcome
step_answer steps.Quiet = outcomes.Quiet
step_answer (steps.Show screen) = outcomes.Shown (record { screen = screen; ended = None })
step_answer (steps.Owe wish) = outcomes.Owes
step_answer (steps.Ended why screen) = outcomes.Shown (record { screen = screen; ended = Some why })

-- the call after a step: there is none after its end
abbrev pub call_after : CallState → Step → Option Call
call_after seat steps.Quiet = Some (call_of seat)
call_after seat (steps.Show screen) = Some (call_of seat)
call_after seat (steps.Owe wish) = Some (call_of seat)
call_after seat (steps.Ended why screen) = None

-- a turn at a port
abbrev pub turn_at : Calls → ℕ → CallState × Step → Calls × Outcome
turn_at calls port turn = (with_call calls port (call_after turn.0 turn.1), step_answer turn.1)

-- ---- dial, hang

abbrev pub dial_at : Calls → ℕ → Option Call → Calls × Outcome
dial_at calls port None = (
  with_call calls port (Some first_call),
  outcomes.Shown
      (record { screen = screen_of_blank KeyAccount; ended = None }),
)
dial_at calls port (Some call) = (calls, outcomes.Busy)

abbrev pub hang_at : Calls → ℕ → Option Call → Calls × Outcome
hang_at calls port None = (calls, outcomes.NoCall)
hang_at calls port (Some call) = (with_call calls port None, outcomes.Hung)

-- ---- press

-- a key at a port at a moment, with the entry that it makes; a call that waits takes no key
abbrev pub press_at : Calls → ℕ → ℕ → View → ℕ → Option Entry → Option Call → Calls × Outcome
press_at calls port key view moment entry None = (calls, outcomes.NoCall)
press_at calls port key view moment entry (Some call) =
    if is_waiting call then (calls, outcomes.Owing) else turn_at calls port (key_turn call.seat key view moment entry)

-- the entry that a key makes at a port, if it is read at all
abbrev pub IsEntryUnlessWaiting : Bool → Call → ℕ → Option Entry → Type 0
IsEntryUnlessWaiting true call key entry = Unit {0}
IsEntryUnlessWaiting false call key entry = IsEntryAt call.seat key entry

abbrev pub IsPortEntry : Option Call → ℕ → Option Entry → Type 0
IsPortEntry None key entry = Unit {0}
IsPortEntry (Some call) key entry = IsEntryUnlessWaiting (is_waiting call) call key entry

-- ---- store, show

-- what the call at a port is to have stored; or why nothing is
abbrev pub wish_or_nothing : Option Wish → Result Wish Outcome
wish_or_nothing None = Err outcomes.Nothing
wish_or_nothing (Some wish) = Ok wish

abbrev pub wish_at : Option Call → Result Wish Outcome
wish_at None = Err outcomes.NoCall
wish_at (Some call) = wish_or_nothing (wish_to_store call)

-- What a centre stores a wish by: how many records it may have and has, how many of the edit list it has applied, and the letters
-- that wait there for each account.
pub record Holdings : Type 0 where
  pub limit : ℕ
  pub count : ℕ
  pub applied : ℕ
  pub letters : ℕ → List WaitingLetter

-- a record is stored for a wish: for each but the removal of a letter that does not wait
abbrev pub makes_record : Holdings → Wish → Bool
makes_record holdings (wishes.LogOn account) = true
makes_record holdings (wishes.Charge line) = true
makes_record holdings (wishes.Post item) = true
makes_record holdings (wishes.Remove account number) = has_letter (holdings.letters account) number

-- there is no room for the record of a wish
abbrev pub lacks_room : Holdings → Wish → Bool
lacks_room holdings wish = makes_record holdings wish && nat_le holdings.limit holdings.count

-- What was stored, once a wish is: a log-on is counted, a charge or what a caller sends is an item, and a removal is one of the
-- letter at the count of the applied records.
abbrev pub log_ons_with : Calls → Wish → ℕ
log_ons_with calls (wishes.LogOn account) = calls.log_ons + 1
log_ons_with calls _ = calls.log_ons

abbrev pub items_with : Calls → Wish → List Item
items_with calls (wishes.LogOn account) = calls.items
items_with calls (wishes.Charge line) = calls.items ++ items.Charge line ∷ []
items_with calls (wishes.Post item) = calls.items ++ item ∷ []
items_with calls (wishes.Remove account number) = calls.items

abbrev pub removals_with : Holdings → Calls → Wish → List Removal
removals_with holdings calls (wishes.Remove account number) =
    if has_letter (holdings.letters account) number then
    calls.removals ++ record { account = account; number = number; place = holdings.applied } ∷ []
    else calls.removals
removals_with holdings calls _ = calls.removals

-- the reply: the serial of a call is the count of the log-ons before it
abbrev pub reply_for : Calls → Wish → Paid
reply_for calls (wishes.LogOn account) = Serial calls.log_ons
reply_for calls _ = Stored

-- a wish of the call at a port is stored, and the reply is to be shown to it
abbrev pub with_wish : Holdings → Calls → ℕ → Call → Wish → Calls
with_wish holdings calls port call wish = record {
  log_ons = log_ons_with calls wish;
  items = items_with calls wish;
  removals = removals_with holdings calls wish;
  ports = slice_set calls.ports port (Some (record call { stored = Some (reply_for calls wish) }));
}

-- the answer of a full centre with this many records, by the step with which the seat ends
abbrev pub away_answer : ℕ → Step → Outcome
away_answer count (steps.Ended why screen) = outcomes.StoreFull count screen
away_answer count _ = outcomes.Nothing

-- a wish is stored, unless it is refused: then the call ends
abbrev pub storing_unless : Bool → Holdings → Calls → ℕ → Call → Wish → Calls × Outcome
storing_unless true holdings calls port call wish =
    (with_call calls port None, away_answer holdings.count (full_turn call.seat call.seat.phase).1)
storing_unless false holdings calls port call wish = (with_wish holdings calls port call wish, outcomes.Stored)

-- What a call owes is stored, if the centre has room. Nothing is stored for a call that owes nothing, or for which it was stored.
abbrev pub storing_at : Holdings → Calls → ℕ → Call → Option Wish → Calls × Outcome
storing_at holdings calls port call None = (calls, outcomes.Nothing)
storing_at holdings calls port call (Some wish) = storing_unless (lacks_room holdings wish) holdings calls port call wish

abbrev pub store_at : Holdings → Calls → ℕ → Option Call → Calls × Outcome
store_at holdings calls port None = (calls, outcomes.NoCall)
store_at holdings calls port (Some call) = storing_at holdings calls port call (wish_to_store call)

-- the reply to what was stored is shown
abbrev pub showing_at : Calls → ℕ → CallState → Option Paid → Calls × Outcome
showing_at calls port seat None = (calls, outcomes.Nothing)
showing_at calls port seat (Some reply) = turn_at calls port (storing_turn seat seat.phase reply)

abbrev pub show_at : Calls → ℕ → Option Call → Calls × Outcome
show_at calls port None = (calls, outcomes.NoCall)
show_at calls port (Some call) = showing_at calls port call.seat call.stored
