-- What is done at a centre's ports is done with its calls, and what a wish that is stored makes of both.
use Rattle.std.proofs.Common.{◌≡◌, ℕ, Bool, true, false, cond, leb, List, length, set, Option, Some, None, Result, Ok, Err, refl, sym, ap, subst, ◌∙◌}
use Rattle.pv_edits.specs.Sight.{View}
use Rattle.std.specs.Prelude.{◌&&◌, not}
use Rattle.pv_post.specs.Boxes.{has_letter}
use Rattle.pv_irc.specs.History.{CentreState, state_count, letters_for, with_centre_record}
use Rattle.pv_irc.specs.declared.record.CentreRecord.{CentreRecord}
use Rattle.pv_irc.specs.declared.record.CentreRecord.TheVariants as records
use Rattle.pv_irc.specs.declared.reply.IrcReply.{IrcReply}
use Rattle.pv_irc.specs.declared.reply.IrcReply.TheVariants as replies
use Rattle.pv_irc.specs.declared.request.IrcRequest.TheVariants as requests
use Rattle.pv_nodes.specs.OnDisk.{OnDisk, CentreIsOnDisk, centre_with}
use Rattle.pv_post.specs.declared.item.Item.TheVariants as items
use Rattle.pv_session.specs.declared.entry.Entry.{Entry}
use Rattle.pv_session.specs.declared.step.Paid.{Paid}
use Rattle.pv_session.specs.declared.step.Step.{Step}
use Rattle.pv_session.specs.declared.step.Wish.{Wish}
use Rattle.pv_session.specs.declared.step.Wish.TheVariants as wishes
use Rattle.pv_session.specs.State.{CallState, is_owing}
use Rattle.pv_session.specs.Turns.{storing_turn, full_turn}
use Rattle.pv_network.specs.declared.outcome.Outcome.{Outcome}
use Rattle.pv_network.specs.declared.outcome.Outcome.TheVariants as outcomes
use Rattle.pv_network.specs.Call.{Call, call_of, is_waiting, wish_to_store, key_turn}
use Rattle.pv_network.specs.Calls.{Calls, makes_record, lacks_room, call_among, call_in, IsDone, turn_at, press_at, show_at, away_answer, wish_or_nothing, wish_at, log_ons_with, items_with, removals_with, reply_for, store_at}
use Rattle.pv_network.specs.Cutting.{wish_of, is_stored_for, record_for}
use Rattle.pv_network.specs.Centre.{Held, calls_of, holdings_of, asked_of, Asked, Comes}
use Rattle.pv_wishes.specs.Wishes.{request_for, paid_by}
use Rattle.pv_network.proofs.SoundCalls.{none_stored}

-- what is done at the ports is done with the calls
pub comes_of : (old : Held) (ports : List (Option Call)) (outcome : Outcome) (step : Calls → Calls × Outcome)
    → IsDone old.ports ports outcome step → Comes old (record old { ports = ports }) outcome (step (calls_of old))
comes_of old ports outcome step done =
    let here = done (calls_of old) in
    record {
      state = λ i. record old.node.state { items = (here.0 i).items; log_ons = (here.0 i).log_ons; removals = (here.0 i).removals };
      on_disk = λ is. is;
      ports = ap (λ (calls : Calls). calls.ports) here.0;
      answer = here.1;
    }

-- ---- store

-- what a centre makes of what a call at a port owes
abbrev Stores : Held → Held → ℕ → Outcome → Type 0
Stores old new port outcome =
    Comes old new outcome (store_at (holdings_of old.node.state) (calls_of old) port (call_in (calls_of old) port))

-- a call that is to have a wish stored owes it
record Owes (found : Option Call) (wish : Wish) : Type 0 where
  call : Call
  is : found ≡ Some call
  owes : wish_to_store call ≡ Some wish

owes : (found : Option Call) (wish : Wish) → wish_at found ≡ Ok wish → Owes found wish
owes None wish is = absurd cc
owes (Some call) wish is = record { call = call; is = refl; owes = of (wish_to_store call) is }
  where
    of : (owed : Option Wish) → wish_or_nothing owed ≡ Ok wish → owed ≡ Some wish
    of None is = absurd cc
    of (Some other) is = cc

-- what a node with room makes of a wish: it has what the calls have, and it gives them the reply that they expect
record IsWished (here : Held) (wish : Wish) : Type 0 where
  reply : IrcReply
  told : paid_by reply ≡ reply_for (calls_of here) wish
  replied : (asked_of here.node.state (request_for wish)).0 ≡ Ok reply
  known : (asked_of here.node.state (request_for wish)).1 ≡ record here.node.state {
    items = items_with (calls_of here) wish;
    log_ons = log_ons_with (calls_of here) wish;
    removals = removals_with (holdings_of here.node.state) (calls_of here) wish;
  }

wished : (here : Held) (wish : Wish) → lacks_room (holdings_of here.node.state) wish ≡ false → IsWished here wish
wished here (wishes.LogOn account) room =
    record { reply = replies.Serial here.node.state.log_ons; told = refl; replied = rw room refl; known = rw room refl }
wished here (wishes.Charge line) room =
    record { reply = replies.Kept (length here.node.state.items); told = refl; replied = rw room refl; known = rw room refl }
wished here (wishes.Post item) room =
    record { reply = replies.Kept (length here.node.state.items); told = refl; replied = rw room refl; known = rw room refl }
wished here (wishes.Remove account number) room = by (has_letter (letters_for here.node.state account) number) refl room
  where
    by : (waits : Bool) → has_letter (letters_for here.node.state account) number ≡ waits
        → (waits && leb here.node.state.limits.records (state_count here.node.state)) ≡ false → IsWished here (wishes.Remove account number)
    by true waits room = record { reply = replies.Applied; told = refl; replied = rw (waits, room) refl; known = rw (waits, room) refl }
    by false waits room = record { reply = replies.Nothing; told = refl; replied = rw waits refl; known = rw waits refl }

-- a node without room for its record refuses a wish
unwished : (state : CentreState) (wish : Wish) → lacks_room (holdings_of state) wish ≡ true
    → asked_of state (request_for wish) ≡ (Err (state_count state), state)
unwished state (wishes.LogOn account) full = rw full refl
unwished state (wishes.Charge line) full = rw full refl
unwished state (wishes.Post item) full = rw full refl
unwished state (wishes.Remove account number) full = by (has_letter (letters_for state account) number) refl full
  where
    by : (waits : Bool) → has_letter (letters_for state account) number ≡ waits
        → (waits && leb state.limits.records (state_count state)) ≡ true
        → asked_of state (requests.Remove account number) ≡ (Err (state_count state), state)
    by true waits full = rw (waits, full) refl
    by false waits full = absurd cc

-- ---- the record of a wish

-- the record that a node stores for a wish
abbrev pub record_of_wish : Wish → CentreRecord
record_of_wish (wishes.LogOn account) = records.LogOn account
record_of_wish (wishes.Charge line) = records.Kept (items.Charge line)
record_of_wish (wishes.Post item) = records.Kept item
record_of_wish (wishes.Remove account number) = records.Removed account number

-- a full node stores none
unless_full : (full : Bool) (rec : CentreRecord) → cond full None (Some rec) ≡ cond (not full) (Some rec) None
unless_full true rec = refl
unless_full false rec = refl

-- it stores that one if a record is stored for the wish
pub recorded_for : (state : CentreState) (wish : Wish)
    → record_for state (Some (request_for wish)) ≡ cond (is_stored_for (holdings_of state) wish) (Some (record_of_wish wish)) None
recorded_for state (wishes.LogOn account) = unless_full (leb state.limits.records (state_count state)) (records.LogOn account)
recorded_for state (wishes.Charge line) = unless_full (leb state.limits.records (state_count state)) (records.Kept (items.Charge line))
recorded_for state (wishes.Post item) = unless_full (leb state.limits.records (state_count state)) (records.Kept item)
recorded_for state (wishes.Remove account number) = by (has_letter (letters_for state account) number) refl
  where
    by : (waits : Bool) → has_letter (letters_for state account) number ≡ waits
        → record_for state (Some (requests.Remove account number))
        ≡ cond (is_stored_for (holdings_of state) (wishes.Remove account number)) (Some (records.Removed account number)) None
    by true is = rw is (unless_full (leb state.limits.records (state_count state)) (records.Removed account number))
    by false is = rw is refl

-- what is stored is not refused
not_refused : (recorded full : Bool) → (recorded && not full) ≡ true → (recorded && full) ≡ false
not_refused true true is = absurd cc
not_refused true false is = refl
not_refused false full is = refl

-- with that record on its disk, and its reply noted at the port, a node has what the store of the call's wish makes of it
pub stored_comes : (here : Held) (port : ℕ) (wish : Wish) (found : Option Call) → call_among here.ports port ≡ found
    → wish_of found ≡ Some wish → is_stored_for (holdings_of here.node.state) wish ≡ true
    → (node : OnDisk CentreState) → node.state ≡ with_centre_record here.node.state (record_of_wish wish) → CentreIsOnDisk node
    → (ports : List (Option Call)) × Stores here (record { node = node; ports = ports }) port outcomes.Stored
stored_comes here port wish None is owes stores node known on_disk = absurd cc
stored_comes here port wish (Some call) is owes stores node known on_disk =
    let holdings = holdings_of here.node.state in
    let room = not_refused (makes_record holdings wish) (leb holdings.limit holdings.count) stores in
    let done = wished here wish room in
    let rec : record_for here.node.state (Some (request_for wish)) ≡ Some (record_of_wish wish) =
    recorded_for here.node.state wish ∙ ap (λ (test : Bool). cond test (Some (record_of_wish wish)) None) stores in (
      set here.ports port (Some (record call { stored = Some (reply_for (calls_of here) wish) })),
      rw (is, owes, room) (record {
        state = known ∙ sym (ap (centre_with here.node.state) rec) ∙ done.known;
        on_disk = λ was. on_disk;
        ports = refl;
        answer = refl;
      }),
    )

-- ---- the reply

-- a reply is one reply and no count, and a count is one count
one_reply : (one other : IrcReply) (result : Result IrcReply ℕ) → result ≡ Ok one → result ≡ Ok other → one ≡ other
one_reply one other result is also = cc

one_count : (one other : ℕ) (result : Result IrcReply ℕ) → result ≡ Err one → result ≡ Err other → one ≡ other
one_count one other result is also = cc

no_count : (reply : IrcReply) (count : ℕ) (result : Result IrcReply ℕ) → result ≡ Ok reply → result ≡ Err count → ⊥
no_count reply count result is also = let never : Ok reply ≡ Err count = sym is ∙ also in absurd cc

-- The node was asked for the wish of the call at a port, and the ports were then changed.
module _ (old asked : Held) (port : ℕ) (wish : Wish) (result : Result IrcReply ℕ) (ports : List (Option Call)) (outcome : Outcome)
    (owed : wish_at (call_among old.ports port) ≡ Ok wish) (was : Asked old asked (request_for wish) result) where
  abbrev Done : Type 0
  Done = Stores old (record asked { ports = ports }) port outcome

  abbrev owing : Owes (call_among old.ports port) wish
  owing = owes (call_among old.ports port) wish owed

  -- the call is at the port still
  there : call_among asked.ports port ≡ Some owing.call
  there = ap (λ (l : List (Option Call)). call_among l port) was.ports ∙ owing.is

  abbrev refused : Bool
  refused = lacks_room (holdings_of old.node.state) wish

  -- the reply is noted
  pub noted : (reply : IrcReply) (paid : Paid) → result ≡ Ok reply → paid ≡ paid_by reply
      → ((call : Call) → call_among asked.ports port ≡ Some call
      → (ports ≡ set asked.ports port (Some (record call { stored = Some paid }))) × (outcome ≡ outcomes.Stored))
      → Done
  noted reply paid is told notes = by refused refl
    where
      by : (full : Bool) → refused ≡ full → Done
      by true how =
          absurd (no_count reply (state_count old.node.state) result is
          (was.reply ∙ ap (λ (done : Result IrcReply ℕ × CentreState). done.0) (unwished old.node.state wish how)))
      by false how =
          let done = wished old wish how in
          let reply_is : reply ≡ done.reply = one_reply reply done.reply result is (was.reply ∙ done.replied) in
          let paid_is : paid ≡ reply_for (calls_of old) wish = told ∙ ap paid_by reply_is ∙ done.told in
          let note = notes owing.call there in
          rw (owing.is, owing.owes, how) (record {
            state = was.state ∙ done.known;
            on_disk = λ is. was.on_disk;
            ports = note.0 ∙ ap (λ (l : List (Option Call)). set l port (Some (record owing.call { stored = Some paid }))) was.ports
                ∙ ap (λ (reply : Paid). set old.ports port (Some (record owing.call { stored = Some reply }))) paid_is;
            answer = note.1;
          })

  -- the caller is turned away
  pub turned_away : (count : ℕ) → result ≡ Err count
      → ((call : Call) → call_among asked.ports port ≡ Some call
      → (ports ≡ set asked.ports port None) × (outcome ≡ away_answer count (full_turn call.seat call.seat.phase).1))
      → Done
  turned_away count is ends = by refused refl
    where
      by : (full : Bool) → refused ≡ full → Done
      by false how =
          let done = wished old wish how in absurd (no_count done.reply count result (was.reply ∙ done.replied) is)
      by true how =
          let done = unwished old.node.state wish how in
          let count_is : count ≡ state_count old.node.state =
          one_count count (state_count old.node.state) result is
          (was.reply ∙ ap (λ (d : Result IrcReply ℕ × CentreState). d.0) done) in
          let end = ends owing.call there in
          rw (owing.is, owing.owes, how) (record {
            state = was.state ∙ ap (λ (d : Result IrcReply ℕ × CentreState). d.1) done;
            on_disk = λ is. was.on_disk;
            ports = rw was.ports at end.0;
            answer = rw count_is at end.1;
          })

-- ---- a turn at a port

module _ (old new : List (Option Call)) (outcome : Outcome) (port : ℕ) (here : Call) (step : Step)
    (answers : (before : List (Option Call)) (seat : CallState) → set old port (Some here) ≡ set before port (Some (call_of seat))
    → IsDone before new outcome (λ calls. turn_at calls port (seat, step))) where
  -- the turn is done, if the call after it is at the port
  turned : (turn : CallState × Step) → here ≡ call_of turn.0 → step ≡ turn.1 → IsDone old new outcome (λ calls. turn_at calls port turn)
  turned turn call_is step_is =
      subst (λ (s : Step). IsDone old new outcome (λ calls. turn_at calls port (turn.0, s))) step_is
      (answers old turn.0 (ap (λ (call : Call). set old port (Some call)) call_is))

  module _ (call : Call) (at : call_among old port ≡ Some call) where
    -- a key's
    pub presses_at : (key : ℕ) (view : View) (moment : ℕ) (entry : Option Entry) → is_waiting call ≡ false
        → here ≡ record call { seat = (key_turn call.seat key view moment entry).0 } → step ≡ (key_turn call.seat key view moment entry).1
        → IsDone old new outcome (λ calls. press_at calls port key view moment entry (call_in calls port))
    presses_at key view moment entry free here_is step_is =
        let turn = key_turn call.seat key view moment entry in
        let none = none_stored (is_owing call.seat.phase) call.stored free in
        let done = turned turn (here_is ∙ (λ i. record { seat = turn.0; stored = none i })) step_is in
        rw (at, free) done

    -- that of a reply
    pub shows_at : (reply : Paid) → call.stored ≡ Some reply → here ≡ call_of (storing_turn call.seat call.seat.phase reply).0
        → step ≡ (storing_turn call.seat call.seat.phase reply).1
        → IsDone old new outcome (λ calls. show_at calls port (call_in calls port))
    shows_at reply stored here_is step_is =
        let done = turned (storing_turn call.seat call.seat.phase reply) here_is step_is in
        rw (at, stored) done
