-- A retrieval centre: what it has applied of the edit list, and what it does with a record that arrives.
use Rattle.std.specs.Prelude.{◌≡◌, ℕ, ◌+◌, ◌≤◌, ◌==◌, nat_lt, nat_le, if◌then◌else◌, List, length, map, take, Option, Some, Result, Ok, Err, slice_get, slice_index_or}
use Rattle.pv_outside.specs.declared.limits.Limits.{Limits}
use Rattle.pv_edits.specs.Sight.{sight_of}
use Rattle.pv_edits.specs.declared.down.DownRecord.{DownRecord}
use Rattle.pv_edits.specs.declared.record.Record.{Record}
use Rattle.pv_irc.specs.Deciding.{centre_judgement}
use Rattle.pv_irc.specs.History.{CentreState, state_count, whole_places, letters_for}
use Rattle.pv_irc.specs.declared.reply.IrcReply.{IrcReply}
use Rattle.pv_irc.specs.declared.reply.IrcReply.TheVariants as replies
use Rattle.pv_irc.specs.declared.request.IrcRequest.{IrcRequest}
use Rattle.pv_irc.specs.declared.request.IrcRequest.TheVariants as requests
use Rattle.pv_node.specs.declared.decision.Told.{Told}
use Rattle.pv_nodes.specs.Below.{records_below}
use Rattle.pv_nodes.specs.Nodes.{told_of, stored_of}
use Rattle.pv_nodes.specs.OnDisk.{OnDisk, CentreIsOnDisk, centre_with}
use Rattle.pv_session.specs.declared.entry.Entry.{Entry}
use Rattle.pv_udc.specs.EditList.{EditList, empty_list}
use Rattle.pv_udc.specs.Replies.{down_of}
use Rattle.pv_network.specs.declared.arrival.Arrival.{Arrival}
use Rattle.pv_network.specs.declared.arrival.Arrival.TheVariants.{Taken, Old, Early, Full}
use Rattle.pv_network.specs.declared.outcome.Outcome.{Outcome}
use Rattle.pv_network.specs.Call.{Call}
use Rattle.pv_network.specs.Calls.{Calls, Holdings, no_calls, given_account, call_in, press_at, IsPortEntry}

-- a centre: how many records it has applied, and its calls
pub record Centre : Type 0 where
  pub applied : ℕ
  pub calls : Calls

-- a centre that nothing has reached
abbrev pub new_centre : Centre
new_centre = record { applied = 0; calls = no_calls }

-- a centre with the next record applied
abbrev pub with_next : Centre → Centre
with_next centre = record centre { applied = centre.applied + 1 }

-- how many records a centre has: those that it has applied, its items, its log-ons, and its removals
abbrev pub record_count : Centre → ℕ
record_count centre = centre.applied + length centre.calls.items + centre.calls.log_ons + length centre.calls.removals

-- What a node does with what arrives goes by its number: the one that comes next is taken, unless the node has as many records as
-- it may.
abbrev pub arrival_of : ℕ → ℕ → ℕ → ℕ → Arrival
arrival_of received count limit number = if number == received then (if nat_le limit count then Full else Taken)
    else (if nat_lt number received then Old else Early)

-- what a centre did with a record, by its node's reply: there is room for each record of the list, so that no other reply comes
abbrev pub arrival_in : IrcReply → Arrival
arrival_in replies.Applied = Taken
arrival_in (replies.Old count) = Old
arrival_in _ = Early

abbrev pub arrival_by : Result IrcReply ℕ → Arrival
arrival_by (Ok reply) = arrival_in reply
arrival_by (Err count) = Full

-- a centre after an arrival
abbrev pub centre_with_arrival : Arrival → Centre → Centre
centre_with_arrival Taken centre = with_next centre
centre_with_arrival _ centre = centre

-- ---- what the code shows of a centre

-- its node, and the call at each port
pub record Held : Type 0 where
  pub node : OnDisk CentreState
  pub ports : List (Option Call)

-- its calls: its node has counted the log-ons, and keeps the items and the removals
abbrev pub calls_of : Held → Calls
calls_of here = record {
  log_ons = here.node.state.log_ons;
  items = here.node.state.items;
  removals = here.node.state.removals;
  ports = here.ports;
}

-- what its node stores a wish by
abbrev pub holdings_of : CentreState → Holdings
holdings_of state = record {
  limit = state.limits.records;
  count = state_count state;
  applied = state.applied;
  letters = letters_for state;
}

-- the reply, or the count of a full node's records
abbrev pub reply_in : Result (Told IrcReply) ℕ → Result IrcReply ℕ
reply_in (Ok told) = Ok told.reply
reply_in (Err count) = Err count

-- what comes of a request: what the node is asked, and what it knows afterwards
abbrev pub asked_of : CentreState → IrcRequest → Result IrcReply ℕ × CentreState
asked_of state request = (
  reply_in (told_of state.limits.records (state_count state) (centre_judgement state request)),
  centre_with state (stored_of state.limits.records (state_count state) (centre_judgement state request)),
)

-- the node was asked this, and the calls are as they were
pub record Asked (old new : Held) (request : IrcRequest) (result : Result IrcReply ℕ) : Type 0 where
  pub reply : result ≡ (asked_of old.node.state request).0
  pub state : new.node.state ≡ (asked_of old.node.state request).1
  pub on_disk : CentreIsOnDisk new.node
  pub ports : new.ports ≡ old.ports

-- the node was asked to apply this, and the result is what it did
pub record Applies (old new : Held) (number : ℕ) (rec : DownRecord) (result : Arrival) : Type 0 where
  pub reply : Result IrcReply ℕ
  pub asked : Asked old new (requests.Apply number rec) reply
  pub result_is : result ≡ arrival_by reply

-- the reply to a record that arrives
abbrev pub reply_to_arrival : Arrival → Centre → Result IrcReply ℕ
reply_to_arrival Taken centre = Ok replies.Applied
reply_to_arrival Old centre = Ok (replies.Old centre.applied)
reply_to_arrival Early centre = Ok (replies.Early centre.applied)
reply_to_arrival Full centre = Err (record_count centre)

-- ---- what it stands for

-- What the node of a centre knows: what comes down of the prefix of the edit list that the centre has applied, with the places
-- there, its items, the count of its log-ons, and its removals.
abbrev pub state_of_prefix : ℕ → Limits → Centre → List Record → CentreState
state_of_prefix number limits centre prefix = record {
  centre = number;
  limits = limits;
  applied = centre.applied;
  edits = records_below prefix;
  places = whole_places 0 (map down_of prefix);
  items = centre.calls.items;
  log_ons = centre.calls.log_ons;
  removals = centre.calls.removals;
}

abbrev pub node_state : ℕ → EditList → Centre → CentreState
node_state number u centre = state_of_prefix number u.limits centre (take centre.applied u.records)

-- the centre of this number: its node knows what it has applied, each image of its disk spells that, and its calls are these
pub record CentreStands (u : EditList) (number : ℕ) (here : Held) (centre : Centre) : Type 0 where
  pub within : centre.applied ≤ length u.records
  pub state : here.node.state ≡ node_state number u centre
  pub on_disk : CentreIsOnDisk here.node
  pub ports : here.ports ≡ centre.calls.ports

-- the centres stand for the world's, each under its number
pub record CentresStand (u : EditList) (here : List Held) (centres : List Centre) : Type 0 where
  pub count : length here ≡ length centres
  pub each : (c : ℕ) (held : Held) → slice_get here c ≡ Some held → CentreStands u c held (slice_index_or centres c new_centre)

-- this many centres that nothing has reached, each under its number
pub record AreNew (limits : Limits) (count : ℕ) (here : List Held) : Type 0 where
  pub count_is : length here ≡ count
  pub each : (c : ℕ) (held : Held) → slice_get here c ≡ Some held → CentreStands (empty_list limits) c held new_centre

-- ---- what comes of a call at it

-- what is done with its calls, and the answer: its node has what is stored for them, and knows else what it knew
pub record Comes (old new : Held) (outcome : Outcome) (done : Calls × Outcome) : Type 0 where
  pub state : new.node.state
      ≡ record old.node.state { items = done.0.items; log_ons = done.0.log_ons; removals = done.0.removals }
  pub on_disk : CentreIsOnDisk old.node → CentreIsOnDisk new.node
  pub ports : new.ports ≡ done.0.ports
  pub answer : outcome ≡ done.1

-- what a centre makes of a key at a port at a moment
pub record Pressed (old new : Held) (port key moment : ℕ) (outcome : Outcome) : Type 0 where
  pub entry : Option Entry
  pub says : IsPortEntry (call_in (calls_of old) port) key entry
  pub comes : Comes old new outcome
      (press_at (calls_of old) port key
      (sight_of old.node.state.edits (letters_for old.node.state) old.node.state.centre
      (given_account (call_in (calls_of old) port))) moment entry
      (call_in (calls_of old) port))
