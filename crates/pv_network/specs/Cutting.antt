-- A cut: a node is lost within a command that it is to store a record for, and opened again from its disk. The record is there or
-- not. Nothing else of the command is, and its answer goes to nobody.
use Rattle.std.specs.Prelude.{◌≡◌, ℕ, ◌<◌, ◌≤◌, ◌&&◌, not, nat_le, Bool, true, false, Option, Some, None, option_map, replicate, slice_get, if◌then◌else◌}
use Rattle.pv_fields.specs.Reading.{◌>>=◌}
use Rattle.pv_words.specs.Parts.{Exactly}
use Rattle.pv_edits.specs.declared.record.Record.{Record}
use Rattle.pv_edits.specs.declared.wish.EditWish.{EditWish}
use Rattle.pv_editor.specs.Lines.{IsLine}
use Rattle.pv_editor.specs.declared.line.EditLine.{EditLine}
use Rattle.pv_editor.specs.declared.step.EditStep.{EditStep}
use Rattle.pv_editor.specs.declared.step.EditStep.TheVariants as steps
use Rattle.pv_irc.specs.Deciding.{centre_judgement}
use Rattle.pv_irc.specs.History.{CentreState, state_count}
use Rattle.pv_irc.specs.declared.record.CentreRecord.{CentreRecord}
use Rattle.pv_irc.specs.declared.request.IrcRequest.{IrcRequest}
use Rattle.pv_irc.specs.declared.request.IrcRequest.TheVariants.{Apply}
use Rattle.pv_nodes.specs.Cutting.{MayBecome, kept_record}
use Rattle.pv_nodes.specs.declared.cut.Cut.{Cut}
use Rattle.pv_nodes.specs.declared.cut.Cut.TheVariants as cuts
use Rattle.pv_journal.specs.declared.storing.TheConstants.{APPEND_CALLS, GATE_CALLS}
use Rattle.pv_nodes.specs.Nodes.{stored_of}
use Rattle.pv_nodes.specs.OnDisk.{CentreIsOnDisk, centre_with}
use Rattle.pv_packet.specs.declared.packet.Packet.{Packet}
use Rattle.pv_packet.specs.declared.packet.Packet.TheVariants.{Down, Up}
use Rattle.pv_session.specs.declared.step.Wish.{Wish}
use Rattle.pv_udc.specs.EditList.{EditList}
use Rattle.pv_udc.specs.declared.request.UdcRequest.{UdcRequest}
use Rattle.pv_udc.specs.declared.request.UdcRequest.TheVariants.{Edit, TakeUp}
use Rattle.pv_network.specs.declared.arrival.Arrival.{Arrival}
use Rattle.pv_network.specs.declared.arrival.Arrival.TheVariants as arrivals
use Rattle.pv_network.specs.declared.event.NodeName.{NodeName}
use Rattle.pv_network.specs.declared.event.NodeName.TheVariants as nodes
use Rattle.pv_network.specs.declared.event.TheConstants.{PORTS}
use Rattle.pv_network.specs.declared.outcome.Outcome.{Outcome}
use Rattle.pv_network.specs.declared.outcome.Outcome.TheVariants as outcomes
use Rattle.pv_network.specs.declared.storing.Storing.{Storing}
use Rattle.pv_network.specs.declared.storing.Storing.TheVariants as commands
use Rattle.pv_traffic.specs.declared.way.Way.TheVariants as ways
use Rattle.pv_network.specs.Call.{Call, wish_to_store}
use Rattle.pv_network.specs.Calling.{call_at, holdings_at, step_of_store}
use Rattle.pv_network.specs.Calls.{Holdings, makes_record}
use Rattle.pv_network.specs.Centre.{Held}
use Rattle.pv_wishes.specs.Wishes.{request_for}
use Rattle.pv_network.specs.Crashing.{step_of_crash}
use Rattle.pv_network.specs.Editing.{seed_request, step_of_line}
use Rattle.pv_traffic.specs.Link.{packets_on}
use Rattle.pv_network.specs.Traffic.{arrival_on, with_next_at}
use Rattle.pv_network.specs.Verdict.{verdict_of}
use Rattle.pv_network.specs.World.{World, link_at, with_edit}

-- the node that is to store the record
abbrev pub node_of : Storing → NodeName
node_of (commands.Seed name row) = nodes.Udc
node_of (commands.Edit port line) = nodes.Udc
node_of (commands.Store centre port) = nodes.Centre centre
node_of (commands.Deliver centre index) = nodes.Centre centre
node_of (commands.Back centre index) = nodes.Udc

-- ---- the record, at the Update Centre

-- an editor's request: its editor, its number, and what is asked for
abbrev pub request_of_edit : ℕ × ℕ × EditWish → UdcRequest
request_of_edit asked = Edit asked.0 asked.1 asked.2

-- the request of an editor's line, by the step of its seat, if it is one
abbrev pub request_in : EditStep → Option UdcRequest
request_in (steps.Ask editor q wish) = Some (Edit editor q wish)
request_in _ = None

-- the request that takes up a packet's item, if it has one
abbrev pub item_request : ℕ → Packet → Option UdcRequest
item_request c (Up from number item) = Some (TakeUp c number item)
item_request c _ = None

-- the request that takes up the item of an index's packet, if a centre made that packet
abbrev pub item_request_at : World → ℕ → ℕ → Option UdcRequest
item_request_at w c index = slice_get (packets_on ways.Up (link_at w c)) index >>= item_request c

-- what a command asks of the Update Centre, if it asks something; an editor's line is given as what it says
abbrev pub update_request : World → Storing → Option EditLine → Option UdcRequest
update_request w (commands.Seed name row) said = Some (request_of_edit (seed_request w name row))
update_request w (commands.Edit port line) said = request_in (step_of_line w port said).1
update_request w (commands.Back centre index) said = item_request_at w centre index
update_request w _ said = None

-- the record that it stores for that, if it stores one
abbrev pub stored_for : EditList → Option UdcRequest → Option Record
stored_for u request = request >>= λ asked. (verdict_of u asked).stored

-- the world that has the record, if one is stored
abbrev pub recorded_world : World → Option Record → Option World
recorded_world w stored = option_map (λ (edit : Record). with_edit w (Some edit)) stored

-- ---- the record, at a centre

-- what a call is to have stored, if there is a call, and something is to be
abbrev pub wish_of : Option Call → Option Wish
wish_of call = call >>= wish_to_store

-- a record is stored for a wish: one is to be, and there is room for it
abbrev pub is_stored_for : Holdings → Wish → Bool
is_stored_for holdings wish = makes_record holdings wish && not (nat_le holdings.limit holdings.count)

-- the world in which the wish of the call at a port is stored, if a record is stored for it
abbrev pub wished_world : World → ℕ → ℕ → Wish → Option World
wished_world w c port wish = if is_stored_for (holdings_at w c) wish then Some (step_of_store w c port).0 else None

-- the world in which a centre has applied what arrived, if it is taken
abbrev pub taken_world : World → ℕ → Arrival → Option World
taken_world w c arrivals.Taken = Some (with_next_at w c)
taken_world w c _ = None

-- the world in which a centre has applied the record of a packet, if the packet has one and it is taken
abbrev pub applied_world : World → ℕ → Packet → Option World
applied_world w c (Down from number rec) = taken_world w c (arrival_on ways.Down w c number)
applied_world w c _ = None

-- ---- the record, of any command

-- The world with the one record that a command stores, if it stores one. Nothing else of the command happens in it: no editor has a
-- receipt, and nothing is acknowledged. A call for which a charge line is stored has it in hand.
abbrev pub stored_world : World → Storing → Option EditLine → Option World
stored_world w (commands.Seed name row) said = recorded_world w (stored_for w.update (update_request w (commands.Seed name row) said))
stored_world w (commands.Edit port line) said = recorded_world w (stored_for w.update (update_request w (commands.Edit port line) said))
stored_world w (commands.Store centre port) said = wish_of (call_at w centre port) >>= wished_world w centre port
stored_world w (commands.Deliver centre index) said =
    slice_get (packets_on ways.Down (link_at w centre)) index >>= applied_world w centre
stored_world w (commands.Back centre index) said =
    recorded_world w (stored_for w.update (update_request w (commands.Back centre index) said))

-- ---- the stop

-- The record may be on the disk once the gate was written. It may be missing until all disk calls of an append have passed.
abbrev pub MayBeKept : ℕ → Bool → Type 0
MayBeKept calls true = GATE_CALLS ≤ calls
MayBeKept calls false = calls < APPEND_CALLS

-- the node crashes, and has the record or not, if one was to be stored
abbrev pub step_of_stop : World → NodeName → Option World → Bool → World × Outcome
step_of_stop w node None kept = ((step_of_crash w node).0, outcomes.NotStored)
step_of_stop w node (Some stored) true = ((step_of_crash stored node).0, outcomes.Kept)
step_of_stop w node (Some stored) false = ((step_of_crash w node).0, outcomes.Lost)

-- it does so within a command
abbrev pub step_of_cut : World → Storing → Bool → Option EditLine → World × Outcome
step_of_cut w command kept said = step_of_stop w (node_of command) (stored_world w command said) kept

-- what an editor's line says is read from it, and is nothing if it is none of an editor's lines
abbrev pub IsSaid : Storing → Option EditLine → Type 0
IsSaid (commands.Edit port line) said = Exactly (IsLine line) said
IsSaid _ said = Unit {0}

-- ---- what the code does

-- the answer, by what became of the record
abbrev pub cut_answer : Cut → Outcome
cut_answer cuts.NotStored = outcomes.NotStored
cut_answer cuts.Kept = outcomes.Kept
cut_answer cuts.Lost = outcomes.Lost

-- the request that applies a packet's record, if it has one
abbrev pub apply_request : Packet → Option IrcRequest
apply_request (Down from number rec) = Some (Apply number rec)
apply_request _ = None

-- the request that applies the record of an index's packet, if that packet was made for a centre
abbrev pub record_request_at : World → ℕ → ℕ → Option IrcRequest
record_request_at w c index = slice_get (packets_on ways.Down (link_at w c)) index >>= apply_request

-- what a command asks of a centre's node, if it asks something
abbrev pub centre_request : World → Storing → Option IrcRequest
centre_request w (commands.Store centre port) = option_map request_for (wish_of (call_at w centre port))
centre_request w (commands.Deliver centre index) = record_request_at w centre index
centre_request w _ = None

-- the record that a centre's node stores for that, if it stores one
abbrev pub record_for : CentreState → Option IrcRequest → Option CentreRecord
record_for state request =
    request >>= λ asked. stored_of state.limits.records (state_count state) (centre_judgement state asked)

-- its node was opened again, and has the record or not
pub record RestartsNode (old new : Held) (calls : ℕ) (stored : Option CentreRecord) (cut : Cut) : Type 0 where
  pub may : MayBecome calls stored cut
  pub state : new.node.state ≡ centre_with old.node.state (kept_record stored cut)
  pub on_disk : CentreIsOnDisk new.node
  pub ports : new.ports ≡ old.ports

-- a centre's node was opened again, and has the record or not; its calls are over
pub record Restarts (old new : Held) (calls : ℕ) (stored : Option CentreRecord) (cut : Cut) : Type 0 where
  pub may : MayBecome calls stored cut
  pub state : new.node.state ≡ centre_with old.node.state (kept_record stored cut)
  pub on_disk : CentreIsOnDisk new.node
  pub ports : new.ports ≡ replicate PORTS None
