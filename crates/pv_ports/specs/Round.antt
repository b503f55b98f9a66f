-- A round of a carrier: what goes down and up between the Update Centre and a centre, and what comes of it.
use Rattle.std.specs.Prelude.{◌≡◌, ◌⊎◌, ℕ, ◌+◌, Bool, true, false, List, length, take, Option, Some, None, IfOk, IfSome, unwrap_or, option_map, Result, Ok, Err, MatchResult, if◌then◌else◌}
use Rattle.pv_outside.specs.declared.failed.Failed.{Failed}
use Rattle.pv_outside.specs.declared.limits.Limits.{Limits}
use Rattle.pv_outside.specs.declared.link.Link as links
use Rattle.pv_outside.specs.Counts.{CountsFaults, one_more, successes_after}
use Rattle.pv_outside.specs.Link.{GainsPacket, HandsOut, handed_after}
use Rattle.pv_node.specs.declared.rules.Rules as rules
use Rattle.pv_node.specs.declared.decision.Told.{Told}
use Rattle.pv_edits.specs.declared.down.DownRecord.{DownRecord}
use Rattle.pv_edits.specs.declared.record.Record.{Record}
use Rattle.pv_post.specs.declared.item.Item.{Item}
use Rattle.pv_irc.specs.History.{CentreState}
use Rattle.pv_irc.specs.declared.record.CentreRecord.{CentreRecord}
use Rattle.pv_irc.specs.declared.reply.IrcReply.{IrcReply}
use Rattle.pv_irc.specs.declared.reply.IrcReply.TheVariants as centre_replies
use Rattle.pv_irc.specs.declared.request.IrcRequest.{IrcRequest}
use Rattle.pv_irc.specs.declared.request.IrcRequest.TheVariants.{Apply}
use Rattle.pv_link.specs.Sending.{SendingEnd, number_to_give, end_after, end_that_heard}
use Rattle.pv_live.specs.Asking.{HasAsked, HasFailed}
use Rattle.pv_live.specs.Entries.{with_opening}
use Rattle.pv_live.specs.Pass.{Standing}
use Rattle.pv_live.specs.Run.{IsStateOf}
use Rattle.pv_live.specs.declared.fault.LiveFault.{LiveFault}
use Rattle.pv_live.specs.declared.fault.LiveFault.TheVariants as faults
use Rattle.pv_packet.specs.Packet.{IsPacket, packet_bytes, centre_of}
use Rattle.pv_packet.specs.declared.packet.Packet.{Packet}
use Rattle.pv_packet.specs.declared.packet.Packet.TheVariants.{Down, Up, DownHeard, UpHeard}
use Rattle.pv_udc.specs.EditList.{EditList}
use Rattle.pv_udc.specs.declared.reply.UdcReply.{UdcReply}
use Rattle.pv_udc.specs.declared.reply.UdcReply.TheVariants as udc_replies
use Rattle.pv_udc.specs.declared.request.UdcRequest.{UdcRequest}
use Rattle.pv_udc.specs.declared.request.UdcRequest.TheVariants.{TakeUp}
use Rattle.pv_ports.specs.Session.{AskFault}
use Rattle.pv_ports.specs.Talk.{PassLooks, PassAsks}
use Rattle.pv_ports.specs.Parcels.{down_packet, up_packet}
use Rattle.pv_ports.specs.declared.round_end.RoundEnd.{RoundEnd}
use Rattle.pv_ports.specs.declared.round_end.RoundEnd.TheVariants as stops
use Rattle.pv_ports.specs.declared.trip.Trip.{Trip}

-- why a round stopped, whatever the failure of a disk is
abbrev pub Stop : Type 0
Stop = RoundEnd (Unit {0}) (Unit {0})

abbrev pub round_stop : {D F : Type 0} → RoundEnd D F → Stop
round_stop (stops.Moved records items) = stops.Moved records items
round_stop stops.Idle = stops.Idle
round_stop stops.LinkFault = stops.LinkFault
round_stop (stops.DiskFault failure) = stops.DiskFault tt
round_stop (stops.Full node count) = stops.Full node count
round_stop (stops.Memory stored) = stops.Memory stored

-- an ask of this node has no answer, and the round stops so
abbrev pub ask_stop : {D F : Type 0} → ℕ → LiveFault D F → Stop
ask_stop node (faults.Memory stored) = stops.Memory stored
ask_stop node (faults.Disk failure) = stops.DiskFault tt
ask_stop node (faults.Full count) = stops.Full node count

-- the number of a centre's node: the Update Centre's is 0
abbrev pub centre_node : ℕ → ℕ
centre_node centre = centre + 1

-- what a carrier keeps from round to round: its passes and its sending ends
pub record CarrierState : Type 0 where
  pub udc : Standing Record
  pub centre : Standing CentreRecord
  pub sending : SendingEnd
  pub posting : SendingEnd

-- what a round works on: the two passes, what it keeps while it goes, and the two links
pub record Round (L : Type 0) : Type 0 where
  pub udc : Standing Record
  pub centre : Standing CentreRecord
  pub trip : Trip
  pub down : L
  pub up : L

-- these parts of it
abbrev pub round_at : {L : Type 0} → Standing Record → Standing CentreRecord → Trip → L → L → Round L
round_at udc centre trip down up = record { udc = udc; centre = centre; trip = trip; down = down; up = up }

-- whether a packet came, or why the round stops
abbrev pub came_in : {D F : Type 0} → Result Bool (RoundEnd D F) → Result Bool Stop
came_in (Ok came) = Ok came
came_in (Err end) = Err (round_stop end)

-- ---- links

module _ {L : Type 0} (k : links.Ghosts L) where
  -- a packet was given to a link, or that failed
  pub record Gave (packet : List ℕ) (old new : L) (result : Result (Unit {0}) Failed) : Type 0 where
    pub account : CountsFaults (k.faults old) (k.faults new) result
    pub given : k.given new ≡ successes_after result (k.given old)
    pub taken : k.taken new ≡ k.taken old
    pub packets : GainsPacket packet result (k.packets old) (k.packets new)
    pub only : (held : List ℕ) → k.may_hold new held → k.may_hold old held ⊎ (held ≡ packet)

  -- a packet was taken from a link into these bytes, or there was none, or that failed
  pub record Took (into : List ℕ) (old new : L) (result : Result (Option ℕ) Failed) : Type 0 where
    pub account : CountsFaults (k.faults old) (k.faults new) result
    pub given : k.given new ≡ k.given old
    pub taken : k.taken new ≡ handed_after result (k.taken old)
    pub packets : HandsOut into result (k.packets old) (k.packets new)
    pub held : IfOk result (λ length. IfSome length (λ n. k.may_hold old (take n into)))
    pub only : (held : List ℕ) → k.may_hold new held → k.may_hold old held

  -- a packet or none is given to a link
  abbrev pub GivesTo : Option Packet → L → Trip → L → Trip → Option Stop → Type 0
  GivesTo None link trip link2 trip2 stop = (link2 ≡ link) × (trip2 ≡ trip) × (stop ≡ None)
  GivesTo (Some packet) link trip link2 trip2 stop =
      IsPacket packet × (result : Result (Unit {0}) Failed) × Gave (packet_bytes packet) link link2 result
      × MatchResult result (λ _. (trip2 ≡ record trip { moved = true }) × (stop ≡ None))
      (λ _. (trip2 ≡ trip) × (stop ≡ Some stops.LinkFault))

-- the packet of this centre that the bytes spell, if they spell one
abbrev pub IsReadAs : ℕ → List ℕ → Option Packet → Type 0
IsReadAs C bytes (Some packet) = IsPacket packet × (bytes ≡ packet_bytes packet) × (centre_of packet ≡ C)
IsReadAs C bytes None = (packet : Packet) → IsPacket packet → bytes ≡ packet_bytes packet → centre_of packet ≡ C → ⊥

-- ---- what is acknowledged, and what is counted

-- how many records a centre has applied, by its reply to the record of a number; one without room is not acknowledged
abbrev pub applied_by : ℕ → IrcReply → Option ℕ
applied_by n centre_replies.Applied = Some (one_more n)
applied_by n (centre_replies.Old count) = Some count
applied_by n (centre_replies.Early count) = Some count
applied_by n _ = None

-- how many items the Update Centre has taken up, by its reply to the item of a number
abbrev pub taken_by : ℕ → UdcReply → Option ℕ
taken_by k (udc_replies.Stored place) = Some (one_more k)
taken_by k (udc_replies.Old count) = Some count
taken_by k (udc_replies.Early count) = Some count
taken_by k _ = None

-- how many records are applied by this reply
abbrev pub records_in_reply : IrcReply → ℕ
records_in_reply centre_replies.Applied = 1
records_in_reply _ = 0

-- how many items are taken up by this reply
abbrev pub items_in_reply : UdcReply → ℕ
items_in_reply (udc_replies.Stored place) = 1
items_in_reply _ = 0

-- with the records counted that are applied by the reply
abbrev pub trip_after_record : IrcReply → Trip → Trip
trip_after_record reply trip = record trip { applied = trip.applied + records_in_reply reply }

-- with the items counted that are taken up by the reply
abbrev pub trip_after_item : UdcReply → Trip → Trip
trip_after_item reply trip = record trip { taken_up = trip.taken_up + items_in_reply reply }

-- a take that handed a packet out has moved something
abbrev pub trip_after_take : Result (Option ℕ) Failed → Trip → Trip
trip_after_take (Ok (Some n)) trip = record trip { moved = true }
trip_after_take (Ok None) trip = trip
trip_after_take (Err fault) trip = trip

-- how a round ends that did not stop
abbrev pub end_of_trip : Trip → Stop
end_of_trip trip = if trip.moved then stops.Moved trip.applied trip.taken_up else stops.Idle

-- whether a packet came, if the round did not stop at it
abbrev pub came_by : Option Stop → Result Bool Stop
came_by None = Ok true
came_by (Some why) = Err why

-- why the round stops, if it does
abbrev pub stop_in : Result Bool Stop → Option Stop
stop_in (Ok came) = None
stop_in (Err why) = Some why

-- one stage, and then another, unless the round stops at the first
abbrev pub InTurn : {L : Type 0} → (Round L → Round L → Option Stop → Type 0) → (Round L → Round L → Option Stop → Type 0)
    → Round L → Round L → Option Stop → Type 0
InTurn First Second old new stop =
    ((why : Stop) × First old new (Some why) × (stop ≡ Some why)) ⊎ ((mid : Round _) × First old mid None × Second mid new stop)

-- ---- the looks

module _ {SU : Type 0} (u : rules.Ghosts SU EditList UdcRequest Record UdcReply) (limits : Limits) (opening : List Record) (C : ℕ) where
  -- the Update Centre is looked at: how many records it has, and the one that goes down next
  pub record LooksDown (pass : Standing Record) (end : SendingEnd) (new : Standing Record) (after : SendingEnd) (count : ℕ)
      (going : Option Packet) : Type 0 where
    pub state : EditList
    pub stands : IsStateOf u limits state (with_opening opening new.seen)
    pub looks : PassLooks pass new
    pub count_is : count ≡ length state.records
    pub end_is : after ≡ end_after end count
    pub going_is : going ≡ down_packet C state.records (number_to_give end count)

  -- the Update Centre is asked to take an item up
  pub record TakesItemUp (number : ℕ) (item : Item) (old new : Standing Record) (result : Result (Told UdcReply) AskFault) : Type 0 where
    pub asks : PassAsks old new
    pub comes : MatchResult result
        (λ told. HasAsked u limits opening (TakeUp C number item) old new told × (new.failed ≡ old.failed))
        (λ fault. HasFailed u limits opening (TakeUp C number item) old new fault)

module _ {SC : Type 0} (c : rules.Ghosts SC CentreState IrcRequest CentreRecord IrcReply) (limits : Limits) (opening : List CentreRecord)
    (C : ℕ) where
  -- the centre is looked at: how many items it has, and the one that goes up next
  pub record LooksUp (pass : Standing CentreRecord) (end : SendingEnd) (new : Standing CentreRecord) (after : SendingEnd) (count : ℕ)
      (going : Option Packet) : Type 0 where
    pub state : CentreState
    pub stands : IsStateOf c limits state (with_opening opening new.seen)
    pub looks : PassLooks pass new
    pub count_is : count ≡ length state.items
    pub end_is : after ≡ end_after end count
    pub going_is : going ≡ up_packet C state.items (number_to_give end count)

  -- the centre is asked to apply a record
  pub record AppliesRecord (n : ℕ) (rec : DownRecord) (old new : Standing CentreRecord) (result : Result (Told IrcReply) AskFault) : Type
      0 where
    pub asks : PassAsks old new
    pub comes : MatchResult result (λ told. HasAsked c limits opening (Apply n rec) old new told × (new.failed ≡ old.failed))
        (λ fault. HasFailed c limits opening (Apply n rec) old new fault)

-- ---- the stages

-- if another packet may come, it is received; and else nothing is done
abbrev pub ReceivesNext : {L : Type 0} → (Round L → Round L → Result Bool Stop → Type 0) → Result Bool Stop → Round L → Round L
    → Option Stop → Type 0
ReceivesNext Receives (Ok true) old new stop = (second : Result Bool Stop) × Receives old new second × (stop ≡ stop_in second)
ReceivesNext Receives (Ok false) old new stop = (new ≡ old) × (stop ≡ None)
ReceivesNext Receives (Err why) old new stop = (new ≡ old) × (stop ≡ Some why)

-- packets are received, until there were two or there is none
abbrev pub UpToTwo : {L : Type 0} → (Round L → Round L → Result Bool Stop → Type 0) → Round L → Round L → Option Stop → Type 0
UpToTwo Receives old new stop =
    (mid : Round _) × (came : Result Bool Stop) × Receives old mid came × ReceivesNext Receives came mid new stop

module _ {L : Type 0} (k : links.Ghosts L) where
  -- a packet or none goes down
  abbrev pub GivesDown : Option Packet → Round L → Round L → Option Stop → Type 0
  GivesDown packet old new stop =
      GivesTo k packet old.down old.trip new.down new.trip stop × (new ≡ record old { down = new.down; trip = new.trip })

  -- a packet or none goes up
  abbrev pub GivesUp : Option Packet → Round L → Round L → Option Stop → Type 0
  GivesUp packet old new stop =
      GivesTo k packet old.up old.trip new.up new.trip stop × (new ≡ record old { up = new.up; trip = new.trip })

  -- what came of a take is handled in this way: whether a packet came, if the round goes on
  abbrev pub HandlesTaken : ℕ → (Option Packet → Round L → Round L → Option Stop → Type 0) → List ℕ → Result (Option ℕ) Failed
      → Round L → Round L → Result Bool Stop → Type 0
  HandlesTaken C Handles into (Ok (Some n)) old new came =
      (packet : Option Packet) × (stop : Option Stop) × IsReadAs C (take n into) packet × Handles packet old new stop × (came ≡ came_by
      stop)
  HandlesTaken C Handles into (Ok None) old new came = (new ≡ old) × (came ≡ Ok false)
  HandlesTaken C Handles into (Err fault) old new came = (new ≡ old) × (came ≡ Err stops.LinkFault)

module _ {S L : Type 0} (c : rules.Ghosts S CentreState IrcRequest CentreRecord IrcReply) (k : links.Ghosts L) (limits : Limits)
    (opening : List CentreRecord) (C : ℕ) where
  -- the centre has answered, and what it has is acknowledged; or the round stops
  abbrev pub AnswersRecord : ℕ → Result (Told IrcReply) AskFault → Round L → Round L → Option Stop → Type 0
  AnswersRecord n (Ok told) old new stop =
      GivesUp k (option_map (DownHeard C) (applied_by n told.reply)) (record old { trip = trip_after_record told.reply old.trip }) new stop
  AnswersRecord n (Err fault) old new stop = (new ≡ old) × (stop ≡ Some (ask_stop (centre_node C) fault))

  -- A packet that came down is handled: a record is applied, an acknowledgement is heard, and all else is dropped.
  abbrev pub HandlesDown : Option Packet → Round L → Round L → Option Stop → Type 0
  HandlesDown (Some (Down centre n rec)) old new stop =
      (pass : Standing CentreRecord) × (result : Result (Told IrcReply) AskFault)
      × AppliesRecord c limits opening C n rec old.centre pass result × AnswersRecord n result (record old { centre = pass }) new stop
  HandlesDown (Some (UpHeard centre count)) old new stop =
      (new ≡ record old { trip = record old.trip { posting = end_that_heard old.trip.posting count old.trip.item_count } }) × (stop ≡ None)
  HandlesDown _ old new stop = (new ≡ old) × (stop ≡ None)

  -- a packet is taken from the link down, and handled
  abbrev pub ReceivesDown : Round L → Round L → Result Bool Stop → Type 0
  ReceivesDown old new came =
      (link : L) × (into : List ℕ) × (result : Result (Option ℕ) Failed) × Took k into old.down link result
      × HandlesTaken k C HandlesDown into result (record old { down = link; trip = trip_after_take result old.trip }) new came

module _ {S L : Type 0} (u : rules.Ghosts S EditList UdcRequest Record UdcReply) (k : links.Ghosts L) (limits : Limits)
    (opening : List Record) (C : ℕ) where
  -- the Update Centre has answered, and what it has is acknowledged; or the round stops
  abbrev pub AnswersItem : ℕ → Result (Told UdcReply) AskFault → Round L → Round L → Option Stop → Type 0
  AnswersItem number (Ok told) old new stop =
      GivesDown k (option_map (UpHeard C) (taken_by number told.reply)) (record old { trip = trip_after_item told.reply old.trip }) new stop
  AnswersItem number (Err fault) old new stop = (new ≡ old) × (stop ≡ Some (ask_stop 0 fault))

  -- A packet that came up is handled: an item is taken up, an acknowledgement is heard, and all else is dropped.
  abbrev pub HandlesUp : Option Packet → Round L → Round L → Option Stop → Type 0
  HandlesUp (Some (Up centre number item)) old new stop =
      (pass : Standing Record) × (result : Result (Told UdcReply) AskFault)
      × TakesItemUp u limits opening C number item old.udc pass result × AnswersItem number result (record old { udc = pass }) new stop
  HandlesUp (Some (DownHeard centre count)) old new stop =
      (new ≡ record old { trip = record old.trip { sending = end_that_heard old.trip.sending count old.trip.record_count } }) × (stop ≡
      None)
  HandlesUp _ old new stop = (new ≡ old) × (stop ≡ None)

  -- a packet is taken from the link up, and handled
  abbrev pub ReceivesUp : Round L → Round L → Result Bool Stop → Type 0
  ReceivesUp old new came =
      (link : L) × (into : List ℕ) × (result : Result (Option ℕ) Failed) × Took k into old.up link result
      × HandlesTaken k C HandlesUp into result (record old { up = link; trip = trip_after_take result old.trip }) new came

module _ {SU SC L : Type 0} (u : rules.Ghosts SU EditList UdcRequest Record UdcReply)
    (c : rules.Ghosts SC CentreState IrcRequest CentreRecord IrcReply) (k : links.Ghosts L) (udc_limits centre_limits : Limits)
    (udc_opening : List Record) (centre_opening : List CentreRecord) (C : ℕ) where
  -- all that has come is received: first what came down, and then what came up
  abbrev pub Receives : Round L → Round L → Option Stop → Type 0
  Receives = InTurn (UpToTwo (ReceivesDown c k centre_limits centre_opening C)) (UpToTwo (ReceivesUp u k udc_limits udc_opening C))

  -- and before that this goes up
  abbrev pub CarriesUp : Option Packet → Round L → Round L → Option Stop → Type 0
  CarriesUp going = InTurn (GivesUp k going) Receives

  -- what a round does after its looks, with what goes down and up
  abbrev pub Carries : Option Packet → Option Packet → Round L → Round L → Option Stop → Type 0
  Carries going_down going_up = InTurn (GivesDown k going_down) (CarriesUp going_up)

  -- A whole round: both nodes are looked at, and what the sending ends give next is given to the links; then what has come is taken and
  -- handled, up to two packets on each way. The round ends as it stopped; or as `first` became `last`.
  pub record IsRound (old : CarrierState) (old_down old_up : L) (new : CarrierState) (new_down new_up : L) (end : Stop) : Type 0 where
    pub first : Round L
    pub last : Round L
    pub going_down : Option Packet
    pub going_up : Option Packet
    pub looks_down :
        LooksDown u udc_limits udc_opening C old.udc old.sending first.udc first.trip.sending first.trip.record_count going_down
    pub looks_up :
        LooksUp c centre_limits centre_opening C old.centre old.posting first.centre first.trip.posting first.trip.item_count going_up
    pub begins : (first.trip.moved ≡ false) × (first.trip.applied ≡ 0) × (first.trip.taken_up ≡ 0)
    pub old_links : (first.down ≡ old_down) × (first.up ≡ old_up)
    pub stop : Option Stop
    pub carries : Carries going_down going_up first last stop
    pub state : new ≡ record { udc = last.udc; centre = last.centre; sending = last.trip.sending; posting = last.trip.posting }
    pub new_links : (new_down ≡ last.down) × (new_up ≡ last.up)
    pub ends : end ≡ unwrap_or stop (end_of_trip last.trip)
