-- Each event at a network is that event at each world that it stands for.
use Rattle.std.proofs.Common.{◌≡◌, ℕ, ◌<◌, ◌≤◌, false, List, length, get_or, set, Option, Some, Result, refl, sym, ap, subst, ◌∙◌, arith}
use Rattle.std.specs.Prelude.{slice_get}
use Rattle.std.proofs.lemmas.List.{set-get_or}
use Rattle.std.proofs.lemmas.Option.{slice_get_within}
use Rattle.pv_outside.specs.declared.limits.Limits.{Limits}
use Rattle.pv_page.specs.Names.{Name}
use Rattle.pv_post.specs.declared.item.Item.{Item}
use Rattle.pv_edits.specs.declared.down.DownRecord.{DownRecord}
use Rattle.pv_edits.specs.Edits.{frame_at, taken_of}
use Rattle.pv_irc.specs.History.{CentreState, state_count}
use Rattle.pv_irc.specs.declared.reply.IrcReply.{IrcReply}
use Rattle.pv_irc.specs.declared.request.IrcRequest.TheVariants.{Apply}
use Rattle.pv_nodes.specs.Below.{records_below}
use Rattle.pv_network.specs.Calls.{Calls}
use Rattle.pv_network.specs.declared.arrival.Arrival.{Arrival}
use Rattle.pv_network.specs.declared.arrival.Arrival.TheVariants as arrivals
use Rattle.pv_traffic.specs.declared.way.Way.{Way}
use Rattle.pv_traffic.specs.declared.way.Way.TheVariants as ways
use Rattle.pv_network.specs.declared.outcome.Outcome.TheVariants.{Reply}
use Rattle.pv_packet.specs.declared.packet.Packet.{Packet}
use Rattle.pv_packet.specs.declared.packet.Packet.TheVariants.{Down, Up}
use Rattle.pv_edits.specs.declared.record.Record.{Record}
use Rattle.pv_edits.specs.declared.wish.EditWish.{EditWish}
use Rattle.pv_edits.specs.Room.{has_room}
use Rattle.pv_udc.specs.EditList.{EditList, all_places}
use Rattle.pv_nodes.specs.OnDisk.{OnDisk, UpdateIsOnDisk, list_with}
use Rattle.pv_editor.specs.Say.{new_seat, turn_of, Says}
use Rattle.pv_editor.specs.declared.line.EditLine.{EditLine}
use Rattle.pv_editor.specs.declared.seat.EditorSeat.{EditorSeat}
use Rattle.pv_editor.specs.declared.step.EditStep.{EditStep}
use Rattle.pv_network.specs.declared.outcome.Outcome.{Outcome}
use Rattle.pv_udc.specs.Requests.{record_of}
use Rattle.pv_udc.specs.declared.request.UdcRequest.TheVariants.{Edit, TakeUp}
use Rattle.pv_editor.specs.Replies.{reply_of}
use Rattle.pv_editor.specs.declared.replies.UdcReplyView.{UdcReplyView}
use Rattle.pv_network.specs.Charging.{IsChargedWorld}
use Rattle.pv_network.specs.Centre.{Centre, CentreStands, Held, Applies, new_centre, arrival_of, arrival_by, with_next, record_count, centre_with_arrival, asked_of, reply_to_arrival, node_state}
use Rattle.pv_traffic.specs.Link.{Link, link_in, is_packets_full, back_way, ack_packet, packets_on, with_packet, with_sent, with_heard}
use Rattle.pv_network.specs.Sound.{IsGenuine, IsSound}
use Rattle.pv_network.specs.Standing.{State, StandsFor, Performs}
use Rattle.pv_network.specs.Editing.{step_of_request, step_of_line, step_of_said, step_of_edit}
use Rattle.pv_network.specs.Traffic.{front_of, received_count, receiver_count, packet_for, next_number_on, sent_answer, step_of_sending, step_of_acknowledging, arrival_on, world_after, step_of_answer, step_of_arrival, with_next_at, with_item_of, step_of_hearing}
use Rattle.pv_network.specs.Verdict.{verdict_of, stored_on}
use Rattle.pv_network.specs.World.{World, seat_at, link_at, centre_at, with_centre, with_edit, page_base}
use Rattle.pv_network.proofs.Soundness.{sound_request, sound_packed, sound_ack, sound_hearing, sound_applied, sound_after_item, there_genuine, taken_is_next}
use Rattle.pv_network.proofs.Arriving.{arrives}
use Rattle.pv_network.proofs.Charged.{charged_same}
use Rattle.pv_network.proofs.Untouched.{next_same}
use Rattle.pv_network.proofs.Standing.{edit_stands, request_stands, seat_replaced, centre_stands, held_there, centre_replaced, link_replaced}

-- an editor's request is judged
pub asks : (s : State) (w : World) → StandsFor s w → (editor q : ℕ) (wish : EditWish) (here : OnDisk EditList) (told : UdcReplyView)
    → here.state ≡ list_with s.update (verdict_of s.update (Edit editor q wish)).stored → UpdateIsOnDisk here
    → told ≡ (verdict_of s.update (Edit editor q wish)).reply
    → StandsFor (record s { update = here.state; disk = here.disk }) (step_of_request w editor q wish).0 ×
    (Reply (reply_of told) ≡ (step_of_request w editor q wish).1)
asks s w stands editor q wish here told is on_disk reply =
    let verdict = verdict_of w.update (Edit editor q wish) in (
      request_stands s w stands here on_disk editor q verdict.stored verdict.reply (rw stands.update at is)
          (sound_request w editor q wish stands.sound),
      ap (λ (v : UdcReplyView). Reply (reply_of v)) (rw stands.update at reply),
    )

-- an editor's line is taken at a seat
pub takes_line : (s : State) (w : World) → StandsFor s w
    → (port : ℕ) (text : List ℕ) (here after : EditorSeat) (step : EditStep) (seats : List EditorSeat)
    → here ≡ get_or s.seats port new_seat → (says : Says here text s.update.records (all_places s.update.records) after step)
    → seats ≡ set s.seats port after
    → StandsFor (record s { seats = seats }) (step_of_line w port says.line).0 × (step ≡ (step_of_line w port says.line).1)
takes_line s w stands port text here after step seats read says made =
    let turn : EditorSeat → EditList → EditorSeat × EditStep = λ seat u. turn_of seat u.records (all_places u.records) says.line in
    let same : turn here s.update ≡ turn (seat_at w port) w.update =
    ap (λ (seat : EditorSeat). turn seat s.update) (read ∙ ap (λ (l : List EditorSeat). get_or l port new_seat) stands.seats)
    ∙ ap (turn (seat_at w port)) stands.update in
    let seat : after ≡ (turn (seat_at w port) w.update).0 = says.seat_is ∙ ap (λ (t : EditorSeat × EditStep). t.0) same in (
      seat_replaced s w stands port seats _ (made ∙ ap (λ (l : List EditorSeat). set l port after) stands.seats
          ∙ ap (set w.seats port) seat),
      says.step_is ∙ ap (λ (t : EditorSeat × EditStep). t.1) same,
    )

-- the step of an editor's line is done
pub does_step : (w : World) (port : ℕ) (said : Option EditLine) (new : State) (outcome : Outcome) (step : EditStep)
    → step ≡ (step_of_line w port said).1
    → StandsFor new (step_of_said (step_of_line w port said).0 port step).0 ×
    (outcome ≡ (step_of_said (step_of_line w port said).0 port step).1)
    → StandsFor new (step_of_edit w port said).0 × (outcome ≡ (step_of_edit w port said).1)
does_step w port said new outcome step is done =
    let next = (step_of_line w port said).0 in
    subst (λ (s : EditStep). StandsFor new (step_of_said next port s).0 × (outcome ≡ (step_of_said next port s).1)) is done

-- ---- packets

-- a genuine acknowledgement is of no more than was received
pub acknowledged_few : (w : World) (c : ℕ) (way : Way) (count : ℕ)
    → IsGenuine w.update.records c (centre_at w c) (ack_packet way c count) → count ≤ received_count way w c
acknowledged_few w c ways.Down count genuine = genuine.1
acknowledged_few w c ways.Up count genuine = genuine.1

module _ (s : State) (w : World) (stands : StandsFor s w) (c : ℕ) where
  -- what is found on the network's link is on the world's, and genuine
  pub found_there : (way : Way) (index : ℕ) (found : Option Packet) → found ≡ slice_get (packets_on way (link_in s.links c)) index
      → slice_get (packets_on way (link_at w c)) index ≡ found
  found_there way index found is = sym (rw stands.links at is)

  pub found_genuine : (way : Way) (index : ℕ) (packet : Packet) → Some packet ≡ slice_get (packets_on way (link_in s.links c)) index
      → IsGenuine w.update.records c (centre_at w c) packet
  found_genuine way index packet is = there_genuine w c stands.sound way index packet (found_there way index (Some packet) is)

  -- a packet is sent
  pub sends : (way : Way) (links : List Link) (front number index : ℕ) (packet : Packet) → is_packets_full s.links ≡ false
      → front ≡ front_of way w c → next_number_on way w c ≡ Some number → packet_for way w c number ≡ Some packet
      → index ≡ length (packets_on way (link_in s.links c)) → links ≡ set s.links c (with_sent way (link_in s.links c) front packet)
      → StandsFor (record s { links = links }) (step_of_sending way w c).0 × (sent_answer way index number ≡ (step_of_sending way w c).1)
  sends way links front number index packet room front-is next found index-is made =
      rw (rw stands.links at room, next, found) (
        link_replaced s w stands c links _ (rw (front-is, stands.links) at made) (sound_packed w c stands.sound way number packet found),
        ap (λ (n : ℕ). sent_answer way n number) (rw stands.links at index-is),
      )

  -- an acknowledgement is made
  pub acknowledges : (way : Way) (links : List Link) (count index : ℕ) → is_packets_full s.links ≡ false → count ≡ received_count way w c
      → index ≡ length (packets_on (back_way way) (link_in s.links c))
      → links ≡ set s.links c (with_packet (back_way way) (link_in s.links c) (ack_packet way c count))
      → StandsFor (record s { links = links }) (step_of_acknowledging way w c).0 × (Some index ≡ (step_of_acknowledging way w c).1)
  acknowledges way links count index room count-is index-is made =
      rw (rw stands.links at room) (
        link_replaced s w stands c links _ (rw (count-is, stands.links) at made) (sound_ack w c stands.sound way),
        ap Some (rw stands.links at index-is),
      )

  -- an acknowledgement is heard
  pub hears : (way : Way) (links : List Link) (front count : ℕ) → front ≡ front_of way w c → count ≤ received_count way w c
      → links ≡ set s.links c (with_heard way (link_in s.links c) front count)
      → StandsFor (record s { links = links }) (step_of_hearing way w c count).0
  hears way links front count front-is few made =
      link_replaced s w stands c links _ (rw (front-is, stands.links) at made) (sound_hearing w c stands.sound way count few)

  -- the world after an item arrived has one record more, if it was taken
  item_stored : (number : ℕ) (item : Item) (how : Arrival)
      → with_edit w (stored_on how (record_of (TakeUp c number item))) ≡ world_after w (with_item_of w c number item) how
  item_stored number item arrivals.Taken = refl
  item_stored number item arrivals.Old = refl
  item_stored number item arrivals.Early = refl
  item_stored number item arrivals.Full = refl

  -- an item arrives
  pub takes_up : (from number : ℕ) (item : Item) (here : OnDisk EditList) (how : Arrival)
      → IsGenuine w.update.records c (centre_at w c) (Up from number item)
      → how ≡ arrival_of (taken_of s.update.records c) (length s.update.records) s.update.limits.records number
      → here.state ≡ list_with s.update (stored_on how (record_of (TakeUp c number item))) → UpdateIsOnDisk here
      → StandsFor (record s { update = here.state; disk = here.disk })
      (world_after w (with_item_of w c number item) (arrival_on ways.Up w c number)) × (how ≡ arrival_on ways.Up w c number)
  takes_up from number item here how genuine how-is stored on_disk =
      let same : how ≡ arrival_on ways.Up w c number = rw stands.update at how-is in
      let rec = record_of (TakeUp c number item) in
      let after = sound_after_item w c stands.sound from number item genuine how (sym same) in
      let sound : IsSound (with_edit w (stored_on how rec)) = subst IsSound (sym (item_stored number item how)) after in
      let done = edit_stands s w stands here on_disk (stored_on how rec) (rw stands.update at stored) sound in (
        subst (λ (a : Arrival). StandsFor (record s { update = here.state; disk = here.disk })
            (world_after w (with_item_of w c number item) a))
            same
            (subst (λ (v : World). StandsFor (record s { update = here.state; disk = here.disk }) v) (item_stored number item how) done),
        same,
      )

  module _ (here : Held) (there : c < length s.centres) (read : here ≡ get_or s.centres c here) where
    -- the centre stands for the world's
    pub stood : CentreStands w.update c here (centre_at w c)
    stood = centre_stands s w stands c here there read

    -- it has applied as many records as the world's, keeps the same items, and has as many records in all
    pub applied_there : here.node.state.applied ≡ (centre_at w c).applied
    applied_there = ap (λ (state : CentreState). state.applied) stood.state

    pub items_there : here.node.state.items ≡ (centre_at w c).calls.items
    items_there = ap (λ (state : CentreState). state.items) stood.state

    pub count_there : state_count here.node.state ≡ record_count (centre_at w c)
    count_there = held_there w.update c here (centre_at w c) stood

    -- a name has the same frame in what came down as in the world's page base
    pub frame_there : ((records : List Record) (name : Name) → frame_at (records_below records) name ≡ frame_at records name)
        → (name : Name) → frame_at here.node.state.edits name ≡ frame_at (page_base w c) name
    frame_there shown name = ap (λ (state : CentreState). frame_at state.edits name) stood.state ∙ shown (page_base w c) name

    -- What came down has the room that the list has. The node was asked to apply what is genuine.
    module _ (room_below : (limits : Limits) (records : List Record) (edit : Record)
        → has_room limits (records_below records) edit ≡ has_room limits records edit)
        (number : ℕ) (rec : DownRecord) (genuine : IsGenuine w.update.records c (centre_at w c) (Down c number rec))
        (new : Held) (result : Arrival) (applies : Applies here new number rec result) where
      -- what the world's centre does with it
      abbrev arrival : Arrival
      arrival = arrival_on ways.Down w c number

      -- what comes of it
      comes : asked_of here.node.state (Apply number rec)
          ≡ (reply_to_arrival arrival (centre_at w c), node_state c w.update (centre_with_arrival arrival (centre_at w c)))
      comes = ap (λ state. asked_of state (Apply number rec)) stood.state
          ∙ arrives room_below c w.update stands.sound.law.run (centre_at w c) stood.within number rec genuine.1

      -- the reply to an arrival is one to it
      by_reply : (how : Arrival) → arrival_by (reply_to_arrival how (centre_at w c)) ≡ how
      by_reply arrivals.Taken = refl
      by_reply arrivals.Old = refl
      by_reply arrivals.Early = refl
      by_reply arrivals.Full = refl

      -- the centre did that
      pub applied_so : result ≡ arrival
      applied_so =
          applies.result_is
          ∙ ap arrival_by (applies.asked.reply ∙ ap (λ (done : Result IrcReply ℕ × CentreState). done.0) comes)
          ∙ by_reply arrival

      -- the centre stands for the world's after that arrival
      pub applied_after : StandsFor (record s { centres = set s.centres c new }) (world_after w (with_next_at w c) arrival)
      applied_after = by arrival refl
        where
          knows : new.node.state ≡ node_state c w.update (centre_with_arrival arrival (centre_at w c))
          knows = applies.asked.state ∙ ap (λ (done : Result IrcReply ℕ × CentreState). done.1) comes

          same_calls : (how : Arrival) → (centre_at w c).calls ≡ (centre_with_arrival how (centre_at w c)).calls
          same_calls arrivals.Taken = refl
          same_calls arrivals.Old = refl
          same_calls arrivals.Early = refl
          same_calls arrivals.Full = refl

          follows : (how : Arrival) → arrival ≡ how → (centre_with_arrival how (centre_at w c)).applied ≤ length w.update.records
              → CentreStands w.update c new (centre_with_arrival how (centre_at w c))
          follows how is within = record {
            within = within;
            state = knows ∙ ap (λ (a : Arrival). node_state c w.update (centre_with_arrival a (centre_at w c))) is;
            on_disk = applies.asked.on_disk;
            ports = applies.asked.ports ∙ stood.ports ∙ ap (λ (calls : Calls). calls.ports) (same_calls how);
          }

          -- a centre that stands for the one that the world has
          stays : CentreStands w.update c new (centre_at w c) → StandsFor (record s { centres = set s.centres c new }) w
          stays is =
              let same : with_centre w c (centre_at w c) ≡ w =
              ap (λ (centres : List Centre). record w { centres = centres }) (set-get_or w.centres c new_centre) in
              subst (λ (v : World). StandsFor (record s { centres = set s.centres c new }) v) same
              (centre_replaced s w stands c new (centre_at w c) w.shown w.stopped is (subst IsSound (sym same) stands.sound)
              (subst IsChargedWorld (sym same) stands.charged))

          by : (how : Arrival) → arrival ≡ how
              → StandsFor (record s { centres = set s.centres c new }) (world_after w (with_next_at w c) how)
          by arrivals.Taken is =
              let next = taken_is_next (received_count ways.Down w c) (receiver_count ways.Down w c) w.update.limits.records number is in
              let sound = sound_applied w c stands.sound number genuine.1.edit genuine.1.there next in
              let within = slice_get_within w.update.records number genuine.1.edit genuine.1.there in
              centre_replaced s w stands c new (with_next (centre_at w c)) w.shown w.stopped
              (follows arrivals.Taken is (omega (arith, within, next))) sound
              (charged_same w (with_next_at w c) (λ k. next_same k w c) stands.charged)
          by arrivals.Old is = stays (follows arrivals.Old is stood.within)
          by arrivals.Early is = stays (follows arrivals.Early is stood.within)
          by arrivals.Full is = stays (follows arrivals.Full is stood.within)

-- what was done with what arrived, and then the answer, is the world's step
pub answered : (way : Way) (w taken : World) (c number : ℕ) (how : Arrival) (now new : State) (outcome : Outcome)
    → StandsFor now (world_after w taken (arrival_on way w c number)) × (how ≡ arrival_on way w c number)
    → Performs now new outcome (λ v. step_of_answer way v c number how)
    → StandsFor new (step_of_arrival way w taken c number).0 × (outcome ≡ (step_of_arrival way w taken c number).1)
answered way w taken c number how now new outcome stands answers =
    let after = world_after w taken (arrival_on way w c number) in
    subst (λ (a : Arrival). StandsFor new (step_of_answer way after c number a).0 × (outcome ≡ (step_of_answer way after c number a).1))
    stands.1 (answers after stands.0)
