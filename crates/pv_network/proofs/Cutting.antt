-- A node that is lost within a command at a network is so in each world that the network stands for.
use Rattle.std.proofs.Common.{◌≡◌, ℕ, ◌<◌, Bool, true, false, cond, ltb, List, length, get_or, set, Option, Some, None, refl, sym, ap, subst, ◌∙◌, arith}
use Rattle.std.specs.Prelude.{option_map, replicate, map, slice_get}
use Rattle.std.proofs.lemmas.Bool.Decides.{nat_tests}
use Rattle.std.proofs.lemmas.List.{length-set, get_or-set_same}
use Rattle.pv_outside.specs.declared.limits.Limits.{Limits}
use Rattle.pv_edits.specs.Room.{has_room}
use Rattle.pv_edits.specs.declared.down.DownRecord.{DownRecord}
use Rattle.pv_edits.specs.declared.record.Record.{Record}
use Rattle.pv_editor.specs.Say.{new_seat}
use Rattle.pv_editor.specs.declared.line.EditLine.{EditLine}
use Rattle.pv_editor.specs.declared.seat.EditorSeat.{EditorSeat}
use Rattle.pv_fields.specs.Reading.{◌>>=◌}
use Rattle.pv_irc.specs.History.{CentreState, state_count, with_centre_record}
use Rattle.pv_irc.specs.declared.record.CentreRecord.{CentreRecord}
use Rattle.pv_irc.specs.declared.record.CentreRecord.TheVariants.{Applied}
use Rattle.pv_irc.specs.declared.request.IrcRequest.TheVariants.{Apply}
use Rattle.pv_nodes.specs.Below.{records_below}
use Rattle.pv_nodes.specs.Cutting.{MayBecome, kept_record}
use Rattle.pv_nodes.specs.OnDisk.{OnDisk, UpdateIsOnDisk, CentreIsOnDisk, list_with, centre_with}
use Rattle.pv_nodes.specs.declared.cut.Cut.{Cut}
use Rattle.pv_nodes.specs.declared.cut.Cut.TheVariants as cuts
use Rattle.pv_journal.specs.declared.storing.TheConstants.{APPEND_CALLS}
use Rattle.pv_packet.specs.declared.packet.Packet.{Packet}
use Rattle.pv_packet.specs.declared.packet.Packet.TheVariants.{Down, Up, DownHeard, UpHeard}
use Rattle.pv_session.specs.declared.step.Wish.{Wish}
use Rattle.pv_udc.specs.EditList.{EditList}
use Rattle.pv_udc.specs.declared.request.UdcRequest.{UdcRequest}
use Rattle.pv_network.specs.declared.arrival.Arrival.{Arrival}
use Rattle.pv_network.specs.declared.arrival.Arrival.TheVariants as arrivals
use Rattle.pv_network.specs.declared.event.NodeName.{NodeName}
use Rattle.pv_network.specs.declared.event.NodeName.TheVariants as nodes
use Rattle.pv_network.specs.declared.event.TheConstants.{EDITORS, PORTS}
use Rattle.pv_network.specs.declared.outcome.Outcome.{Outcome}
use Rattle.pv_network.specs.declared.outcome.Outcome.TheVariants.{Crashed, Stored}
use Rattle.pv_network.specs.declared.storing.Storing.{Storing}
use Rattle.pv_network.specs.declared.storing.Storing.TheVariants as commands
use Rattle.pv_traffic.specs.declared.way.Way.TheVariants as ways
use Rattle.pv_network.specs.Call.{Call}
use Rattle.pv_network.specs.Calling.{call_at, holdings_at, step_of_store}
use Rattle.pv_network.specs.Calls.{Calls, Holdings, call_in}
use Rattle.pv_network.specs.Centre.{Held, Applies, CentreStands, arrival_by, asked_of, calls_of, holdings_of}
use Rattle.pv_wishes.specs.Wishes.{request_for}
use Rattle.pv_network.specs.Crashing.{step_of_update_crash, step_of_centre_crash}
use Rattle.pv_network.specs.Cutting.{node_of, update_request, stored_for, recorded_world, wish_of, is_stored_for, wished_world, taken_world, applied_world, stored_world, MayBeKept, step_of_stop, IsSaid, cut_answer, apply_request, centre_request, record_for, Restarts}
use Rattle.pv_traffic.specs.Link.{Link, link_in, packets_on, with_new_end}
use Rattle.pv_network.specs.Sound.{IsGenuine, IsSound}
use Rattle.pv_network.specs.Standing.{State, StandsFor, IsPossibleStoring}
use Rattle.pv_network.specs.Traffic.{arrival_on, world_after, with_next_at}
use Rattle.pv_network.specs.World.{World, centre_at, link_at, with_edit}
use Rattle.pv_network.proofs.Arriving.{taken_record, records_taken}
use Rattle.pv_network.proofs.AtPorts.{record_of_wish, recorded_for, stored_comes}
use Rattle.pv_network.proofs.Calling.{LettersByPlaces, LettersBelow, calls_there, holdings_there, stores}
use Rattle.pv_network.proofs.Crashing.{update_crashes, centre_crashes}
use Rattle.pv_traffic.proofs.CallerLemmas.{set_again}
use Rattle.pv_network.proofs.Performing.{applied_after}
use Rattle.pv_network.proofs.Soundness.{sound_update, there_genuine}
use Rattle.pv_network.proofs.Standing.{edit_stands, centre_stands}

-- the record may be there or not, by the calls that passed
may_be : (calls : ℕ) → (kept : Bool) × MayBeKept calls kept
may_be calls = by (ltb calls APPEND_CALLS) refl
  where
    by : (few : Bool) → ltb calls APPEND_CALLS ≡ few → (kept : Bool) × MayBeKept calls kept
    by true is = (false, grind (arith, nat_tests, is))
    by false is = (true, grind (arith, nat_tests, is))

-- a network after a node was lost stands for the world after it, and answers that
abbrev pub IsCut : ℕ → State → World → NodeName → Option World → Outcome → Type 0
IsCut calls after w node stored outcome = (kept : Bool) × MayBeKept calls kept
    × StandsFor after (step_of_stop w node stored kept).0 × (outcome ≡ (step_of_stop w node stored kept).1)

-- the outcome is that answer
pub answers_so : (calls : ℕ) (after : State) (w : World) (node : NodeName) (stored : Option World) (answer outcome : Outcome)
    → outcome ≡ answer → IsCut calls after w node stored answer → IsCut calls after w node stored outcome
answers_so calls after w node stored answer outcome is cut = (cut.0, cut.1, cut.2, is ∙ cut.3)

-- ---- the Update Centre

module _ (s : State) (w : World) (stands : StandsFor s w) (calls : ℕ) (node : OnDisk EditList) (on_disk : UpdateIsOnDisk node)
    (seats : List EditorSeat) (seats_are : seats ≡ replicate EDITORS new_seat)
    (links : List Link) (links_are : links ≡ map (with_new_end ways.Down) s.links) where
  -- the network after it
  abbrev restarted : State
  restarted = record s { update = node.state; disk = node.disk; seats = seats; links = links }

  -- it does not have the record
  without_edit : node.state ≡ s.update → StandsFor restarted (step_of_update_crash w).0
  without_edit is =
      (update_crashes s w stands node seats links (length node.state.records) is on_disk seats_are links_are refl).0

  -- it has it
  with_this : (edit : Record) → node.state ≡ list_with s.update (Some edit) → IsSound (with_edit w (Some edit))
      → StandsFor restarted (step_of_update_crash (with_edit w (Some edit))).0
  with_this edit is sound =
      let has = edit_stands s w stands node on_disk (Some edit) (is ∙ ap (λ (u : EditList). list_with u (Some edit)) stands.update) sound in
      (update_crashes (record s { update = node.state; disk = node.disk }) (with_edit w (Some edit)) has node seats links
      (length node.state.records) refl on_disk seats_are links_are refl).0

  -- by what became of the record
  update_stops : (stored : Option Record) → IsSound (with_edit w stored) → (cut : Cut) → MayBecome calls stored cut
      → node.state ≡ list_with s.update (kept_record stored cut)
      → IsCut calls restarted w nodes.Udc (recorded_world w stored) (cut_answer cut)
  update_stops None sound cuts.NotStored may is = let either = may_be calls in (either.0, either.1, without_edit is, refl)
  update_stops None sound cuts.Kept may is = absurd may
  update_stops None sound cuts.Lost may is = absurd may
  update_stops (Some edit) sound cuts.NotStored may is = absurd may
  update_stops (Some edit) sound cuts.Kept may is = (true, may, with_this edit is sound, refl)
  update_stops (Some edit) sound cuts.Lost may is = (false, may, without_edit is, refl)

  -- what a command to it stores is what it stores for the request
  stored_at_update : (command : Storing) (said : Option EditLine) → node_of command ≡ nodes.Udc
      → recorded_world w (stored_for w.update (update_request w command said)) ≡ stored_world w command said
  stored_at_update (commands.Seed name row) said its = refl
  stored_at_update (commands.Edit port line) said its = refl
  stored_at_update (commands.Store centre port) said its = absurd cc
  stored_at_update (commands.Deliver centre index) said its = absurd cc
  stored_at_update (commands.Back centre index) said its = refl

  -- it was lost within a command
  pub cuts_update : (command : Storing) (said : Option EditLine) → node_of command ≡ nodes.Udc → (request : Option UdcRequest)
      → request ≡ update_request w command said → (cut : Cut) → MayBecome calls (stored_for s.update request) cut
      → node.state ≡ list_with s.update (kept_record (stored_for s.update request) cut)
      → IsCut calls restarted w (node_of command) (stored_world w command said) (cut_answer cut)
  cuts_update command said its request asked cut may is =
      let stored : stored_for s.update request ≡ stored_for w.update (update_request w command said) =
      ap (stored_for s.update) asked ∙ ap (λ (u : EditList). stored_for u (update_request w command said)) stands.update in
      let done = update_stops (stored_for w.update (update_request w command said)) (sound_update w command said stands.sound) cut
      (subst (λ (edit : Option Record). MayBecome calls edit cut) stored may)
      (is ∙ ap (λ (edit : Option Record). list_with s.update (kept_record edit cut)) stored) in
      subst (λ (n : NodeName). IsCut calls restarted w n (stored_world w command said) (cut_answer cut)) (sym its)
      (subst (λ (v : Option World). IsCut calls restarted w nodes.Udc v (cut_answer cut)) (stored_at_update command said its) done)

-- ---- a centre

-- a command to a centre is to one that there is
pub reaches_centre : (s : State) (command : Storing) (c : ℕ) → node_of command ≡ nodes.Centre c → IsPossibleStoring s command
    → c < length s.centres
reaches_centre s (commands.Seed name row) c its can = absurd cc
reaches_centre s (commands.Edit port line) c its can = absurd cc
reaches_centre s (commands.Store centre port) c its can =
    let same : centre ≡ c = cc in subst (λ (n : ℕ). n < length s.centres) same can.0
reaches_centre s (commands.Deliver centre index) c its can =
    let same : centre ≡ c = cc in subst (λ (n : ℕ). n < length s.centres) same can
reaches_centre s (commands.Back centre index) c its can = absurd cc

-- no editor says anything in it
pub says_nothing : (command : Storing) (c : ℕ) → node_of command ≡ nodes.Centre c → IsSaid command None
says_nothing (commands.Seed name row) c its = absurd cc
says_nothing (commands.Edit port line) c its = absurd cc
says_nothing (commands.Store centre port) c its = tt
says_nothing (commands.Deliver centre index) c its = tt
says_nothing (commands.Back centre index) c its = absurd cc

module _ (s : State) (w : World) (stands : StandsFor s w) (c : ℕ) (here : Held) (there : c < length s.centres)
    (read : here ≡ get_or s.centres c here) where
  -- What the node stores is what the world stores: with that record on its disk, and some calls at its ports, the centre stands for
  -- the world's.
  abbrev Agree : Option CentreRecord → Option World → Type 0
  Agree None None = Unit {0}
  Agree (Some rec) (Some v) = (node : OnDisk CentreState) → node.state ≡ with_centre_record here.node.state rec → CentreIsOnDisk node
      → (ports : List (Option Call)) × StandsFor (record s { centres = set s.centres c (record { node = node; ports = ports }) }) v
  Agree _ _ = ⊥

  -- it stands for the world's
  stood : CentreStands w.update c here (centre_at w c)
  stood = centre_stands s w stands c here there read

  -- ---- what it stores for a call

  module _ (by_places : LettersByPlaces) (below : LettersBelow) (port : ℕ) where
    -- a wish of the call at a port
    wish_agrees : (wish : Wish) → wish_of (call_at w c port) ≡ Some wish
        → Agree (record_for here.node.state (Some (request_for wish))) (wished_world w c port wish)
    wish_agrees wish owes = by (is_stored_for (holdings_at w c) wish) refl
      where
        holdings : holdings_of here.node.state ≡ holdings_at w c
        holdings = holdings_there s w stands c here there read by_places below

        rec : record_for here.node.state (Some (request_for wish))
            ≡ cond (is_stored_for (holdings_at w c) wish) (Some (record_of_wish wish)) None
        rec = recorded_for here.node.state wish
            ∙ ap (λ (d : Holdings). cond (is_stored_for d wish) (Some (record_of_wish wish)) None) holdings

        here_owes : wish_of (call_in (calls_of here) port) ≡ Some wish
        here_owes = ap (λ (calls : Calls). wish_of (call_in calls port)) (calls_there s w stands c here there read) ∙ owes

        stored : is_stored_for (holdings_at w c) wish ≡ true → Agree (Some (record_of_wish wish)) (Some (step_of_store w c port).0)
        stored is = λ node known on_disk.
            let comes = stored_comes here port wish (call_in (calls_of here) port) refl here_owes
            (ap (λ (d : Holdings). is_stored_for d wish) holdings ∙ is) node known on_disk in
            (comes.0, (stores s w stands c here there read port (record { node = node; ports = comes.0 }) Stored by_places below comes.1).0)

        by : (test : Bool) → is_stored_for (holdings_at w c) wish ≡ test
            → Agree (record_for here.node.state (Some (request_for wish))) (cond test (Some (step_of_store w c port).0) None)
        by true is =
            subst (λ (r : Option CentreRecord). Agree r (Some (step_of_store w c port).0))
            (sym (rec ∙ ap (λ (test : Bool). cond test (Some (record_of_wish wish)) None) is)) (stored is)
        by false is =
            subst (λ (r : Option CentreRecord). Agree r None)
            (sym (rec ∙ ap (λ (test : Bool). cond test (Some (record_of_wish wish)) None) is)) tt

    call_agrees : (wish : Option Wish) → wish_of (call_at w c port) ≡ wish
        → Agree (record_for here.node.state (option_map request_for wish)) (wish >>= wished_world w c port)
    call_agrees None owes = tt
    call_agrees (Some wish) owes = wish_agrees wish owes

  -- ---- what it stores of a packet

  module _ (room_below : (limits : Limits) (records : List Record) (edit : Record)
      → has_room limits (records_below records) edit ≡ has_room limits records edit) where
    -- a record arrives under a number
    record_agrees : (number : ℕ) (rec : DownRecord) → IsGenuine w.update.records c (centre_at w c) (Down c number rec)
        → Agree (record_for here.node.state (Some (Apply number rec))) (taken_world w c (arrival_on ways.Down w c number))
    record_agrees number rec genuine = by (arrival_on ways.Down w c number) refl
      where
        stored : record_for here.node.state (Some (Apply number rec)) ≡ taken_record (arrival_on ways.Down w c number) number rec
        stored = ap (λ (state : CentreState). record_for state (Some (Apply number rec))) stood.state
            ∙ records_taken room_below c w.update stands.sound.law.run (centre_at w c) stood.within number rec genuine.1

        -- what the node does if it is asked
        asks : record_for here.node.state (Some (Apply number rec)) ≡ Some (Applied number rec) → (node : OnDisk CentreState)
            → node.state ≡ with_centre_record here.node.state (Applied number rec) → CentreIsOnDisk node
            → Applies here (record { node = node; ports = here.ports }) number rec
            (arrival_by (asked_of here.node.state (Apply number rec)).0)
        asks is node known on_disk = record {
          reply = (asked_of here.node.state (Apply number rec)).0;
          asked = record {
            reply = refl;
            state = known ∙ sym (ap (centre_with here.node.state) is);
            on_disk = on_disk;
            ports = refl;
          };
          result_is = refl;
        }

        by : (how : Arrival) → arrival_on ways.Down w c number ≡ how
            → Agree (record_for here.node.state (Some (Apply number rec))) (taken_world w c how)
        by arrivals.Taken how =
            let is = stored ∙ ap (λ (a : Arrival). taken_record a number rec) how in
            subst (λ (r : Option CentreRecord). Agree r (Some (with_next_at w c))) (sym is)
            (λ node known on_disk. (
              here.ports,
              subst (λ (a : Arrival). StandsFor (record s { centres = set s.centres c (record { node = node; ports = here.ports }) })
                  (world_after w (with_next_at w c) a)) how
                  (applied_after s w stands c here there read room_below number rec genuine (record { node = node; ports = here.ports })
                  (arrival_by (asked_of here.node.state (Apply number rec)).0) (asks is node known on_disk)),
            ))
        by arrivals.Old how =
            subst (λ (r : Option CentreRecord). Agree r None) (sym (stored ∙ ap (λ (a : Arrival). taken_record a number rec) how)) tt
        by arrivals.Early how =
            subst (λ (r : Option CentreRecord). Agree r None) (sym (stored ∙ ap (λ (a : Arrival). taken_record a number rec) how)) tt
        by arrivals.Full how =
            subst (λ (r : Option CentreRecord). Agree r None) (sym (stored ∙ ap (λ (a : Arrival). taken_record a number rec) how)) tt

    of_packet : (packet : Packet) → IsGenuine w.update.records c (centre_at w c) packet
        → Agree (record_for here.node.state (apply_request packet)) (applied_world w c packet)
    of_packet (Down from number rec) genuine = record_agrees number rec (refl, genuine.1)
    of_packet (Up from number item) genuine = tt
    of_packet (DownHeard from count) genuine = tt
    of_packet (UpHeard from count) genuine = tt

    packet_agrees : (index : ℕ) (found : Option Packet) → slice_get (packets_on ways.Down (link_at w c)) index ≡ found
        → Agree (record_for here.node.state (found >>= apply_request)) (found >>= applied_world w c)
    packet_agrees index None is = tt
    packet_agrees index (Some packet) is = of_packet packet (there_genuine w c stands.sound ways.Down index packet is)

  -- ---- what it stores for a command

  module _ (by_places : LettersByPlaces) (below : LettersBelow) (room_below : (limits : Limits) (records : List Record) (edit : Record)
      → has_room limits (records_below records) edit ≡ has_room limits records edit) where
    command_agrees : (command : Storing) (said : Option EditLine) → node_of command ≡ nodes.Centre c
        → Agree (record_for here.node.state (centre_request w command)) (stored_world w command said)
    command_agrees (commands.Seed name row) said its = absurd cc
    command_agrees (commands.Edit port line) said its = absurd cc
    command_agrees (commands.Store centre port) said its =
        let same : c ≡ centre = cc in
        subst (λ (n : ℕ). Agree (record_for here.node.state (centre_request w (commands.Store n port)))
        (stored_world w (commands.Store n port) said)) same (call_agrees by_places below port (wish_of (call_at w c port)) refl)
    command_agrees (commands.Deliver centre index) said its =
        let same : c ≡ centre = cc in
        subst (λ (n : ℕ). Agree (record_for here.node.state (centre_request w (commands.Deliver n index)))
        (stored_world w (commands.Deliver n index) said)) same
        (packet_agrees room_below index (slice_get (packets_on ways.Down (link_at w c)) index) refl)
    command_agrees (commands.Back centre index) said its = absurd cc

  -- ---- the stop

  module _ (calls : ℕ) (new : Held) (on_disk : CentreIsOnDisk new.node) (ports : new.ports ≡ replicate PORTS None)
      (links : List Link) (links_are : links ≡ set s.links c (with_new_end ways.Up (link_in s.links c))) where
    -- the network after it
    abbrev reopened : State
    reopened = record s { centres = set s.centres c new; links = links }

    -- it does not have the record
    without_record : new.node.state ≡ here.node.state → StandsFor reopened (step_of_centre_crash w c).0
    without_record is =
        (centre_crashes s w stands c here there read new (Crashed (state_count here.node.state)) links links_are
        (record { state = is; on_disk = λ was. on_disk; ports = ports; answer = refl })).0

    -- it has it
    with_one : (rec : CentreRecord) (v : World) → Agree (Some rec) (Some v) → new.node.state ≡ with_centre_record here.node.state rec
        → StandsFor reopened (step_of_centre_crash v c).0
    with_one rec v agree is =
        let has = agree new.node is on_disk in
        let held : Held = record { node = new.node; ports = has.0 } in
        let centres = set s.centres c held in
        let size : c < length centres = omega (arith, there, length-set s.centres c held) in
        let done = (centre_crashes (record s { centres = centres }) v has.1 c held size (sym (get_or-set_same s.centres c held held there))
        new (Crashed (state_count new.node.state)) links links_are
        (record { state = refl; on_disk = λ was. on_disk; ports = ports; answer = refl })).0 in
        subst (λ (l : List Held). StandsFor (record s { centres = l; links = links }) (step_of_centre_crash v c).0)
        (set_again s.centres c held new) done

    -- by what became of the record
    centre_stops : (stored : Option CentreRecord) (v : Option World) → Agree stored v → (cut : Cut) → MayBecome calls stored cut
        → new.node.state ≡ centre_with here.node.state (kept_record stored cut)
        → IsCut calls reopened w (nodes.Centre c) v (cut_answer cut)
    centre_stops None None agree cuts.NotStored may is = let either = may_be calls in (either.0, either.1, without_record is, refl)
    centre_stops None None agree cuts.Kept may is = absurd may
    centre_stops None None agree cuts.Lost may is = absurd may
    centre_stops None (Some v) agree cut may is = absurd agree
    centre_stops (Some rec) None agree cut may is = absurd agree
    centre_stops (Some rec) (Some v) agree cuts.NotStored may is = absurd may
    centre_stops (Some rec) (Some v) agree cuts.Kept may is = (true, may, with_one rec v agree is, refl)
    centre_stops (Some rec) (Some v) agree cuts.Lost may is = (false, may, without_record is, refl)

  -- it was lost within a command
  pub cuts_centre : LettersByPlaces → LettersBelow → ((limits : Limits) (records : List Record) (edit : Record)
      → has_room limits (records_below records) edit ≡ has_room limits records edit)
      → (command : Storing) (said : Option EditLine) → node_of command ≡ nodes.Centre c → (calls : ℕ) (new : Held) (cut : Cut)
      → Restarts here new calls (record_for here.node.state (centre_request w command)) cut
      → (links : List Link) → links ≡ set s.links c (with_new_end ways.Up (link_in s.links c))
      → IsCut calls (record s { centres = set s.centres c new; links = links }) w (node_of command) (stored_world w command said)
      (cut_answer cut)
  cuts_centre by_places below room_below command said its calls new cut restarts links links_are =
      subst (λ (n : NodeName). IsCut calls (record s { centres = set s.centres c new; links = links }) w n (stored_world w command said)
      (cut_answer cut)) (sym its)
      (centre_stops calls new restarts.on_disk restarts.ports links links_are
      (record_for here.node.state (centre_request w command)) (stored_world w command said)
      (command_agrees by_places below room_below command said its) cut restarts.may restarts.state)
