-- What a centre's node makes of a record of the edit list that arrives.
use Rattle.std.proofs.Common.{◌≡◌, ℕ, suc, ◌+◌, ◌≤◌, Bool, true, false, eqb, leb, ltb, List, [], ◌∷◌, ◌++◌, length, map, take, Option, Some, None, Ok, refl, sym, ap, ◌∙◌, append_assoc, append-nil, arith}
use Rattle.std.specs.Prelude.{slice_get}
use Rattle.std.proofs.lemmas.Bool.Decides.{nat_tests}
use Rattle.std.proofs.lemmas.List.{length-take-le, length-map, map-append, take_more}
use Rattle.std.proofs.lemmas.List.Elements.{filter_map-append}
use Rattle.std.proofs.lemmas.Option.{slice_get_within, get_or_from_slice_get}
use Rattle.pv_outside.specs.declared.limits.Limits.{Limits}
use Rattle.pv_post.specs.declared.item.Item.{Item}
use Rattle.pv_post.specs.declared.item.Item.TheVariants as items
use Rattle.pv_edits.specs.Room.{has_room}
use Rattle.pv_edits.specs.declared.down.DownRecord.{DownRecord}
use Rattle.pv_edits.specs.declared.down.DownRecord.TheVariants.{Whole, Blank}
use Rattle.pv_edits.specs.declared.record.Record.{Record}
use Rattle.pv_edits.specs.declared.record.Record.TheVariants.{Put, Drop, Account, Lease, Taken}
use Rattle.pv_irc.specs.Deciding.{down_fits}
use Rattle.pv_irc.specs.History.{whole_in, whole_records, place_if_whole, whole_places, CentreState, state_count, with_down}
use Rattle.pv_irc.specs.declared.record.CentreRecord.{CentreRecord}
use Rattle.pv_irc.specs.declared.record.CentreRecord.TheVariants as records
use Rattle.pv_irc.specs.declared.reply.IrcReply.TheVariants as replies
use Rattle.pv_irc.specs.declared.request.IrcRequest.TheVariants.{Apply}
use Rattle.pv_nodes.specs.Below.{records_below}
use Rattle.pv_udc.specs.EditList.{EditList}
use Rattle.pv_udc.specs.Replies.{down_of, down_of_item}
use Rattle.pv_udc.proofs.CallerLemmas.{has_room-judged}
use Rattle.pv_network.specs.declared.arrival.Arrival.{Arrival}
use Rattle.pv_network.specs.declared.arrival.Arrival.TheVariants as arrivals
use Rattle.pv_network.specs.Cutting.{record_for}
use Rattle.pv_network.specs.Centre.{Centre, with_next, record_count, arrival_of, centre_with_arrival, asked_of, reply_to_arrival, state_of_prefix, node_state}
use Rattle.pv_network.specs.Run.{IsEditRun}
use Rattle.pv_network.specs.Sound.{CarriesRecord}

-- ---- one record more

-- the places of one thing more that came down
places-push : (first : ℕ) (downs : List DownRecord) (down : DownRecord)
    → whole_places first (downs ++ down ∷ []) ≡ whole_places first downs ++ place_if_whole (first + length downs) down
places-push first [] down = append-nil (place_if_whole first down) ∙ ap (λ place. place_if_whole place down) (omega arith)
places-push first (one ∷ downs) down =
    ap (λ places. place_if_whole first one ++ places)
    (places-push (first + 1) downs down ∙ ap (λ place. whole_places (first + 1) downs ++ place_if_whole place down) (omega arith))
    ∙ sym (append_assoc (place_if_whole first one) (whole_places (first + 1) downs) (place_if_whole (first + suc (length downs)) down))

-- a state with one thing more that came down
with_one : (state : CentreState) (down : DownRecord) → with_down state down ≡ record state {
  applied = state.applied + 1;
  edits = state.edits ++ whole_records (down ∷ []);
  places = state.places ++ place_if_whole state.applied down;
}
with_one state (Whole edit) = refl
with_one state Blank = λ i. record state {
  applied = state.applied + 1;
  edits = sym (append-nil state.edits) i;
  places = sym (append-nil state.places) i;
}

module _ (number : ℕ) (limits : Limits) (centre : Centre) (prefix : List Record) (edit : Record) (is : centre.applied ≡ length prefix) where
  -- the state of a prefix with the next record is that of the longer prefix
  state_of_next : with_down (state_of_prefix number limits centre prefix) (down_of edit)
      ≡ state_of_prefix number limits (with_next centre) (prefix ++ edit ∷ [])
  state_of_next =
      let downs = map down_of prefix in
      let more : map down_of (prefix ++ edit ∷ []) ≡ downs ++ down_of edit ∷ [] = map-append down_of prefix (edit ∷ []) in
      let edits : whole_records downs ++ whole_records (down_of edit ∷ []) ≡ records_below (prefix ++ edit ∷ []) =
      sym (ap whole_records more ∙ filter_map-append whole_in downs (down_of edit ∷ [])) in
      let place : centre.applied ≡ 0 + length downs = omega (arith, is, length-map prefix down_of) in
      let places : whole_places 0 downs ++ place_if_whole centre.applied (down_of edit)
      ≡ whole_places 0 (map down_of (prefix ++ edit ∷ [])) =
      ap (λ n. whole_places 0 downs ++ place_if_whole n (down_of edit)) place
      ∙ sym (ap (whole_places 0) more ∙ places-push 0 downs (down_of edit)) in
      with_one (state_of_prefix number limits centre prefix) (down_of edit) ∙ (λ i. record {
        centre = number;
        limits = limits;
        applied = centre.applied + 1;
        edits = edits i;
        places = places i;
        items = centre.calls.items;
        log_ons = centre.calls.log_ons;
        removals = centre.calls.removals;
      })

-- what goes down of a record has room if the record has
fits_below : (state : CentreState) (edit : Record) → has_room state.limits state.edits edit ≡ true → down_fits state (down_of edit) ≡ true
fits_below state (Put editor q name frame) room = room
fits_below state (Drop editor q name) room = room
fits_below state (Account editor q account) room = room
fits_below state (Lease editor q root account) room = room
fits_below state (Taken taken) room = of_item taken.item
  where
    of_item : (item : Item) → down_fits state (down_of_item item taken) ≡ true
    of_item (items.Charge line) = refl
    of_item (items.Reply reply) = refl
    of_item (items.Mail mail) = room

-- the record of what arrived under a number, if it is taken
abbrev pub taken_record : Arrival → ℕ → DownRecord → Option CentreRecord
taken_record arrivals.Taken number rec = Some (records.Applied number rec)
taken_record _ number rec = None

-- ---- an arrival

-- What came down has the room that the list has.
module _ (room_below : (limits : Limits) (records : List Record) (edit : Record)
    → has_room limits (records_below records) edit ≡ has_room limits records edit)
    (c : ℕ) (u : EditList) (run : IsEditRun u.limits u.records) (centre : Centre) (within : centre.applied ≤ length u.records)
    (number : ℕ) (rec : DownRecord) (carries : CarriesRecord u.records number rec) where
  -- what the centre's node knows
  abbrev state : CentreState
  state = node_state c u centre

  -- what the centre does with the record
  abbrev arrival : Arrival
  arrival = arrival_of centre.applied (record_count centre) u.limits.records number

  -- the reply, and what the node knows afterwards
  abbrev Arrives : Type 0
  Arrives = asked_of state (Apply number rec) ≡ (reply_to_arrival arrival centre, node_state c u (centre_with_arrival arrival centre))

  module _ (next : number ≡ centre.applied) where
    -- the list has the record at the centre's count
    there : slice_get u.records centre.applied ≡ Some carries.edit
    there = ap (slice_get u.records) (sym next) ∙ carries.there

    -- there is room for it
    has_place : down_fits state rec ≡ true
    has_place =
        let judged = (run centre.applied carries.edit there).judged in
        let prefix = take centre.applied u.records in
        let room : has_room u.limits (records_below prefix) carries.edit ≡ true =
        room_below u.limits prefix carries.edit ∙ has_room-judged u.limits prefix judged.0 carries.edit judged.1 judged.2 in
        ap (down_fits state) carries.same ∙ fits_below state carries.edit room

    -- with it the node knows the longer prefix
    grows : with_down state rec ≡ node_state c u (with_next centre)
    grows =
        let edit = carries.edit in
        let prefix = take centre.applied u.records in
        let more : take (centre.applied + 1) u.records ≡ prefix ++ edit ∷ [] =
        take_more u.records centre.applied edit (slice_get_within u.records centre.applied edit there)
        ∙ ap (λ (e : Record). prefix ++ e ∷ []) (get_or_from_slice_get u.records centre.applied edit edit there) in
        ap (with_down state) carries.same
        ∙ state_of_next c u.limits centre prefix edit (sym (length-take-le centre.applied u.records within))
        ∙ ap (state_of_prefix c u.limits (with_next centre)) (sym more)

  -- the node's reply is the one to the centre's arrival
  pub arrives : Arrives
  arrives = by (ltb number centre.applied) (ltb centre.applied number) refl refl
    where
      full : (is_full : Bool) → leb u.limits.records (record_count centre) ≡ is_full → ltb number centre.applied ≡ false
          → ltb centre.applied number ≡ false → number ≡ centre.applied → Arrives
      full true how below above next =
          let same : eqb number centre.applied ≡ true = grind (arith, nat_tests, next) in
          let count : state_count state ≡ record_count centre = omega arith in
          rw (below, above, has_place next, same, count, how) refl
      full false how below above next =
          let same : eqb number centre.applied ≡ true = grind (arith, nat_tests, next) in
          let count : state_count state ≡ record_count centre = omega arith in
          rw (below, above, has_place next, same, count, how) (ap (λ (s : CentreState). (Ok replies.Applied, s)) (grows next))

      by : (old early : Bool) → ltb number centre.applied ≡ old → ltb centre.applied number ≡ early → Arrives
      by true early below above =
          let other : eqb number centre.applied ≡ false = grind (arith, nat_tests, below) in
          rw (below, other) refl
      by false true below above =
          let other : eqb number centre.applied ≡ false = grind (arith, nat_tests, above) in
          rw (below, above, other) refl
      by false false below above =
          let next : number ≡ centre.applied = grind (arith, nat_tests, below, above) in
          full (leb u.limits.records (record_count centre)) refl below above next

  -- its node stores the record of what is taken
  pub records_taken : record_for state (Some (Apply number rec)) ≡ taken_record arrival number rec
  records_taken = by (ltb number centre.applied) (ltb centre.applied number) refl refl
    where
      full : (is_full : Bool) → leb u.limits.records (record_count centre) ≡ is_full → ltb number centre.applied ≡ false
          → ltb centre.applied number ≡ false → number ≡ centre.applied
          → record_for state (Some (Apply number rec)) ≡ taken_record arrival number rec
      full true how below above next =
          let same : eqb number centre.applied ≡ true = grind (arith, nat_tests, next) in
          let count : state_count state ≡ record_count centre = omega arith in
          rw (below, above, has_place next, same, count, how) refl
      full false how below above next =
          let same : eqb number centre.applied ≡ true = grind (arith, nat_tests, next) in
          let count : state_count state ≡ record_count centre = omega arith in
          rw (below, above, has_place next, same, count, how) refl

      by : (old early : Bool) → ltb number centre.applied ≡ old → ltb centre.applied number ≡ early
          → record_for state (Some (Apply number rec)) ≡ taken_record arrival number rec
      by true early below above =
          let other : eqb number centre.applied ≡ false = grind (arith, nat_tests, below) in
          rw (below, other) refl
      by false true below above =
          let other : eqb number centre.applied ≡ false = grind (arith, nat_tests, above) in
          rw (below, above, other) refl
      by false false below above =
          let next : number ≡ centre.applied = grind (arith, nat_tests, below, above) in
          full (leb u.limits.records (record_count centre)) refl below above next
