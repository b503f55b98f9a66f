-- What an event makes of a sound world is sound.
use Rattle.std.proofs.Common.{◌≡◌, ℕ, zero, suc, ◌+◌, ◌<◌, ◌≤◌, Bool, true, false, cond, ◌&&◌, leb, ltb, List, [], ◌∷◌, ◌++◌, append-nil, length, get_or, Option, Some, None, take, refl, sym, ap, subst, ◌∙◌, arith, inl, inr}
use Rattle.std.specs.Prelude.{All, IfSome, option_map, slice_get, replicate}
use Rattle.std.specs.List.{count_by}
use Rattle.std.specs.Option.{option_map_or}
use Rattle.std.proofs.lemmas.Bool.{leb-false}
use Rattle.std.proofs.lemmas.List.{length-append, take-append-le}
use Rattle.std.proofs.lemmas.List.Elements.{All-push}
use Rattle.std.proofs.lemmas.List.Sums.{sum_by_push}
use Rattle.std.proofs.lemmas.Bool.Decides.{nat_tests}
use Rattle.std.proofs.Math.ListN.{get_or-map}
use Rattle.std.proofs.Math.Seq.{take-append_seam}
use Rattle.std.proofs.lemmas.Option.{slice_get_within}
use Rattle.pv_outside.specs.declared.limits.Limits.{Limits}
use Rattle.pv_edits.specs.declared.record.Record.{Record}
use Rattle.pv_edits.specs.declared.wish.EditWish.{EditWish}
use Rattle.pv_edits.specs.declared.wish.EditWish.TheVariants.{Put}
use Rattle.pv_edits.specs.declared.room.TheConstants.{OPERATOR}
use Rattle.pv_edits.specs.declared.down.DownRecord.{DownRecord}
use Rattle.pv_edits.specs.Edits.{is_edit_of, number_in, taken_of}
use Rattle.pv_fields.specs.Reading.{◌>>=◌}
use Rattle.pv_node.specs.declared.decision.Decision.{Decision}
use Rattle.pv_node.specs.declared.decision.Decision.TheVariants.{Answer, Store}
use Rattle.pv_udc.specs.Judgement.{next_number, judge}
use Rattle.pv_udc.specs.declared.reply.UdcReply.{UdcReply}
use Rattle.pv_udc.specs.declared.reply.UdcReply.TheVariants as replies
use Rattle.pv_post.specs.declared.item.Item.{Item}
use Rattle.pv_udc.specs.Requests.{record_of}
use Rattle.pv_udc.specs.declared.request.UdcRequest.{UdcRequest}
use Rattle.pv_udc.specs.declared.request.UdcRequest.TheVariants.{Edit, TakeUp}
use Rattle.pv_udc.proofs.CallerLemmas.{has_room-judged, next-judged, is_his, IsAnswered, is_answered, last_edit-there, last_edit-his, last_edit-others}
use Rattle.pv_editor.specs.Say.{new_seat}
use Rattle.pv_editor.specs.declared.line.EditLine.{EditLine}
use Rattle.pv_editor.specs.declared.seat.EditorSeat.{EditorSeat}
use Rattle.pv_editor.specs.declared.step.EditStep.{EditStep}
use Rattle.pv_editor.specs.declared.step.EditStep.TheVariants as steps
use Rattle.pv_editor.specs.declared.replies.UdcReplyView.TheVariants.{Stored, Refused}
use Rattle.pv_network.specs.declared.arrival.Arrival.{Arrival}
use Rattle.pv_network.specs.declared.arrival.Arrival.TheVariants as arrivals
use Rattle.pv_network.specs.declared.load.Load.{Load}
use Rattle.pv_traffic.specs.declared.way.Way.{Way}
use Rattle.pv_traffic.specs.declared.way.Way.TheVariants as ways
use Rattle.pv_network.specs.declared.event.Event.{Event}
use Rattle.pv_network.specs.declared.event.Event.TheVariants as events
use Rattle.pv_network.specs.declared.event.NodeName.{NodeName}
use Rattle.pv_network.specs.declared.event.NodeName.TheVariants as nodes
use Rattle.pv_network.specs.declared.storing.Storing.{Storing}
use Rattle.pv_network.specs.declared.storing.Storing.TheVariants as commands
use Rattle.pv_network.specs.declared.outcome.BillLine.{BillLine}
use Rattle.pv_network.specs.declared.outcome.Outcome.{Outcome}
use Rattle.pv_network.specs.declared.outcome.Turn.{Turn}
use Rattle.pv_packet.specs.declared.packet.Packet.{Packet}
use Rattle.pv_packet.specs.declared.packet.Packet.TheVariants.{Down, Up, DownHeard, UpHeard}
use Rattle.pv_link.specs.Sending.{SendingEnd, new_end, number_due, end_after, end_that_heard}
use Rattle.pv_network.specs.declared.round.Round.{Round}
use Rattle.pv_network.specs.declared.round.Round.TheVariants as rounds
use Rattle.pv_verdicts.specs.declared.view.TheConstants.{FULL}
use Rattle.pv_network.specs.declared.event.TheConstants.{PORTS}
use Rattle.pv_network.specs.Call.{Call, serial_of}
use Rattle.pv_session.specs.declared.entry.Entry.{Entry}
use Rattle.pv_session.specs.declared.step.Wish.{Wish}
use Rattle.pv_network.specs.Calling.{calls_at, call_at, view_at, holdings_at, with_calls, step_of_dial, step_of_hang, step_of_press, step_of_store, step_of_show}
use Rattle.pv_network.specs.Keying.{KeyedByte, first_entry, is_owes, is_storing, step_of_payment, step_of_key, screens_in, is_over, keys_from, keys_refusal, step_of_taken_keys}
use Rattle.pv_network.specs.Calls.{Calls, no_calls}
use Rattle.pv_network.specs.Centre.{Centre, new_centre, arrival_of}
use Rattle.pv_network.specs.Crashing.{without_calls, step_of_update_crash, step_of_lost_calls, step_of_centre_crash, step_of_crash}
use Rattle.pv_network.specs.Cutting.{node_of, request_in, item_request, update_request, stored_for, recorded_world, wish_of, is_stored_for, wished_world, taken_world, applied_world, stored_world, step_of_stop, step_of_cut}
use Rattle.pv_traffic.specs.Link.{Link, new_link, is_packets_full, back_way, ack_packet, packets_on, end_on, with_packet, with_end, with_sent, with_new_end, packet_room}
use Rattle.pv_network.specs.OneList.{IsNextOfEditor, HasNumbersInOrder, StandsAt, HasOnePlaceEach, MatchesReceipt, taken_items}
use Rattle.pv_network.specs.Run.{EachFollows, MayFollow}
use Rattle.pv_network.specs.Sound.{IsGenuine, GoesAlong, serial_in, IsSoundLink, IsSoundCalls, IsSound}
use Rattle.pv_network.specs.Editing.{with_verdict, step_of_request, seeded_frame, step_of_line, step_of_said, step_of_edit}
use Rattle.pv_network.specs.Step.{Choice, happens, after}
use Rattle.pv_network.specs.Traffic.{front_of, received_count, receiver_count, record_packet, packet_for, next_number_on, step_of_packing, step_of_number, step_of_sending, step_of_acknowledging, arrival_on, world_after, step_of_answer, with_next_at, with_item_of, step_of_hearing, step_of_packet, step_of_found, step_of_arriving, with_ack_back, round_of_send, step_of_round, no_load, with_one, way_on, after_round, rounds_on, carry_rounds}
use Rattle.pv_verdicts.specs.Views.{editor_view}
use Rattle.pv_network.specs.Verdict.{Verdict, verdict_by, verdict_of}
use Rattle.pv_network.specs.World.{World, Receipt, StoppedCall, start, with_seat, centre_at, link_at, with_centre, with_link, with_edit, with_receipt}
use Rattle.pv_network.proofs.Counts.{count_by-grows, frame_count-none, frames_within}
use Rattle.pv_network.proofs.Items.{KeepsItems, same_items, dial_items, hang_items, press_items, store_items, show_items}
use Rattle.pv_network.proofs.TakingUp.{one_if, taken_more, TakesNext, taken_push, edit_takes_none, item_takes_next, taken_of_more, judges_next, judged_next}
use Rattle.pv_network.proofs.SoundCalls.{dial_sound, hang_sound, press_sound, store_sound, show_sound}
use Rattle.pv_network.proofs.Lists.{set_at, all_get, get_prefix, get_push, get_last}

-- what holds of the world on each side of a test holds of the one that it chooses
pub choice : {A : Type 0} (P : World → Type 0) (b : Bool) (x y : World × A) → (b ≡ true → P x.0) → (b ≡ false → P y.0) → P (cond b x y).0
choice P true x y here there = here refl
choice P false x y here there = there refl

-- ---- a centre

-- a centre that nothing has reached has a sound link beside any list
sound_new : (edits : List Record) (c : ℕ) → IsSoundLink edits c new_centre new_link
sound_new edits c = record {
  down = λ k d none. absurd (omega (arith, none));
  up = λ k d none. absurd (omega (arith, none));
  sending = omega arith;
  posting = omega arith;
}

-- The list has become longer, or the centre has applied more of it or keeps more items.
module _ (edits more longer : List Record) (grown : longer ≡ edits ++ more) (c : ℕ) (old new : Centre)
    (applied : old.applied ≤ new.applied) (items : List Item) (kept : new.calls.items ≡ old.calls.items ++ items) where
  -- no fewer items were taken up
  no_fewer : taken_of edits c ≤ taken_of longer c
  no_fewer = omega (arith, taken_more edits more c, ap (λ (l : List Record). taken_of l c) grown)

  -- a genuine packet is genuine still
  genuine_more : (packet : Packet) → IsGenuine edits c old packet → IsGenuine longer c new packet
  genuine_more (Down from number rec) is = (
    is.0,
    record {
      edit = is.1.edit;
      there = ap (λ (l : List Record). slice_get l number) grown ∙ get_prefix edits more number is.1.edit is.1.there;
      same = is.1.same;
    },
  )
  genuine_more (Up from number item) is =
      (is.0, ap (λ (l : List Item). slice_get l number) kept ∙ get_prefix old.calls.items items number item is.1)
  genuine_more (DownHeard from number) is = (is.0, omega (arith, is.1, applied))
  genuine_more (UpHeard from number) is = (is.0, omega (arith, is.1, no_fewer))

  goes_more : (way : Way) (packet : Packet) → GoesAlong edits c old way packet → GoesAlong longer c new way packet
  goes_more way packet goes = record { way_is = goes.way_is; genuine = genuine_more packet goes.genuine }

  -- a sound link is sound still
  pub link_more : (link : Link) → IsSoundLink edits c old link → IsSoundLink longer c new link
  link_more link sound = record {
    down = λ k d within. goes_more ways.Down _ (sound.down k d within);
    up = λ k d within. goes_more ways.Up _ (sound.up k d within);
    sending = omega (arith, sound.sending, applied);
    posting = omega (arith, sound.posting, no_fewer);
  }

module _ (w : World) (c : ℕ) (sound : IsSound w) where
  -- a centre that has applied no less in the place of one, and that keeps its items
  sound_with_centre : (centre : Centre) → (centre_at w c).applied ≤ centre.applied → centre.applied ≤ length w.update.records
      → KeepsItems (calls_at w c) centre.calls → IsSoundCalls centre.calls → IsSound (with_centre w c centre)
  sound_with_centre centre more within kept calls = record {
    law = record {
      run = sound.law.run;
      one_place = sound.law.one_place;
      numbered = sound.law.numbered;
      kept = sound.law.kept;
      prefixes = set_at (λ k centre. centre.applied ≤ length w.update.records) w.centres c centre new_centre sound.law.prefixes within;
      taken = set_at (λ k centre. taken_items w.update.records k ≡ take (taken_of w.update.records k) centre.calls.items) w.centres c centre
          new_centre sound.law.taken
          (taken_of_more w.update.records c (calls_at w c).items kept.0 centre.calls.items (sound.law.taken c) kept.1);
    };
    next = sound.next;
    records = sound.records;
    frames = sound.frames;
    links = set_at (λ k centre. IsSoundLink w.update.records k centre (link_at w k)) w.centres c centre new_centre sound.links
        (link_more w.update.records [] w.update.records (sym (append-nil w.update.records)) c (centre_at w c) centre more kept.0 kept.1
        (link_at w c) (sound.links c));
    calls = set_at (λ k centre. IsSoundCalls centre.calls) w.centres c centre new_centre sound.calls calls;
  }

  -- other sound calls at a centre, which keep its items
  pub sound_with_calls : (calls : Calls) → KeepsItems (calls_at w c) calls → IsSoundCalls calls → IsSound (with_calls w c calls)
  sound_with_calls calls kept here =
      sound_with_centre (record (centre_at w c) { calls = calls }) (omega arith) (sound.law.prefixes c) kept here

  -- another sound link in the place of one
  sound_with_link : (link : Link) → IsSoundLink w.update.records c (centre_at w c) link → IsSound (with_link w c link)
  sound_with_link link here = record {
    law = sound.law;
    next = sound.next;
    records = sound.records;
    frames = sound.frames;
    links = set_at (λ k link. IsSoundLink w.update.records k (centre_at w k) link) w.links c link new_link sound.links here;
    calls = sound.calls;
  }

-- ---- an edit that is stored

-- what is kept in a list is kept in a longer one
kept_longer : (edits more : List Record) (receipt : Receipt) → MatchesReceipt edits receipt → MatchesReceipt (edits ++ more) receipt
kept_longer edits more receipt kept = record {
  edit = kept.edit;
  there = get_prefix edits more receipt.place kept.edit kept.there;
  by = kept.by;
  numbered = kept.numbered;
}

-- each record still follows those before it in a list with one more that follows them all
follows_push : (Follows : List Record → Record → Type 0) (edits : List Record) (edit : Record) → EachFollows Follows edits
    → Follows edits edit
    → EachFollows Follows (edits ++ edit ∷ [])
follows_push Follows edits edit each follows place found is =
    elim (get_push edits edit place found is) [
      | inl before ↦
          let within : place ≤ length edits = omega (arith, slice_get_within edits place found before) in
          subst (λ (prefix : List Record). Follows prefix found) (sym (take-append-le place edits (edit ∷ []) within))
          (each place found before)
      | inr here ↦
          let prefix : take place (edits ++ edit ∷ []) ≡ edits = ap (λ (n : ℕ). take n (edits ++ edit ∷ [])) here.0
          ∙ take-append_seam edits (edit ∷ []) in
          subst (λ (last : Record). Follows (take place (edits ++ edit ∷ [])) last) here.1
          (subst (λ (prefix : List Record). Follows prefix edit) (sym prefix) follows)
    ]

-- numbers of which neither is below the other are one
neither_below : (a b : ℕ) → (a < b → ⊥) → (b < a → ⊥) → a ≡ b
neither_below a b below above = grind (arith, nat_tests, below, above)

-- in a list with numbers in order an editor and a number have one place
one_place : (edits : List Record) → HasNumbersInOrder edits → HasOnePlaceEach edits
one_place edits numbered editor number one other here there =
    neither_below one other (λ less. earlier one other here there less) (λ less. earlier other one there here less)
  where
    counted : (place : ℕ) → StandsAt edits editor number place → number ≡ count_by (is_edit_of editor) (take place edits) + 1
    counted place s =
        let same : Some number ≡ Some (count_by (is_edit_of editor) (take place edits) + 1) = sym s.numbered
        ∙ numbered place s.edit s.there editor s.by in
        cc

    earlier : (a b : ℕ) → StandsAt edits editor number a → StandsAt edits editor number b → a < b → ⊥
    earlier a b s t less =
        let more = count_by-grows (is_edit_of editor) edits a b s.edit s.there s.by less in
        omega (arith, counted a s, counted b t, more)

module _ (limits : Limits) (edits : List Record) (edit : Record) (follows : MayFollow limits edits edit)
    (sound : (e : ℕ) → next_number edits e ≡ count_by (is_edit_of e) edits + 1) where
  -- the edit has its editor's next number
  numbered_next : (e : ℕ) → is_edit_of e edit ≡ true → number_in edit ≡ Some (next_number edits e)
  numbered_next = next-judged limits edits follows.judged.0 edit follows.judged.1 follows.judged.2

  -- that is one more than how many edits he has
  next_of_editor : IsNextOfEditor edits edit
  next_of_editor e his = numbered_next e his ∙ ap Some (sound e)

  -- an editor's next number stays one more than how many edits he has
  next_push : (e : ℕ) → next_number (edits ++ edit ∷ []) e ≡ count_by (is_edit_of e) (edits ++ edit ∷ []) + 1
  next_push e = by (is_edit_of e edit) refl
    where
      more : count_by (is_edit_of e) (edits ++ edit ∷ []) ≡ count_by (is_edit_of e) edits + one_if (is_edit_of e edit)
      more = sum_by_push (λ x. cond (is_edit_of e x) 1 0) edits edit

      by : (his : Bool) → is_edit_of e edit ≡ his → next_number (edits ++ edit ∷ []) e ≡ count_by (is_edit_of e) (edits ++ edit ∷ []) + 1
      by true his =
          let last = ap (λ (l : Option (ℕ × ℕ)). option_map_or (λ (p : ℕ × ℕ). p.0) l 0 + 1)
          (last_edit-his edits edit e (next_number edits e) his (numbered_next e his)) in
          omega (arith, last, more, ap one_if his, sound e)
      by false his =
          let last = ap (λ (l : Option (ℕ × ℕ)). option_map_or (λ (p : ℕ × ℕ). p.0) l 0 + 1) (last_edit-others edits edit e his) in
          omega (arith, last, more, ap one_if his, sound e)

-- a sound world stays sound with a record that may follow, and that takes up no item of a centre or its next one
sound_stored : (w : World) (edit : Record) → IsSound w → MayFollow w.update.limits w.update.records edit
    → ((c : ℕ) → TakesNext w.update.records c (calls_at w c).items edit) → IsSound (with_edit w (Some edit))
sound_stored w edit sound follows next =
    let edits = w.update.records in
    let limits = w.update.limits in
    let longer = edits ++ edit ∷ [] in
    let numbered : HasNumbersInOrder longer = follows_push IsNextOfEditor edits edit sound.law.numbered
    (next_of_editor limits edits edit follows sound.next) in
    let room = has_room-judged limits edits follows.judged.0 edit follows.judged.1 follows.judged.2 in
    record {
      law = record {
        run = follows_push (MayFollow limits) edits edit sound.law.run follows;
        one_place = one_place longer numbered;
        numbered = numbered;
        kept = λ k d within. kept_longer edits (edit ∷ []) _ (sound.law.kept k d within);
        prefixes = λ c. omega (arith, sound.law.prefixes c, length-append edits (edit ∷ []));
        taken = λ c. taken_push edits c (calls_at w c).items (sound.law.taken c) edit (next c);
      };
      next = next_push limits edits edit follows sound.next;
      records = omega (arith, follows.record_room, length-append edits (edit ∷ []));
      frames = frames_within limits edits edit sound.frames room;
      links = λ c. link_more edits (edit ∷ []) longer refl c (centre_at w c) (centre_at w c) (omega arith) []
          (sym (append-nil (calls_at w c).items)) (link_at w c) (sound.links c);
      calls = sound.calls;
    }

-- so it does with the record that the Update Centre stores for a request, if that is such a record
sound_recorded : (w : World) (request : UdcRequest) → IsSound w
    → ((edit : Record) (reply : UdcReply) → judge w.update.limits w.update.records request ≡ Store edit reply
    → (c : ℕ) → TakesNext w.update.records c (calls_at w c).items edit)
    → IsSound (with_edit w (verdict_of w.update request).stored)
sound_recorded w request sound next = by (judge w.update.limits w.update.records request) refl
  where
    full : (edit : Record) (reply : UdcReply) → judge w.update.limits w.update.records request ≡ Store edit reply
        → (is_full : Bool) → leb w.update.limits.records (length w.update.records) ≡ is_full
        → IsSound (with_edit w (cond {A = Verdict} is_full (record { stored = None; reply = Refused FULL (length w.update.records) })
        (record { stored = Some edit; reply = editor_view reply })).stored)
    full edit reply is true how = sound
    full edit reply is false how =
        sound_stored w edit sound
        (record { judged = (request, reply, is); record_room = leb-false w.update.limits.records (length w.update.records) how })
        (next edit reply is)

    by : (decision : Decision Record UdcReply) → judge w.update.limits w.update.records request ≡ decision
        → IsSound (with_edit w (verdict_by w.update decision).stored)
    by (Answer reply) is = sound
    by (Store edit reply) is = full edit reply is (leb w.update.limits.records (length w.update.records)) refl

-- a sound world stays sound with the receipt of an edit that stands at its place
sound_receipt : (w : World) (editor q place : ℕ) → IsSound w → StandsAt w.update.records editor q place
    → IsSound (with_receipt w editor q (Stored place))
sound_receipt w editor q place sound stands = record {
  law = record {
    run = sound.law.run;
    one_place = sound.law.one_place;
    numbered = sound.law.numbered;
    kept = All-push (MatchesReceipt w.update.records) w.receipts _ sound.law.kept stands;
    prefixes = sound.law.prefixes;
    taken = sound.law.taken;
  };
  next = sound.next;
  records = sound.records;
  frames = sound.frames;
  links = sound.links;
  calls = sound.calls;
}

-- ---- an editor's request

module _ (w : World) (editor q : ℕ) (wish : EditWish) (sound : IsSound w) where
  -- an edit that is answered at once is refused, or it is the last one again
  sound_answered : (reply : UdcReply) → IsAnswered w.update.limits w.update.records editor q wish reply
      → IsSound (with_receipt w editor q (editor_view reply))
  sound_answered (replies.Stored place) answered = absurd answered
  sound_answered (replies.Again place) answered =
      let last = last_edit-there w.update.records editor q place answered in
      sound_receipt w editor q place sound (record { edit = last.edit; there = last.there; by = last.his; numbered = last.numbered })
  sound_answered (replies.Refused code) answered = sound
  sound_answered (replies.Old count) answered = absurd answered
  sound_answered (replies.Early count) answered = absurd answered

  -- a sound world stays sound with the record of an edit, also without an acknowledgement
  sound_edited : IsSound (with_edit w (verdict_of w.update (Edit editor q wish)).stored)
  sound_edited = sound_recorded w (Edit editor q wish) sound
      (λ edit reply is c. edit_takes_none w.update.records c (calls_at w c).items editor edit
      (is_his w.update.limits w.update.records editor q wish edit reply is).his)

  -- a sound world stays sound whatever an editor asks for
  pub sound_request : IsSound (step_of_request w editor q wish).0
  sound_request = by (judge w.update.limits w.update.records (Edit editor q wish)) refl
    where
      full : (edit : Record) (reply : UdcReply) → judge w.update.limits w.update.records (Edit editor q wish) ≡ Store edit reply
          → (is_full : Bool) → leb w.update.limits.records (length w.update.records) ≡ is_full
          → IsSound (with_verdict w editor q (cond is_full (record { stored = None; reply = Refused FULL (length w.update.records) })
          (record { stored = Some edit; reply = editor_view reply })))
      full edit reply is true how = sound
      full edit reply is false how =
          let edits = w.update.records in
          let his = is_his w.update.limits edits editor q wish edit reply is in
          let follows : MayFollow w.update.limits edits edit =
          record { judged = (Edit editor q wish, reply, is); record_room = leb-false w.update.limits.records (length edits) how } in
          let stands : StandsAt (edits ++ edit ∷ []) editor q (length edits) =
          record { edit = edit; there = get_last edits edit; by = his.his; numbered = his.numbered } in
          subst (λ (r : UdcReply). IsSound (with_receipt (with_edit w (Some edit)) editor q (editor_view r))) (sym his.reply_is)
          (sound_receipt (with_edit w (Some edit)) editor q (length edits) (sound_stored w edit sound follows
          (λ c. edit_takes_none edits c (calls_at w c).items editor edit his.his)) stands)

      by : (decision : Decision Record UdcReply) → judge w.update.limits w.update.records (Edit editor q wish) ≡ decision
          → IsSound (with_verdict w editor q (verdict_by w.update decision))
      by (Answer reply) is = sound_answered reply (is_answered w.update.limits w.update.records editor q wish reply is)
      by (Store edit reply) is = full edit reply is (leb w.update.limits.records (length w.update.records)) refl

-- ---- edit

-- a sound world stays sound with another seat
pub sound_seat : (w : World) (port : ℕ) (seat : EditorSeat) → IsSound w → IsSound (with_seat w port seat)
sound_seat w port seat sound = record {
  law = sound.law;
  next = sound.next;
  records = sound.records;
  frames = sound.frames;
  links =
      sound.links;
  calls = sound.calls;
}

-- a sound world stays sound whatever an editor says
sound_edit : (w : World) (port : ℕ) (said : Option EditLine) → IsSound w → IsSound (step_of_edit w port said).0
sound_edit w port said sound = by (step_of_line w port said).1
  where
    next : IsSound (step_of_line w port said).0
    next = sound_seat w port _ sound

    by : (step : EditStep) → IsSound (step_of_said (step_of_line w port said).0 port step).0
    by (steps.Say text) = next
    by (steps.Ask editor q wish) = sound_request (step_of_line w port said).0 editor q wish next
    by (steps.Responses editor from) = next
    by steps.Close = sound_seat (step_of_line w port said).0 port new_seat next

-- ---- a link

-- an end that gives a number has heard no more
heard_after : (end : SendingEnd) (front : ℕ) → (end_after end front).acknowledged ≡ end.acknowledged
heard_after end front = by (ltb end.acknowledged front)
  where
    by : (test : Bool) → (cond test (record end { next = number_due end front + 1 }) end).acknowledged ≡ end.acknowledged
    by true = refl
    by false = refl

-- what an end heard of is no more than this if both were
heard_within : (end : SendingEnd) (front count most : ℕ) → end.acknowledged ≤ most → count ≤ most
    → (end_that_heard end count front).acknowledged ≤ most
heard_within end front count most old new = by (ltb end.acknowledged count && leb count front)
  where
    by : (test : Bool) → (cond test (record end { acknowledged = count }) end).acknowledged ≤ most
    by true = new
    by false = old

module _ (edits : List Record) (c : ℕ) (centre : Centre) where
  -- what was received of a way
  abbrev most : Way → ℕ
  most ways.Down = centre.applied
  most ways.Up = taken_of edits c

  -- a link is sound with one more genuine packet
  link_with_packet : (way : Way) (packet : Packet) (link : Link) → GoesAlong edits c centre way packet → IsSoundLink edits c centre link
      → IsSoundLink edits c centre (with_packet way link packet)
  link_with_packet ways.Down packet link goes sound = record {
    down = All-push (GoesAlong edits c centre ways.Down) link.down packet sound.down goes;
    up = sound.up;
    sending = sound.sending;
    posting = sound.posting;
  }
  link_with_packet ways.Up packet link goes sound = record {
    down = sound.down;
    up = All-push (GoesAlong edits c centre ways.Up) link.up packet sound.up goes;
    sending = sound.sending;
    posting = sound.posting;
  }

  -- and with another end that heard of no more than was received
  pub link_with_end : (way : Way) (end : SendingEnd) (link : Link) → end.acknowledged ≤ most way → IsSoundLink edits c centre link
      → IsSoundLink edits c centre (with_end way link end)
  link_with_end ways.Down end link heard sound =
      record { down = sound.down; up = sound.up; sending = heard; posting = sound.posting }
  link_with_end ways.Up end link heard sound =
      record { down = sound.down; up = sound.up; sending = sound.sending; posting = heard }

  -- its own end heard of no more
  end_within : (way : Way) (link : Link) → IsSoundLink edits c centre link → (end_on way link).acknowledged ≤ most way
  end_within ways.Down link sound = sound.sending
  end_within ways.Up link sound = sound.posting

  -- what went a way is genuine
  went : (way : Way) (link : Link) → IsSoundLink edits c centre link → All (GoesAlong edits c centre way) (packets_on way link)
  went ways.Down link sound = sound.down
  went ways.Up link sound = sound.up

-- ---- send, post

module _ (w : World) (c : ℕ) (sound : IsSound w) where
  -- what was received of a way in the world
  most_received : (way : Way) → most w.update.records c (centre_at w c) way ≡ received_count way w c
  most_received ways.Down = refl
  most_received ways.Up = refl

  -- what is packed is genuine
  packed_genuine : (way : Way) (number : ℕ) (packet : Packet) → packet_for way w c number ≡ Some packet
      → GoesAlong w.update.records c (centre_at w c) way packet
  packed_genuine ways.Down number packet is = by (slice_get w.update.records number) refl is
    where
      by : (found : Option Record) → slice_get w.update.records number ≡ found → option_map (record_packet c number) found ≡ Some packet
          → GoesAlong w.update.records c (centre_at w c) ways.Down packet
      by None there none = absurd cc
      by (Some edit) there same =
          let packed : record_packet c number edit ≡ packet = cc in
          subst (GoesAlong w.update.records c (centre_at w c) ways.Down) packed
          (record { way_is = refl; genuine = (refl, record { edit = edit; there = there; same = refl }) })
  packed_genuine ways.Up number packet is = by (slice_get (calls_at w c).items number) refl is
    where
      by : (found : Option Item) → slice_get (calls_at w c).items number ≡ found → option_map (Up c number) found ≡ Some packet
          → GoesAlong w.update.records c (centre_at w c) ways.Up packet
      by None there none = absurd cc
      by (Some item) there same =
          let packed : Up c number item ≡ packet = cc in
          subst (GoesAlong w.update.records c (centre_at w c) ways.Up) packed (record { way_is = refl; genuine = (refl, there) })

  -- a sound world stays sound with that packet on its way
  pub sound_packed : (way : Way) (number : ℕ) (packet : Packet) → packet_for way w c number ≡ Some packet
      → IsSound (with_link w c (with_sent way (link_at w c) (front_of way w c) packet))
  sound_packed way number packet is =
      let edits = w.update.records in
      let centre = centre_at w c in
      let link = with_packet way (link_at w c) packet in
      let here = link_with_packet edits c centre way packet (link_at w c) (packed_genuine way number packet is) (sound.links c) in
      sound_with_link w c sound _
      (link_with_end edits c centre way _ link
      (omega (arith, end_within edits c centre way link here, heard_after (end_on way link) (front_of way w c))) here)

  -- a sound world stays sound if the next packet is sent, or there is none
  pub sound_sending : (way : Way) → IsSound (step_of_sending way w c).0
  sound_sending way = choice IsSound (is_packets_full w.links) _ _ (λ _. sound) (λ _. numbered (next_number_on way w c))
    where
      pack : (number : ℕ) (found : Option Packet) → packet_for way w c number ≡ found
          → IsSound (step_of_packing way w c number found).0
      pack number None is = sound
      pack number (Some packet) is = sound_packed way number packet is

      numbered : (number : Option ℕ) → IsSound (step_of_number way w c number).0
      numbered None = sound
      numbered (Some number) = pack number (packet_for way w c number) refl

-- ---- deliver, back

-- what is taken is the next one, and there is room for it
pub taken_is_next : (received count limit number : ℕ) → arrival_of received count limit number ≡ arrivals.Taken → number ≡ received
taken_is_next received count limit number is = grind (arith, nat_tests)

pub taken_has_room : (received count limit number : ℕ) → arrival_of received count limit number ≡ arrivals.Taken → count < limit
taken_has_room received count limit number is = grind (arith, nat_tests)

module _ (w : World) (c : ℕ) (sound : IsSound w) where
  -- the acknowledgement of what was received is genuine
  ack_genuine : (way : Way) → GoesAlong w.update.records c (centre_at w c) (back_way way) (ack_packet way c (received_count way w c))
  ack_genuine ways.Down = record { way_is = refl; genuine = (refl, omega arith) }
  ack_genuine ways.Up = record { way_is = refl; genuine = (refl, omega arith) }

  -- a sound world stays sound with it on the way back
  pub sound_ack : (way : Way)
      → IsSound (with_link w c (with_packet (back_way way) (link_at w c) (ack_packet way c (received_count way w c))))
  sound_ack way =
      sound_with_link w c sound _
      (link_with_packet w.update.records c (centre_at w c) (back_way way) _ (link_at w c) (ack_genuine way) (sound.links c))

  sound_acknowledged : (way : Way) → IsSound (step_of_acknowledging way w c).0
  sound_acknowledged way = choice IsSound (is_packets_full w.links) _ _ (λ _. sound) (λ _. sound_ack way)

  sound_answer : (way : Way) (number : ℕ) (how : Arrival) → IsSound (step_of_answer way w c number how).0
  sound_answer way number arrivals.Taken = sound_acknowledged way
  sound_answer way number arrivals.Old = sound_acknowledged way
  sound_answer way number arrivals.Early = sound_acknowledged way
  sound_answer way number arrivals.Full = sound

  -- the record that comes next is one of the list's
  pub sound_applied : (number : ℕ) (edit : Record) → slice_get w.update.records number ≡ Some edit → number ≡ (centre_at w c).applied
      → IsSound (with_next_at w c)
  sound_applied number edit is next =
      sound_with_centre w c sound _ (omega arith) (omega (arith, slice_get_within w.update.records number edit is, next))
      (same_items (calls_at w c)) (sound.calls c)

  -- the item that comes next is one of the centre's
  pub sound_taken_up : (number : ℕ) (item : Item) → slice_get (calls_at w c).items number ≡ Some item
      → number ≡ taken_of w.update.records c → length w.update.records < w.update.limits.records → IsSound (with_item_of w c number item)
  sound_taken_up number item is next room =
      let edits = w.update.records in
      sound_stored w (record_of (TakeUp c number item)) sound
      (record {
        judged = (TakeUp c number item, replies.Stored (length edits), judges_next w.update.limits edits c number item next);
        record_room = room;
      })
      (λ k. item_takes_next edits c k number item (λ n. (calls_at w n).items) is next)

  -- so is the record of an item, if it is stored
  sound_item : (from number : ℕ) (item : Item) → IsGenuine w.update.records c (centre_at w c) (Up from number item)
      → IsSound (with_edit w (verdict_of w.update (TakeUp c number item)).stored)
  sound_item from number item is = sound_recorded w (TakeUp c number item) sound (λ edit reply stored k.
      let next = judged_next w.update.limits w.update.records c number item edit reply stored in
      subst (λ (e : Record). TakesNext w.update.records k (calls_at w k).items e) next.1
      (item_takes_next w.update.records c k number item (λ n. (calls_at w n).items) is.1 next.0))

  -- what arrives is taken if it comes next
  pub sound_after_record : (from number : ℕ) (rec : DownRecord) → IsGenuine w.update.records c (centre_at w c) (Down from number rec)
      → (how : Arrival) → arrival_on ways.Down w c number ≡ how → IsSound (world_after w (with_next_at w c) how)
  sound_after_record from number rec is arrivals.Taken how = sound_applied number is.1.edit is.1.there
      (taken_is_next (received_count ways.Down w c) (receiver_count ways.Down w c) w.update.limits.records number how)
  sound_after_record from number rec is arrivals.Old how = sound
  sound_after_record from number rec is arrivals.Early how = sound
  sound_after_record from number rec is arrivals.Full how = sound

  pub sound_after_item : (from number : ℕ) (item : Item) → IsGenuine w.update.records c (centre_at w c) (Up from number item)
      → (how : Arrival) → arrival_on ways.Up w c number ≡ how → IsSound (world_after w (with_item_of w c number item) how)
  sound_after_item from number item is arrivals.Taken how = sound_taken_up number item is.1
      (taken_is_next (received_count ways.Up w c) (receiver_count ways.Up w c) w.update.limits.records number how)
      (taken_has_room (received_count ways.Up w c) (receiver_count ways.Up w c) w.update.limits.records number how)
  sound_after_item from number item is arrivals.Old how = sound
  sound_after_item from number item is arrivals.Early how = sound
  sound_after_item from number item is arrivals.Full how = sound

  -- an end hears of no more than was received
  pub sound_hearing : (way : Way) (count : ℕ) → count ≤ received_count way w c → IsSound (step_of_hearing way w c count).0
  sound_hearing way count few =
      let edits = w.update.records in
      let centre = centre_at w c in
      let end = end_on way (link_at w c) in
      let least = most_received w c sound way in
      sound_with_link w c sound _
      (link_with_end edits c centre way _ (link_at w c)
      (heard_within end (front_of way w c) count (most edits c centre way)
      (end_within edits c centre way (link_at w c) (sound.links c)) (omega (arith, few, least))) (sound.links c))

module _ (w : World) (c : ℕ) (sound : IsSound w) where
  -- a sound world stays sound whatever genuine packet arrives
  sound_packet : (packet : Packet) → IsGenuine w.update.records c (centre_at w c) packet → IsSound (step_of_packet w c packet).0
  sound_packet (Down from number rec) is =
      let how = arrival_on ways.Down w c number in
      sound_answer (world_after w (with_next_at w c) how) c (sound_after_record w c sound from number rec is how refl) ways.Down number how
  sound_packet (Up from number item) is =
      let how = arrival_on ways.Up w c number in
      sound_answer (world_after w (with_item_of w c number item) how) c (sound_after_item w c sound from number item is how refl) ways.Up
      number how
  sound_packet (DownHeard from count) is = sound_hearing w c sound ways.Down count is.1
  sound_packet (UpHeard from count) is = sound_hearing w c sound ways.Up count is.1

  -- whatever packet of a way is there is genuine
  pub there_genuine : (way : Way) (index : ℕ) (packet : Packet) → slice_get (packets_on way (link_at w c)) index ≡ Some packet
      → IsGenuine w.update.records c (centre_at w c) packet
  there_genuine way index packet is =
      let edits = w.update.records in
      let goes = all_get (GoesAlong edits c (centre_at w c) way) (packets_on way (link_at w c)) index packet
      (went edits c (centre_at w c) way (link_at w c) (sound.links c)) is in
      goes.genuine

  -- so a sound world stays sound whatever packet arrives
  pub sound_arriving : (way : Way) (index : ℕ) → IsSound (step_of_arriving way w c index).0
  sound_arriving way index = by (slice_get (packets_on way (link_at w c)) index) refl
    where
      by : (found : Option Packet) → slice_get (packets_on way (link_at w c)) index ≡ found → IsSound (step_of_found w c found).0
      by None is = sound
      by (Some packet) is = sound_packet packet (there_genuine way index packet is)

-- ---- carry

-- a sound world stays sound if an acknowledgement is heard
sound_ack_back : (way : Way) (w : World) (c : ℕ) (ack : Option ℕ) → IsSound w → IsSound (with_ack_back way w c ack)
sound_ack_back way w c None sound = sound
sound_ack_back way w c (Some index) sound = sound_arriving w c sound (back_way way) index

-- a sound world stays sound after a round
pub sound_round : (way : Way) (w : World) (c : ℕ) → IsSound w → IsSound (step_of_round way w c).0
sound_round way w c sound = sent (step_of_sending way w c).0 (step_of_sending way w c).1 _ (sound_sending w c sound way)
  where
    sent : (v : World) (outcome : Outcome) (packet : Option ℕ) → IsSound v → IsSound (round_of_send way v c outcome packet).0
    sent v outcome None next = next
    sent v outcome (Some index) next = sound_ack_back way (step_of_arriving way v c index).0 c _ (sound_arriving v c next way index)

-- what comes after a round leaves a sound world sound if more rounds do
sound_after_round : (more : World → Way → Load → World × Outcome)
    → ((v : World) (way : Way) (load : Load) → IsSound v → IsSound (more v way load).0)
    → (w : World) (way : Way) (load : Load) (round : Round) → IsSound w → IsSound (after_round more w way load round).0
sound_after_round more keeps w way load rounds.Taken sound = keeps w way (with_one way load) sound
sound_after_round more keeps w way load rounds.Again sound = keeps w way load sound
sound_after_round more keeps w way load (rounds.Stopped outcome) sound = sound

-- so does a round on the next way with what comes after it; without a next way nothing changes
sound_rounds_on : (more : World → Way → Load → World × Outcome)
    → ((v : World) (way : Way) (load : Load) → IsSound v → IsSound (more v way load).0)
    → (w : World) (c : ℕ) (load : Load) (next : Option Way) → IsSound w → IsSound (rounds_on more w c load next).0
sound_rounds_on more keeps w c load None sound = sound
sound_rounds_on more keeps w c load (Some way) sound =
    sound_after_round more keeps (step_of_round way w c).0 way load (step_of_round way w c).1 (sound_round way w c sound)

-- a sound world stays sound however many rounds there are
pub sound_rounds : (more c : ℕ) (w : World) (way : Way) (load : Load) → IsSound w → IsSound (carry_rounds more c w way load).0
unfolding carry_rounds
sound_rounds zero c w way load sound = sound
sound_rounds (suc more) c w way load sound =
    sound_rounds_on (carry_rounds more c) (sound_rounds more c) w c load (way_on way w c) sound

-- ---- calls

-- a sound world stays sound whatever was shown and stopped
pub sound_told : (w : World) (shown : List BillLine) (stopped : List StoppedCall) → IsSound w
    → IsSound (record w { shown = shown; stopped = stopped })
sound_told w shown stopped sound = record {
  law = sound.law;
  next = sound.next;
  records = sound.records;
  frames = sound.frames;
  links = sound.links;
  calls = sound.calls;
}

module _ (w : World) (c port : ℕ) (sound : IsSound w) where
  pub sound_dial : IsSound (step_of_dial w c port).0
  sound_dial = sound_with_calls w c sound _ (dial_items (calls_at w c) port (call_at w c port))
      (dial_sound (calls_at w c) port (sound.calls c) (call_at w c port))

  pub sound_hang : IsSound (step_of_hang w c port).0
  sound_hang = sound_told _ _ _ (sound_with_calls w c sound _ (hang_items (calls_at w c) port (call_at w c port))
      (hang_sound (calls_at w c) port (sound.calls c) (call_at w c port)))

  pub sound_press : (key : ℕ) (entry : Option Entry) → IsSound (step_of_press w c port key entry).0
  sound_press key entry =
      sound_with_calls w c sound _ (press_items (calls_at w c) port key (view_at w c port) w.moment entry (call_at w c port))
      (press_sound (calls_at w c) port (sound.calls c) key (view_at w c port) w.moment entry (call_at w c port) refl)

  pub sound_store : IsSound (step_of_store w c port).0
  sound_store = sound_with_calls w c sound _ (store_items (calls_at w c) port _ (call_at w c port))
      (store_sound (calls_at w c) port (sound.calls c) _ (call_at w c port) refl)

  pub sound_show : IsSound (step_of_show w c port).0
  sound_show = sound_told _ _ _ (sound_with_calls w c sound _ (show_items (calls_at w c) port (call_at w c port))
      (show_sound (calls_at w c) port (sound.calls c) (call_at w c port) refl))

-- ---- keys

-- a sound world stays sound with a key and the payment of what it owes
pub sound_key : (w : World) (c port : ℕ) (key : KeyedByte) → IsSound w → IsSound (step_of_key w c port key).0
sound_key w c port key sound = choice IsSound (is_owes (step_of_press w c port key.byte key.entry).1) _ _ (λ _. paid) (λ _. pressed)
  where
    pressed : IsSound (step_of_press w c port key.byte key.entry).0
    pressed = sound_press w c port sound key.byte key.entry

    stored : IsSound (step_of_store (step_of_press w c port key.byte key.entry).0 c port).0
    stored = sound_store (step_of_press w c port key.byte key.entry).0 c port pressed

    paid : IsSound (step_of_payment (step_of_press w c port key.byte key.entry).0 c port).0
    paid = choice IsSound (is_storing (step_of_store (step_of_press w c port key.byte key.entry).0 c port).1) _ _
        (λ _. sound_show (step_of_store (step_of_press w c port key.byte key.entry).0 c port).0 c port stored) (λ _. stored)

-- a sound world stays sound however many keys there are
sound_keys_from : (w : World) (c port : ℕ) (keys : List KeyedByte) → IsSound w → IsSound (keys_from w c port keys).0
sound_keys_from w c port [] sound = sound
sound_keys_from w c port (key ∷ keys) sound =
    by (is_over (step_of_key w c port key).1) (sound_keys_from (step_of_key w c port key).0 c port keys (sound_key w c port key sound))
  where
    by : (over : Bool) → IsSound (keys_from (step_of_key w c port key).0 c port keys).0
        → IsSound (cond {A = World × List Turn} over ((step_of_key w c port key).0, screens_in (step_of_key w c port key).1) (
          (keys_from (step_of_key w c port key).0 c port keys).0,
          screens_in (step_of_key w c port key).1 ++
              (keys_from (step_of_key w c port key).0 c port keys).1,
        )).0
    by true rest = sound_key w c port key sound
    by false rest = rest

sound_keys : (w : World) (c port : ℕ) (keys : List KeyedByte) (refusal : Option Outcome) → IsSound w
    → IsSound (step_of_taken_keys w c port keys refusal).0
sound_keys w c port keys (Some refusal) sound = sound
sound_keys w c port keys None sound = sound_keys_from w c port keys sound

-- ---- crash

-- among copies of an element and after them, that element stands for each place
pub copy_at : {X : Type 0} (x : X) (n c : ℕ) → get_or (replicate n x) c x ≡ x
copy_at x zero c = refl
copy_at x (suc n) zero = refl
copy_at x (suc n) (suc c) = copy_at x n c

-- nobody calls, so that no serial is at a port
pub without_calls_sound : (calls : Calls) → IsSoundCalls (without_calls calls)
without_calls_sound calls = record {
  ports = refl;
  below = λ port serial is. absurd (no_serial port serial is);
  differ = λ port other serial is there. absurd (no_serial port serial is);
  replies = λ port. rw (copy_at {X = Option Call} None PORTS port) tt;
}
  where
    no_serial : (port serial : ℕ) → serial_in (without_calls calls) port ≡ Some serial → ⊥
    no_serial port serial is = let none = ap (λ (call : Option Call). call >>= serial_of)
        (copy_at {X = Option Call} None PORTS port) in absurd cc

-- a new end has heard of nothing
renewed : (edits : List Record) (c : ℕ) (centre : Centre) (way : Way) (link : Link) → IsSoundLink edits c centre link
    → IsSoundLink edits c centre (with_new_end way link)
renewed edits c centre way link sound = link_with_end edits c centre way new_end link (omega arith) sound

-- a sound world stays sound with a new end of a centre
pub sound_renewed : (w : World) (c : ℕ) → IsSound w → IsSound (with_link w c (with_new_end ways.Up (link_at w c)))
sound_renewed w c sound =
    sound_with_link w c sound _ (renewed w.update.records c (centre_at w c) ways.Up (link_at w c) (sound.links c))

-- and without its calls
pub sound_lost_calls : (w : World) (c : ℕ) → IsSound w → IsSound (step_of_lost_calls w c).0
sound_lost_calls w c sound =
    sound_told _ _ _ (sound_with_calls w c sound _ (same_items (calls_at w c)) (without_calls_sound (calls_at w c)))

sound_centre_crash : (w : World) (c : ℕ) → IsSound w → IsSound (step_of_centre_crash w c).0
sound_centre_crash w c sound = sound_lost_calls (with_link w c (with_new_end ways.Up (link_at w c))) c (sound_renewed w c sound)

-- a sound world stays sound with new seats and ends
pub sound_update_crash : (w : World) → IsSound w → IsSound (step_of_update_crash w).0
sound_update_crash w sound = record {
  law = sound.law;
  next = sound.next;
  records = sound.records;
  frames = sound.frames;
  links = λ c. subst (λ (link : Link). IsSoundLink w.update.records c (centre_at w c) link)
      (sym (get_or-map (with_new_end ways.Down) w.links c new_link))
      (renewed w.update.records c (centre_at w c) ways.Down (link_at w c) (sound.links c));
  calls = sound.calls;
}

-- a sound world stays sound whichever node crashes
sound_crash : (w : World) (node : NodeName) → IsSound w → IsSound (step_of_crash w node).0
sound_crash w nodes.Udc sound = sound_update_crash w sound
sound_crash w (nodes.Centre c) sound = sound_centre_crash w c sound

-- ---- cut

-- a sound world stays sound with what a request stores; no request stores nothing
sound_asked : (w : World) (request : Option UdcRequest) → IsSound w
    → IfSome request (λ asked. IsSound (with_edit w (verdict_of w.update asked).stored))
    → IsSound (with_edit w (stored_for w.update request))
sound_asked w None sound is = sound
sound_asked w (Some asked) sound is = is

-- a sound world stays sound with the record that the Update Centre stores for a command
pub sound_update : (w : World) (command : Storing) (said : Option EditLine) → IsSound w
    → IsSound (with_edit w (stored_for w.update (update_request w command said)))
sound_update w (commands.Seed name row) said sound =
    sound_edited w OPERATOR (next_number w.update.records OPERATOR) (Put name (seeded_frame row)) sound
sound_update w (commands.Edit port line) said sound =
    sound_asked w (request_in (step_of_line w port said).1) sound (by (step_of_line w port said).1)
  where
    by : (step : EditStep) → IfSome (request_in step) (λ asked. IsSound (with_edit w (verdict_of w.update asked).stored))
    by (steps.Say text) = tt
    by (steps.Ask editor q wish) = sound_edited w editor q wish sound
    by (steps.Responses editor from) = tt
    by steps.Close = tt
sound_update w (commands.Store centre port) said sound = sound
sound_update w (commands.Deliver centre index) said sound = sound
sound_update w (commands.Back centre index) said sound =
    sound_asked w (slice_get (packets_on ways.Up (link_at w centre)) index >>= item_request centre) sound
    (by (slice_get (packets_on ways.Up (link_at w centre)) index) refl)
  where
    of_packet : (packet : Packet) → IsGenuine w.update.records centre (centre_at w centre) packet
        → IfSome (item_request centre packet) (λ asked. IsSound (with_edit w (verdict_of w.update asked).stored))
    of_packet (Down from number rec) is = tt
    of_packet (Up from number item) is = sound_item w centre sound from number item is
    of_packet (DownHeard from count) is = tt
    of_packet (UpHeard from count) is = tt

    by : (found : Option Packet) → slice_get (packets_on ways.Up (link_at w centre)) index ≡ found
        → IfSome (found >>= item_request centre) (λ asked. IsSound (with_edit w (verdict_of w.update asked).stored))
    by None is = tt
    by (Some packet) is = of_packet packet (there_genuine w centre sound ways.Up index packet is)

-- if a world with what is stored is sound, so is the world that has the record
sound_if_recorded : (w : World) (stored : Option Record) → IsSound (with_edit w stored) → IfSome (recorded_world w stored) IsSound
sound_if_recorded w None sound = tt
sound_if_recorded w (Some edit) sound = sound

-- so is the world with what a command stores
pub sound_stored_world : (w : World) (command : Storing) (said : Option EditLine) → IsSound w → IfSome (stored_world w command said) IsSound
sound_stored_world w (commands.Seed name row) said sound = sound_if_recorded w _ (sound_update w (commands.Seed name row) said sound)
sound_stored_world w (commands.Edit port line) said sound = sound_if_recorded w _ (sound_update w (commands.Edit port line) said sound)
sound_stored_world w (commands.Back centre index) said sound =
    sound_if_recorded w _ (sound_update w (commands.Back centre index) said sound)
sound_stored_world w (commands.Store centre port) said sound = by (wish_of (call_at w centre port))
  where
    if_stored : (test : Bool) → IfSome (cond test (Some (step_of_store w centre port).0) None) IsSound
    if_stored true = sound_store w centre port sound
    if_stored false = tt

    by : (wish : Option Wish) → IfSome (wish >>= wished_world w centre port) IsSound
    by None = tt
    by (Some wish) = if_stored (is_stored_for (holdings_at w centre) wish)
sound_stored_world w (commands.Deliver centre index) said sound = by (slice_get (packets_on ways.Down (link_at w centre)) index) refl
  where
    taken : (from number : ℕ) (rec : DownRecord) → IsGenuine w.update.records centre (centre_at w centre) (Down from number rec)
        → (how : Arrival) → arrival_on ways.Down w centre number ≡ how → IfSome (taken_world w centre how) IsSound
    taken from number rec is arrivals.Taken how = sound_after_record w centre sound from number rec is arrivals.Taken how
    taken from number rec is arrivals.Old how = tt
    taken from number rec is arrivals.Early how = tt
    taken from number rec is arrivals.Full how = tt

    of_packet : (packet : Packet) → IsGenuine w.update.records centre (centre_at w centre) packet
        → IfSome (applied_world w centre packet) IsSound
    of_packet (Down from number rec) is = taken from number rec is (arrival_on ways.Down w centre number) refl
    of_packet (Up from number item) is = tt
    of_packet (DownHeard from count) is = tt
    of_packet (UpHeard from count) is = tt

    by : (found : Option Packet) → slice_get (packets_on ways.Down (link_at w centre)) index ≡ found
        → IfSome (found >>= applied_world w centre) IsSound
    by None is = tt
    by (Some packet) is = of_packet packet (there_genuine w centre sound ways.Down index packet is)

-- a sound world stays sound if a node is lost within a command, whether it has the record or not
sound_cut : (w : World) (command : Storing) (kept : Bool) (said : Option EditLine) → IsSound w → IsSound (step_of_cut w command kept said).0
sound_cut w command kept said sound = by (stored_world w command said) (sound_stored_world w command said sound) kept
  where
    by : (stored : Option World) → IfSome stored IsSound → (kept : Bool) → IsSound (step_of_stop w (node_of command) stored kept).0
    by None is kept = sound_crash w (node_of command) sound
    by (Some v) is true = sound_crash v (node_of command) is
    by (Some v) is false = sound_crash w (node_of command) sound

-- ---- clock

-- a sound world stays sound at another moment
pub sound_clock : (w : World) (moment : ℕ) → IsSound w → IsSound (record w { moment = moment })
sound_clock w moment sound = record {
  law = sound.law;
  next = sound.next;
  records = sound.records;
  frames = sound.frames;
  links = sound.links;
  calls = sound.calls;
}

-- ---- all

-- a sound world stays sound whatever event happens, whatever is open in it
pub sound_happens : (w : World) (event : Event) (choice : Choice) → IsSound w → IsSound (happens w event choice).0
sound_happens w (events.Seed name row) choice sound =
    sound_request w OPERATOR (next_number w.update.records OPERATOR) (Put name (seeded_frame row)) sound
sound_happens w (events.Edit port line) choice sound = sound_edit w port choice.said sound
sound_happens w (events.Dial centre port) choice sound = sound_dial w centre port sound
sound_happens w (events.Press centre port key) choice sound = sound_press w centre port sound key (first_entry choice.keyed)
sound_happens w (events.Keys centre port keys) choice sound =
    sound_keys w centre port choice.keyed (keys_refusal (call_at w centre port)) sound
sound_happens w (events.Store centre port) choice sound = sound_store w centre port sound
sound_happens w (events.Show centre port) choice sound = sound_show w centre port sound
sound_happens w (events.Hang centre port) choice sound = sound_hang w centre port sound
sound_happens w (events.Send centre) choice sound = sound_sending w centre sound ways.Down
sound_happens w (events.Post centre) choice sound = sound_sending w centre sound ways.Up
sound_happens w (events.Deliver centre index) choice sound = sound_arriving w centre sound ways.Down index
sound_happens w (events.Back centre index) choice sound = sound_arriving w centre sound ways.Up index
sound_happens w (events.Carry centre) choice sound = sound_rounds (packet_room w.links + 1) centre w ways.Down no_load sound
sound_happens w (events.Crash node) choice sound = sound_crash w node sound
sound_happens w (events.Cut calls image command) choice sound = sound_cut w command choice.kept choice.said sound
sound_happens w (events.Clock moment) choice sound = sound_clock w moment sound
sound_happens w (events.View centre name) choice sound = sound
sound_happens w (events.At centre) choice sound = sound
sound_happens w events.List choice sound = sound
sound_happens w (events.Bill account) choice sound = sound
sound_happens w (events.Lines centre) choice sound = sound

-- a sound world stays sound however many events happen
pub sound_after : (w : World) (events : List (Event × Choice)) → IsSound w → IsSound (after w events)
sound_after w [] sound = sound
sound_after w (event ∷ events) sound = sound_after (happens w event.0 event.1).0 events (sound_happens w event.0 event.1 sound)

-- the start is sound
pub sound_start : (centres : ℕ) (limits : Limits) → IsSound (start centres limits)
sound_start centres limits = record {
  law = record {
    run = λ place edit is. absurd cc;
    one_place = λ editor number one other here there. let none = here.there in absurd cc;
    numbered = λ place edit is. absurd cc;
    kept = λ k d none. absurd (omega (arith, none));
    prefixes = λ c. omega (arith, ap (λ (centre : Centre). centre.applied) (copy_at new_centre centres c));
    taken = λ c. refl;
  };
  next = λ editor. refl;
  records = omega arith;
  frames = omega (arith, frame_count-none);
  links = λ c. rw (copy_at new_centre centres c, copy_at new_link centres c) (sound_new [] c);
  calls = λ c. rw (copy_at new_centre centres c) (without_calls_sound no_calls);
}
