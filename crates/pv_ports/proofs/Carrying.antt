-- What a round carries that goes to its end, and that it is stored.
use Rattle.std.proofs.Common.{◌≡◌, inl, inr, ℕ, zero, suc, ◌+◌, ◌<◌, ◌≤◌, Bool, true, false, List, [], ◌∷◌, length, All, Option, Some, None, Result, Ok, Err, if◌then◌else◌, refl, ap, sym, ◌∙◌, subst, arith}
use Rattle.std.specs.Prelude.{IfSome, IsTrue, MatchResult, option_map, option_to_list, slice_get, take, nat_lt, unwrap_or}
use Rattle.std.specs.List.{cons_option}
use Rattle.std.proofs.lemmas.Bool.{ltb-true, ltb-false}
use Rattle.std.proofs.lemmas.List.Elements.{All-nil, All-cons, All-weaker, filter_map-append}
use mathlib.Core.List.{IsPrefix}
use denote.Param.{number}
use Rattle.pv_fields.specs.Reading.{◌>>=◌}
use Rattle.pv_outside.specs.Counts.{one_more}
use Rattle.pv_outside.specs.declared.failed.Failed.{Failed}
use Rattle.pv_outside.specs.declared.limits.Limits.{Limits}
use Rattle.pv_outside.specs.declared.link.Link as links
use Rattle.pv_node.specs.declared.decision.Told.{Told}
use Rattle.pv_post.specs.declared.item.Item.{Item}
use Rattle.pv_edits.specs.Edits.{taken_of}
use Rattle.pv_edits.specs.Room.{has_room}
use Rattle.pv_edits.specs.declared.down.DownRecord.{DownRecord}
use Rattle.pv_edits.specs.declared.down.DownRecord.TheVariants.{Whole, Blank}
use Rattle.pv_edits.specs.declared.record.Record.{Record}
use Rattle.pv_history.proofs.CallerLemmas.{prefix_self, prefix_trans, prefix_whole}
use Rattle.pv_irc.specs.Deciding.{down_fits}
use Rattle.pv_irc.specs.History.{CentreState, applied_in, applied_records, applied_of, items_of, whole_records, centre_state_of}
use Rattle.pv_irc.specs.contracts.rules.IrcRulesRules.TheImpl as irc
use Rattle.pv_irc.specs.declared.record.CentreRecord.{CentreRecord}
use Rattle.pv_irc.specs.declared.reply.IrcReply.{IrcReply}
use Rattle.pv_link.specs.Sending.{SendingEnd, number_due, number_to_give}
use Rattle.pv_live.specs.Entries.{with_opening}
use Rattle.pv_live.specs.Pass.{Standing}
use Rattle.pv_live.specs.declared.entry.Entry.{Entry}
use Rattle.pv_packet.specs.Packet.{IsPacket, packet_bytes}
use Rattle.pv_packet.specs.Reading.{packet_of_bytes}
use Rattle.pv_packet.specs.declared.packet.Packet.{Packet}
use Rattle.pv_packet.specs.declared.packet.Packet.TheVariants.{Down, Up, DownHeard, UpHeard}
use Rattle.pv_udc.specs.Replies.{down_of}
use Rattle.pv_udc.specs.contracts.rules.UdcRulesRules.TheImpl as udc
use Rattle.pv_udc.specs.declared.reply.UdcReply.{UdcReply}
use Rattle.pv_ports.specs.Cargo.{Arrival, Cargo, WentThrough, acknowledgements, MayAnswer, GivesEach, HandsOutPacket, HandsOutNone, TakesUpToTwo, GoesThroughLinks, CountsCargo, count_after, IsBroughtDown, IsBroughtUp, HasBrought}
use Rattle.pv_ports.specs.Parcels.{down_packet, up_packet}
use Rattle.pv_ports.specs.Rights.{GoesDown, GoesUp}
use Rattle.pv_ports.specs.Round.{CarrierState, Round, Stop, Gave, Took, InTurn, UpToTwo, ReceivesNext, GivesTo, GivesDown, GivesUp, HandlesDown, HandlesUp, HandlesTaken, ReceivesDown, ReceivesUp, IsReadAs, AnswersRecord, AnswersItem, AppliesRecord, TakesItemUp, Receives, CarriesUp, Carries, IsRound, applied_by, taken_by, trip_after_take, came_by, stop_in, end_of_trip}
use Rattle.pv_ports.specs.Session.{AskFault}
use Rattle.pv_ports.specs.declared.round_end.RoundEnd.TheVariants as stops
use Rattle.pv_ports.specs.declared.trip.Trip.{Trip}
use Rattle.pv_ports.proofs.Causing.{Comes, Fails, stages}
use Rattle.pv_ports.proofs.Ending.{none_past, due_below}
use Rattle.pv_ports.proofs.Growing.{with_prefix, down_grows, up_grows, applied_grows, taken_grows}
use Rattle.pv_ports.proofs.Judging.{applied_answer, taken_answer}
use Rattle.pv_ports.proofs.Righting.{weaker_if, came_right}
use Rattle.pv_ports.proofs.Walking.{carried}

-- ---- a record that came is applied

module _ (C : ℕ) (limits : Limits) (opening : List CentreRecord) where
  -- if no more is applied, the same is
  same_applied : (one other : List (Entry CentreRecord)) → IsPrefix one other
      → applied_of (with_opening opening other) ≤ applied_of (with_opening opening one)
      → applied_records (with_opening opening one) ≡ applied_records (with_opening opening other)
  same_applied one other prefix most =
      let more = with_prefix opening one other prefix in
      prefix_whole (applied_records (with_opening opening one)) (applied_records (with_opening opening other)) (
        applied_records more.0,
        sym (filter_map-append applied_in (with_opening opening one) more.0) ∙ ap applied_records more.1,
      ) most

  -- and then there is room for the same
  same_room : (rec : DownRecord) (one other : List CentreRecord) → applied_records one ≡ applied_records other
      → down_fits (centre_state_of C limits one) rec ≡ down_fits (centre_state_of C limits other) rec
  same_room (Whole edit) one other same = ap (λ (downs : List DownRecord). has_room limits (whole_records downs) edit) same
  same_room Blank one other same = refl

  -- what is brought while a pass has seen this much is brought from earlier to later
  record_brought : (packet : Packet) (before at after : List (Entry CentreRecord)) → IsPrefix before at → IsPrefix at after
      → IsBroughtDown C limits (with_opening opening at) (with_opening opening at) packet
      → IsBroughtDown C limits (with_opening opening before) (with_opening opening after) packet
  record_brought (Down centre n rec) before at after early late is = λ due room.
      by due room (nat_lt (applied_of (with_opening opening before)) (applied_of (with_opening opening at))) refl
    where
      by : n ≤ applied_of (with_opening opening before) → IsTrue (down_fits (centre_state_of C limits (with_opening opening before)) rec)
          → (b : Bool) → nat_lt (applied_of (with_opening opening before)) (applied_of (with_opening opening at)) ≡ b
          → n < applied_of (with_opening opening after)
      by due room true more = omega (arith, due, ltb-true _ _ more, applied_grows opening at after late)
      by due room false more =
          let most = ltb-false (applied_of (with_opening opening before)) (applied_of (with_opening opening at)) more in
          let same = same_room rec (with_opening opening before) (with_opening opening at) (same_applied before at early most) in
          omega (arith, is (omega (arith, due, applied_grows opening before at early)) (sym same ∙ room), applied_grows opening at after late)
  record_brought (Up centre number item) before at after early late is = tt
  record_brought (DownHeard centre count) before at after early late is = tt
  record_brought (UpHeard centre count) before at after early late is = tt

-- an item that came is taken up
item_brought : (C : ℕ) (opening : List Record) (packet : Packet) (before at after : List (Entry Record)) → IsPrefix before at
    → IsPrefix at after → IsBroughtUp C (with_opening opening at) (with_opening opening at) packet
    → IsBroughtUp C (with_opening opening before) (with_opening opening after) packet
item_brought C opening (Up centre number item) before at after early late is = λ due.
    omega (arith, is (omega (arith, due, taken_grows C opening before at early)), taken_grows C opening at after late)
item_brought C opening (Down centre n rec) before at after early late is = tt
item_brought C opening (DownHeard centre count) before at after early late is = tt
item_brought C opening (UpHeard centre count) before at after early late is = tt

-- ---- a link

module _ {L : Type 0} (k : links.Ghosts L) where
  -- one packet or none is given, and then others
  gives_then : (one : Option Packet) (more : List Packet) (a b c : L) → GivesEach k (option_to_list one) a b → GivesEach k more b c
      → GivesEach k (cons_option one more) a c
  gives_then None more a b c first later = subst (λ (l : L). GivesEach k more l c) first later
  gives_then (Some packet) more a b c first later = (first.0, first.1, first.2, subst (λ (l : L). GivesEach k more l c) first.3 later)

  -- a give that does not stop the round
  given : (packet : Option Packet) (old new : L) (trip after : Trip) (stop : Option Stop) → stop ≡ None
      → GivesTo k packet old trip new after stop → GivesEach k (option_to_list packet) old new
  given None old new trip after stop none is = is.0
  given (Some packet) old new trip after stop none is = by is.1 is.2 is.3
    where
      by : (result : Result (Unit {0}) Failed) → Gave k (packet_bytes packet) old new result
          → MatchResult result (λ _. (after ≡ record trip { moved = true }) × (stop ≡ None))
          (λ _. (after ≡ trip) × (stop ≡ Some stops.LinkFault)) → GivesEach k (packet ∷ []) old new
      by (Ok _) gave goes = (new, is.0, gave, refl)
      by (Err fault) gave goes = let fails = goes.1 in absurd cc

  -- a packet came, and was handled without a stop
  one_taken : (C : ℕ) (Handles : Option Packet → Round L → Round L → Option Stop → Type 0) (into : List ℕ)
      (result : Result (Option ℕ) Failed) (taken new : Round L) → HandlesTaken k C Handles into result taken new (Ok true)
      → (n : ℕ) × (packet : Option Packet) × (result ≡ Ok (Some n)) × IsReadAs C (take n into) packet × Handles packet taken new None
  one_taken C Handles into (Ok (Some n)) taken new is =
      (n, is.0, refl, is.2, subst (λ (s : Option Stop). Handles is.0 taken new s) (no_stop is.1 is.4) is.3)
    where
      no_stop : (stop : Option Stop) → Ok true ≡ came_by stop → stop ≡ None
      no_stop None came = refl
      no_stop (Some why) came = absurd cc
  one_taken C Handles into (Ok None) taken new is = let no = is.1 in absurd cc
  one_taken C Handles into (Err fault) taken new is = let no = is.1 in absurd cc

  -- none came
  none_taken : (C : ℕ) (Handles : Option Packet → Round L → Round L → Option Stop → Type 0) (into : List ℕ)
      (result : Result (Option ℕ) Failed) (taken new : Round L) → HandlesTaken k C Handles into result taken new (Ok false)
      → (result ≡ Ok None) × (new ≡ taken)
  none_taken C Handles into (Ok (Some n)) taken new is = absurd (no_stop is.1 is.4)
    where
      no_stop : (stop : Option Stop) → Ok false ≡ came_by stop → ⊥
      no_stop None came = absurd cc
      no_stop (Some why) came = absurd cc
  none_taken C Handles into (Ok None) taken new is = (refl, is.0)
  none_taken C Handles into (Err fault) taken new is = let no = is.1 in absurd cc

-- ---- up to two packets

module _ {L : Type 0} (k : links.Ghosts L) (C : ℕ) (from to : Round L → L) (Grows : Round L → Round L → Type 0)
    (At : Arrival → Round L → Type 0) where
  -- one packet came and was handled
  pub record CameOne (old new : Round L) : Type 0 where
    pub came : Arrival
    pub takes : HandsOutPacket k C came.packet (from old) (from new)
    pub gives : GivesEach k (option_to_list came.answer) (to old) (to new)
    pub at : At came new
    pub grows : Grows old new

  -- none came
  pub record CameNone (old new : Round L) : Type 0 where
    pub takes : HandsOutNone k (from old) (from new)
    pub gives : to new ≡ to old
    pub grows : Grows old new

  -- it was handled in between
  abbrev pub Between : Round L → Round L → Arrival → Type 0
  Between old new came = (mid : Round L) × Grows old mid × At came mid × Grows mid new

  -- these came
  pub record CameSome (old new : Round L) : Type 0 where
    pub came : List Arrival
    pub takes : TakesUpToTwo k C came (from old) (from new)
    pub gives : GivesEach k (acknowledgements came) (to old) (to new)
    pub between : All (Between old new) came
    pub grows : Grows old new

  -- a packet came that was taken into these bytes, with this answer
  came_with : (packet answer : Option Packet) (into : List ℕ) (n : ℕ) (old new : Round L) (link : L)
      → Took k into (from old) link (Ok (Some n)) → IsReadAs C (take n into) packet → from new ≡ link
      → GivesEach k (option_to_list answer) (to old) (to new) → At (record { packet = packet; answer = answer }) new → Grows old new
      → CameOne old new
  came_with packet answer into n old new link took read same gives at grows = record {
    came = record { packet = packet; answer = answer };
    takes = (into, n, subst (λ (l : L). Took k into (from old) l (Ok (Some n))) (sym same) took, read);
    gives = gives;
    at = at;
    grows = grows;
  }

module _ {L : Type 0} (k : links.Ghosts L) (C : ℕ) (from to : Round L → L) (Grows : Round L → Round L → Type 0)
    (At : Arrival → Round L → Type 0) (stays : (a : Round L) → Grows a a)
    (later : (a b c : Round L) → Grows a b → Grows b c → Grows a c) where
  abbrev One : Round L → Round L → Type 0
  One old new = CameOne k C from to Grows At old new

  abbrev No : Round L → Round L → Type 0
  No old new = CameNone k C from to Grows At old new

  abbrev Some_ : Round L → Round L → Type 0
  Some_ old new = CameSome k C from to Grows At old new

  abbrev Midway : Round L → Round L → Arrival → Type 0
  Midway old new came = Between k C from to Grows At old new came

  came_two : (old mid new : Round L) → One old mid → One mid new → Some_ old new
  came_two old mid new one other = record {
    came = one.came ∷ other.came ∷ [];
    takes = (from mid, one.takes, other.takes);
    gives = gives_then k one.came.answer (acknowledgements (other.came ∷ [])) (to old) (to mid) (to new) one.gives
        (gives_then k other.came.answer [] (to mid) (to new) (to new) other.gives refl);
    between = All-cons (Midway old new) one.came (other.came ∷ []) (mid, one.grows, one.at, other.grows)
        (All-cons (Midway old new) other.came [] (new, later old mid new one.grows other.grows, other.at, stays new)
        (All-nil (Midway old new)));
    grows = later old mid new one.grows other.grows;
  }

  came_one : (old mid new : Round L) → One old mid → No mid new → Some_ old new
  came_one old mid new one none = record {
    came = one.came ∷ [];
    takes = (from mid, one.takes, none.takes);
    gives = gives_then k one.came.answer [] (to old) (to mid) (to new) one.gives none.gives;
    between = All-cons (Midway old new) one.came [] (mid, one.grows, one.at, none.grows) (All-nil (Midway old new));
    grows = later old mid new one.grows none.grows;
  }

  came_none : (old new : Round L) → No old new → Some_ old new
  came_none old new none =
      record { came = []; takes = none.takes; gives = none.gives; between = All-nil (Midway old new); grows = none.grows }

  pub up_to_two : (Receives : Round L → Round L → Result Bool Stop → Type 0)
      → ((old new : Round L) → Receives old new (Ok true) → One old new)
      → ((old new : Round L) → Receives old new (Ok false) → No old new)
      → (old new : Round L) (stop : Option Stop) → stop ≡ None → UpToTwo Receives old new stop → Some_ old new
  up_to_two Receives one none old new stop goes is = next is.1 is.2 is.3
    where
      second : (came : Result Bool Stop) → One old is.0 → Receives is.0 new came → stop ≡ stop_in came → Some_ old new
      second (Ok true) first receives same = came_two old is.0 new first (one is.0 new receives)
      second (Ok false) first receives same = came_one old is.0 new first (none is.0 new receives)
      second (Err why) first receives same = absurd cc

      next : (came : Result Bool Stop) → Receives old is.0 came → ReceivesNext Receives came is.0 new stop → Some_ old new
      next (Ok true) first other = second other.0 (one old is.0 first) other.1 other.2
      next (Ok false) first other = subst (Some_ old) (sym other.0) (came_none old is.0 (none old is.0 first))
      next (Err why) first other = let no = other.1 in absurd cc

  -- What is taken is handled: `after` is the round with what was taken.
  module _ (after : Round L → L → Trip → Round L) (Handles : Option Packet → Round L → Round L → Option Stop → Type 0)
      (taken : (old : Round L) (link : L) (trip : Trip)
      → (from (after old link trip) ≡ link) × (to (after old link trip) ≡ to old) × Grows old (after old link trip))
      (handled : (packet : Option Packet) (into : List ℕ) (n : ℕ) (old new : Round L) (link : L) (trip : Trip)
      → Took k into (from old) link (Ok (Some n)) → IsReadAs C (take n into) packet → Handles packet (after old link trip) new None
      → One old new) where
    abbrev Receives_ : Round L → Round L → Result Bool Stop → Type 0
    Receives_ old new came =
        (link : L) × (into : List ℕ) × (result : Result (Option ℕ) Failed) × Took k into (from old) link result
        × HandlesTaken k C Handles into result (after old link (trip_after_take result old.trip)) new came

    pub came_some : (old new : Round L) → UpToTwo Receives_ old new None → Some_ old new
    came_some old new is = up_to_two Receives_ one none old new None refl is
      where
        one : (old new : Round L) → Receives_ old new (Ok true) → One old new
        one old new is =
            let took = one_taken k C Handles is.1 is.2 (after old is.0 (trip_after_take is.2 old.trip)) new is.4 in
            handled took.1 is.1 took.0 old new is.0 (trip_after_take is.2 old.trip)
            (subst (λ (r : Result (Option ℕ) Failed). Took k is.1 (from old) is.0 r) took.2 is.3) took.3 took.4

        none : (old new : Round L) → Receives_ old new (Ok false) → No old new
        none old new is =
            let at = taken old is.0 (trip_after_take is.2 old.trip) in
            let took = none_taken k C Handles is.1 is.2 (after old is.0 (trip_after_take is.2 old.trip)) new is.4 in
            record {
              takes = (
                is.1,
                subst (λ (l : L). Took k is.1 (from old) l (Ok None)) (sym (ap from took.1 ∙ at.0))
                    (subst (λ (r : Result (Option ℕ) Failed). Took k is.1 (from old) is.0 r) took.0 is.3),
              );
              gives = ap to took.1 ∙ at.1;
              grows = subst (λ (r : Round L). Grows old r) (sym took.1) at.2;
            }

-- ---- counts

-- one number more, and then another
count_on : (m n count : ℕ) → count_after (m + n) count ≡ count_after n (count_after m count)
count_on zero n count = let none : zero + n ≡ n = omega arith in ap (λ all. count_after all count) none
count_on (suc m) n count =
    let more : suc m + n ≡ suc (m + n) = omega arith in ap (λ all. count_after all count) more ∙ count_on m n (one_more count)

module _ {L : Type 0} (k : links.Ghosts L) where
  gives_count : (packets : List Packet) (old new : L) → GivesEach k packets old new
      → (k.given new ≡ count_after (length packets) (k.given old)) × (k.taken new ≡ k.taken old)
  gives_count [] old new is = (ap k.given is, ap k.taken is)
  gives_count (packet ∷ later) old new is =
      let rest = gives_count later is.0 new is.3 in
      (rest.0 ∙ ap (λ n. count_after (length later) n) is.2.given, rest.1 ∙ is.2.taken)

  takes_count : (C : ℕ) (came : List Arrival) (old new : L) → TakesUpToTwo k C came old new
      → (k.taken new ≡ count_after (length came) (k.taken old)) × (k.given new ≡ k.given old)
  takes_count C [] old new is = (is.1.taken, is.1.given)
  takes_count C (one ∷ []) old new is = (is.2.1.taken ∙ is.1.2.taken, is.2.1.given ∙ is.1.2.given)
  takes_count C (one ∷ other ∷ []) old new is = (is.2.2.taken ∙ ap one_more is.1.2.taken, is.2.2.given ∙ is.1.2.given)
  takes_count C (one ∷ other ∷ more ∷ later) old new is = absurd is

-- of a list there is a packet to give if there is a number
as_many : {X P : Type 0} (f : ℕ → X → P) (xs : List X) (end : SendingEnd)
    → length (option_to_list (number_to_give end (length xs) >>= λ n. option_map (f n) (slice_get xs n)))
    ≡ length (option_to_list (number_to_give end (length xs)))
as_many {X} {P} f xs end = by (nat_lt end.acknowledged (length xs)) refl
  where
    some : (n : ℕ) (found : Option X) → slice_get xs n ≡ found → n < length xs → length (option_to_list (option_map (f n) found)) ≡ 1
    some n None is within = absurd (omega (arith, none_past xs n is, within))
    some n (Some x) is within = refl

    by : (b : Bool) → nat_lt end.acknowledged (length xs) ≡ b
        → length (option_to_list ((if b then Some (number_due end (length xs)) else None) >>= λ n. option_map (f n) (slice_get xs n)))
        ≡ length (option_to_list (if b then Some (number_due end (length xs)) else None))
    by true is =
        let due = number_due end (length xs) in
        some due (slice_get xs due) refl (due_below end (length xs) (ltb-true end.acknowledged (length xs) is))
    by false is = refl

module _ {L : Type 0} (k : links.Ghosts L) (centre_limits : Limits) (udc_opening : List Record) (centre_opening : List CentreRecord) (C : ℕ)
  where
    -- what the links go through, they count
    counted : (old : CarrierState) (old_down old_up : L) (cargo : Cargo) (new_down new_up : L)
        → GoesThroughLinks k centre_limits udc_opening centre_opening C old old_down old_up cargo new_down new_up
        → CountsCargo k centre_limits udc_opening centre_opening C old old_down old_up cargo new_down new_up
    counted old old_down old_up cargo new_down new_up is =
        let records = with_opening udc_opening cargo.udc.seen in
        let items = items_of (with_opening centre_opening cargo.centre.seen) in
        let down = is.down in
        let down_given = gives_count k _ old_down down.0 down.2 in
        let down_taken = takes_count k C cargo.down down.0 down.1 down.3 in
        let down_answered = gives_count k (acknowledgements cargo.up) down.1 new_down down.4 in
        let up = is.up in
        let up_given = gives_count k _ old_up up.0 up.2 in
        let up_answered = gives_count k (acknowledgements cargo.down) up.0 up.1 up.3 in
        let up_taken = takes_count k C cargo.up up.1 new_up up.4 in
        record {
          given_down =
              down_answered.0
              ∙ ap (λ n. count_after (length (acknowledgements cargo.up)) n) (down_taken.1 ∙ down_given.0
              ∙ ap (λ n. count_after n (k.given old_down)) (as_many (λ n rec. Down C n (down_of rec)) records old.sending))
              ∙ sym (count_on _ (length (acknowledgements cargo.up)) (k.given old_down));
          given_up =
              up_taken.1 ∙ up_answered.0
              ∙ ap (λ n. count_after (length (acknowledgements cargo.down)) n) (up_given.0
              ∙ ap (λ n. count_after n (k.given old_up)) (as_many (λ n item. Up C n item) items old.posting))
              ∙ sym (count_on _ (length (acknowledgements cargo.down)) (k.given old_up));
          taken_down = down_answered.1 ∙ down_taken.0 ∙ ap (λ n. count_after (length cargo.down) n) down_given.1;
          taken_up = up_taken.0 ∙ ap (λ n. count_after (length cargo.up) n) (up_answered.1 ∙ up_given.1);
        }

-- ---- the stages

module _ {L : Type 0} (k : links.Ghosts L) (udc_limits centre_limits : Limits) (udc_opening : List Record)
    (centre_opening : List CentreRecord) (C : ℕ) where
  -- both passes have seen what they had
  abbrev Grows : Round L → Round L → Type 0
  Grows old new = IsPrefix old.udc.seen new.udc.seen × IsPrefix old.centre.seen new.centre.seen

  grows_none : (old : Round L) → Grows old old
  grows_none old = (prefix_self old.udc.seen, prefix_self old.centre.seen)

  grows_later : (a b c : Round L) → Grows a b → Grows b c → Grows a c
  grows_later a b c one other = (
    prefix_trans a.udc.seen b.udc.seen c.udc.seen one.0 other.0,
    prefix_trans a.centre.seen b.centre.seen c.centre.seen one.1 other.1,
  )

  grows_to : (old new : Round L) (udc : Standing Record) (centre : Standing CentreRecord) → new.udc ≡ udc → new.centre ≡ centre
      → IsPrefix old.udc.seen udc.seen → IsPrefix old.centre.seen centre.seen → Grows old new
  grows_to old new udc centre same_udc same_centre one other = (
    subst (λ (p : Standing Record). IsPrefix old.udc.seen p.seen) (sym same_udc) one,
    subst (λ (p : Standing CentreRecord). IsPrefix old.centre.seen p.seen) (sym same_centre) other,
  )

  -- What came down may be answered so, no more is acknowledged than its centre has applied, and the packet is brought by that.
  abbrev IsDownAt : Arrival → List CentreRecord → Type 0
  IsDownAt came records =
      MayAnswer came.packet came.answer × IfSome came.answer (GoesUp records) × IfSome came.packet (IsBroughtDown C centre_limits records records)

  abbrev AtDown : Arrival → Round L → Type 0
  AtDown came round = IsDownAt came (with_opening centre_opening round.centre.seen)

  -- what came up may be answered so, no more is acknowledged than the Update Centre has taken, and the packet is brought by that
  abbrev IsUpAt : Arrival → List Record → Type 0
  IsUpAt came records =
      MayAnswer came.packet came.answer × IfSome came.answer (GoesDown records) × IfSome came.packet (IsBroughtUp C records records)

  abbrev AtUp : Arrival → Round L → Type 0
  AtUp came round = IsUpAt came (with_opening udc_opening round.udc.seen)

  abbrev OneDown : Round L → Round L → Type 0
  OneDown old new = CameOne k C (λ r. r.down) (λ r. r.up) Grows AtDown old new

  abbrev OneUp : Round L → Round L → Type 0
  OneUp old new = CameOne k C (λ r. r.up) (λ r. r.down) Grows AtUp old new

  -- a packet that is not answered
  silent_down : (packet : Option Packet) (into : List ℕ) (n : ℕ) (old new : Round L) (link : L) (trip : Trip)
      → Took k into old.down link (Ok (Some n)) → IsReadAs C (take n into) packet → new ≡ record old { down = link; trip = trip }
      → AtDown (record { packet = packet; answer = None }) new → OneDown old new
  silent_down packet into n old new link trip took read same at =
      came_with k C (λ r. r.down) (λ r. r.up) Grows AtDown packet None into n old new link took read (ap (λ (r : Round L). r.down) same)
      (ap (λ (r : Round L). r.up) same) at (subst (λ (r : Round L). Grows old r) (sym same) (grows_none old))

  silent_up : (packet : Option Packet) (into : List ℕ) (n : ℕ) (old new : Round L) (link : L) (trip : Trip)
      → Took k into old.up link (Ok (Some n)) → IsReadAs C (take n into) packet → new ≡ record old { up = link; trip = trip }
      → AtUp (record { packet = packet; answer = None }) new → OneUp old new
  silent_up packet into n old new link trip took read same at =
      came_with k C (λ r. r.up) (λ r. r.down) Grows AtUp packet None into n old new link took read (ap (λ (r : Round L). r.up) same)
      (ap (λ (r : Round L). r.down) same) at (subst (λ (r : Round L). Grows old r) (sym same) (grows_none old))

  -- what is acknowledged of records, and of items
  heard_down : (centre n : ℕ) (rec : DownRecord) (records : List CentreRecord) (count : Option ℕ) → centre ≡ C
      → IfSome count (λ m. m ≤ applied_of records)
      → MayAnswer (Some (Down centre n rec)) (option_map (DownHeard C) count) × IfSome (option_map (DownHeard C) count) (GoesUp records)
  heard_down centre n rec records None same most = (tt, tt)
  heard_down centre n rec records (Some count) same most = (sym same, most)

  heard_up : (centre number : ℕ) (item : Item) (records : List Record) (count : Option ℕ) → centre ≡ C
      → IfSome count (λ m. m ≤ taken_of records C)
      → MayAnswer (Some (Up centre number item)) (option_map (UpHeard C) count) × IfSome (option_map (UpHeard C) count) (GoesDown records)
  heard_up centre number item records None same most = (tt, tt)
  heard_up centre number item records (Some count) same most = (sym same, most)

  came_down : (packet : Option Packet) (into : List ℕ) (n : ℕ) (old new : Round L) (link : L) (trip : Trip)
      → Took k into old.down link (Ok (Some n)) → IsReadAs C (take n into) packet
      → HandlesDown (irc.ghosts (number C)) k centre_limits centre_opening C packet (record old { down = link; trip = trip }) new None
      → OneDown old new
  came_down (Some (Down centre n rec)) into size old new link trip took read is = by is.1 is.2 is.3
    where
      by : (result : Result (Told IrcReply) AskFault)
          → AppliesRecord (irc.ghosts (number C)) centre_limits centre_opening C n rec old.centre is.0 result
          → AnswersRecord (irc.ghosts (number C)) k centre_limits centre_opening C n result
          (record old { down = link; trip = trip; centre = is.0 }) new None
          → OneDown old new
      by (Ok told) applies answers =
          let pass = ap (λ (r : Round L). r.centre) answers.1 in
          let done = applied_answer C centre_limits centre_opening n rec old.centre is.0 told applies.asks.prefix applies.comes.0 in
          let heard = heard_down centre n rec (with_opening centre_opening is.0.seen) (applied_by n told.reply) read.2 done.heard in
          came_with k C (λ r. r.down) (λ r. r.up) Grows AtDown (Some (Down centre n rec)) (option_map (DownHeard C) (applied_by n told.reply))
          into size old new link took read (ap (λ (r : Round L). r.down) answers.1)
          (given k (option_map (DownHeard C) (applied_by n told.reply)) old.up new.up _ new.trip None refl answers.0)
          (subst (λ (p : Standing CentreRecord). IsDownAt (record {
            packet = Some (Down centre n rec);
            answer = option_map (DownHeard C) (applied_by n told.reply);
          }) (with_opening centre_opening p.seen)) (sym pass) (heard.0, heard.1, done.brought))
          (grows_to old new old.udc is.0 (ap (λ (r : Round L). r.udc) answers.1) pass (prefix_self old.udc.seen) applies.asks.prefix)
      by (Err fault) applies answers = let no = answers.1 in absurd cc
  came_down (Some (UpHeard centre count)) into size old new link trip took read is =
      silent_down (Some (UpHeard centre count)) into size old new link _ took read is.0 (tt, tt, tt)
  came_down (Some (Up centre number item)) into size old new link trip took read is =
      silent_down (Some (Up centre number item)) into size old new link _ took read is.0 (tt, tt, tt)
  came_down (Some (DownHeard centre count)) into size old new link trip took read is =
      silent_down (Some (DownHeard centre count)) into size old new link _ took read is.0 (tt, tt, tt)
  came_down None into size old new link trip took read is =
      silent_down None into size old new link _ took read is.0 (tt, tt, tt)

  came_up : (packet : Option Packet) (into : List ℕ) (n : ℕ) (old new : Round L) (link : L) (trip : Trip)
      → Took k into old.up link (Ok (Some n)) → IsReadAs C (take n into) packet
      → HandlesUp udc.ghosts k udc_limits udc_opening C packet (record old { up = link; trip = trip }) new None
      → OneUp old new
  came_up (Some (Up centre number item)) into size old new link trip took read is = by is.1 is.2 is.3
    where
      by : (result : Result (Told UdcReply) AskFault)
          → TakesItemUp udc.ghosts udc_limits udc_opening C number item old.udc is.0 result
          → AnswersItem udc.ghosts k udc_limits udc_opening C number result (record old { up = link; trip = trip; udc = is.0 }) new None
          → OneUp old new
      by (Ok told) takes answers =
          let pass = ap (λ (r : Round L). r.udc) answers.1 in
          let done = taken_answer C udc_limits udc_opening number item old.udc is.0 told takes.asks.prefix takes.comes.0 in
          let heard = heard_up centre number item (with_opening udc_opening is.0.seen) (taken_by number told.reply) read.2 done.heard in
          came_with k C (λ r. r.up) (λ r. r.down) Grows AtUp (Some (Up centre number item)) (option_map (UpHeard C) (taken_by number told.reply))
          into size old new link took read (ap (λ (r : Round L). r.up) answers.1)
          (given k (option_map (UpHeard C) (taken_by number told.reply)) old.down new.down _ new.trip None refl answers.0)
          (subst (λ (p : Standing Record). IsUpAt (record {
            packet = Some (Up centre number item);
            answer = option_map (UpHeard C) (taken_by number told.reply);
          }) (with_opening udc_opening p.seen)) (sym pass) (heard.0, heard.1, done.brought))
          (grows_to old new is.0 old.centre pass (ap (λ (r : Round L). r.centre) answers.1) takes.asks.prefix (prefix_self old.centre.seen))
      by (Err fault) takes answers = let no = answers.1 in absurd cc
  came_up (Some (DownHeard centre count)) into size old new link trip took read is =
      silent_up (Some (DownHeard centre count)) into size old new link _ took read is.0 (tt, tt, tt)
  came_up (Some (Down centre n rec)) into size old new link trip took read is =
      silent_up (Some (Down centre n rec)) into size old new link _ took read is.0 (tt, tt, tt)
  came_up (Some (UpHeard centre count)) into size old new link trip took read is =
      silent_up (Some (UpHeard centre count)) into size old new link _ took read is.0 (tt, tt, tt)
  came_up None into size old new link trip took read is =
      silent_up None into size old new link _ took read is.0 (tt, tt, tt)

  -- what comes down, and what comes up
  some_down : (old new : Round L) → UpToTwo (ReceivesDown (irc.ghosts (number C)) k centre_limits centre_opening C) old new None
      → CameSome k C (λ r. r.down) (λ r. r.up) Grows AtDown old new
  some_down =
      came_some k C (λ r. r.down) (λ r. r.up) Grows AtDown grows_none grows_later (λ old link trip. record old { down = link; trip = trip })
      (HandlesDown (irc.ghosts (number C)) k centre_limits centre_opening C) (λ old link trip. (refl, refl, grows_none old)) came_down

  some_up : (old new : Round L) → UpToTwo (ReceivesUp udc.ghosts k udc_limits udc_opening C) old new None
      → CameSome k C (λ r. r.up) (λ r. r.down) Grows AtUp old new
  some_up =
      came_some k C (λ r. r.up) (λ r. r.down) Grows AtUp grows_none grows_later (λ old link trip. record old { up = link; trip = trip })
      (HandlesUp udc.ghosts k udc_limits udc_opening C) (λ old link trip. (refl, refl, grows_none old)) came_up

  -- ---- the round

  -- one stage after another, without a stop
  in_turn : (First Second : Round L → Round L → Option Stop → Type 0) (old new : Round L) → InTurn First Second old new None
      → (mid : Round L) × First old mid None × Second mid new None
  in_turn First Second old new (inl is) = let no = is.2 in absurd cc
  in_turn First Second old new (inr is) = is

  -- a round that stopped did not go to its end
  no_end : (old new : Round L) (why : Stop) → Fails k udc_limits centre_limits udc_opening centre_opening C old new why → WentThrough why → ⊥
  no_end old new (stops.Moved records items) fails went = fails
  no_end old new stops.Idle fails went = fails
  no_end old new stops.LinkFault fails went = went
  no_end old new (stops.DiskFault failure) fails went = went
  no_end old new (stops.Full node count) fails went = went
  no_end old new (stops.Memory stored) fails went = went

  -- A round that goes to its end has carried what its links say, and what came is stored.
  pub has_carried : ((packet : Packet) → IsPacket packet → packet_of_bytes (packet_bytes packet) ≡ Some packet)
      → (old new : CarrierState) (old_down old_up new_down new_up : L) (end : Stop)
      → IsRound udc.ghosts (irc.ghosts (number C)) k udc_limits centre_limits udc_opening centre_opening C old old_down old_up new
      new_down new_up end
      → WentThrough end → HasBrought k centre_limits udc_opening centre_opening C old old_down old_up new new_down new_up
  has_carried reads old new old_down old_up new_down new_up end is went =
      rw (is.state, is.new_links.0, is.new_links.1, ← is.old_links.0, ← is.old_links.1)
      (by (subst (λ (s : Option Stop). Carries udc.ghosts (irc.ghosts (number C)) k udc_limits centre_limits udc_opening centre_opening C
      is.going_down is.going_up is.first is.last s)
      (none is.stop (carried k udc_limits centre_limits udc_opening centre_opening C is.going_down is.going_up
      (Comes k udc_limits centre_limits udc_opening centre_opening C)
      (stages k udc_limits centre_limits udc_opening centre_opening C is.going_down is.going_up) is.first is.last is.stop is.carries)
      is.ends) is.carries))
    where
      none : (stop : Option Stop) → Comes k udc_limits centre_limits udc_opening centre_opening C is.first is.last stop
          → end ≡ unwrap_or stop (end_of_trip is.last.trip) → stop ≡ None
      none None comes ends = refl
      none (Some why) comes ends = absurd (no_end is.first is.last why comes (subst WentThrough ends went))

      down_is : is.going_down
          ≡ down_packet C (with_opening udc_opening is.first.udc.seen)
          (number_to_give old.sending (length (with_opening udc_opening is.first.udc.seen)))
      down_is =
          is.looks_down.going_is
          ∙ ap (λ n. down_packet C is.looks_down.state.records (number_to_give old.sending n)) is.looks_down.count_is
          ∙ ap (λ (l : List Record). down_packet C l (number_to_give old.sending (length l))) is.looks_down.stands.stands

      up_is : is.going_up
          ≡ up_packet C (items_of (with_opening centre_opening is.first.centre.seen))
          (number_to_give old.posting (length (items_of (with_opening centre_opening is.first.centre.seen))))
      up_is =
          is.looks_up.going_is
          ∙ ap (λ n. up_packet C is.looks_up.state.items (number_to_give old.posting n)) is.looks_up.count_is
          ∙ ap (λ (l : List Item). up_packet C l (number_to_give old.posting (length l)))
          (ap (λ (s : CentreState). s.items) is.looks_up.stands.stands)

      by : Carries udc.ghosts (irc.ghosts (number C)) k udc_limits centre_limits udc_opening centre_opening C is.going_down is.going_up
          is.first is.last None
          → HasBrought k centre_limits udc_opening centre_opening C old is.first.down is.first.up
          (record { udc = is.last.udc; centre = is.last.centre; sending = is.last.trip.sending; posting = is.last.trip.posting })
          is.last.down is.last.up
      by carries =
          let first = is.first in
          let last = is.last in
          let a = in_turn (GivesDown k is.going_down) (CarriesUp udc.ghosts (irc.ghosts (number C)) k udc_limits centre_limits udc_opening
          centre_opening C is.going_up) first last carries in
          let b = in_turn (GivesUp k is.going_up) (Receives udc.ghosts (irc.ghosts (number C)) k udc_limits centre_limits udc_opening
          centre_opening C) a.0 last a.2 in
          let c = in_turn (UpToTwo (ReceivesDown (irc.ghosts (number C)) k centre_limits centre_opening C)) (UpToTwo (ReceivesUp udc.ghosts
          k udc_limits udc_opening C)) b.0 last b.2 in
          let down = some_down b.0 c.0 c.1 in
          let up = some_up c.0 last c.2 in
          let begun : Grows first b.0 =
          grows_to first b.0 first.udc first.centre (ap (λ (r : Round L). r.udc) b.1.1 ∙ ap (λ (r : Round L). r.udc) a.1.1)
          (ap (λ (r : Round L). r.centre) b.1.1 ∙ ap (λ (r : Round L). r.centre) a.1.1) (prefix_self first.udc.seen)
          (prefix_self first.centre.seen) in
          let seen = grows_later first b.0 last begun (grows_later b.0 c.0 last down.grows up.grows) in
          let cargo : Cargo = record { udc = first.udc; centre = first.centre; down = down.came; up = up.came } in
          let all_down : (P : Arrival → Type 0) → ((came : Arrival) → Between k C (λ r. r.down) (λ r. r.up) Grows AtDown b.0 c.0 came
          → P came) → All P down.came =
          λ P each. All-weaker (Between k C (λ r. r.down) (λ r. r.up) Grows AtDown b.0 c.0) P each down.came down.between in
          let all_up : (P : Arrival → Type 0) → ((came : Arrival) → Between k C (λ r. r.up) (λ r. r.down) Grows AtUp c.0 last came
          → P came) → All P up.came =
          λ P each. All-weaker (Between k C (λ r. r.up) (λ r. r.down) Grows AtUp c.0 last) P each up.came up.between in
          let went : GoesThroughLinks k centre_limits udc_opening centre_opening C old first.down first.up cargo last.down last.up = record {
            down = (
              b.0.down,
              c.0.down,
              subst (λ (l : L). GivesEach k (option_to_list (down_packet C (with_opening udc_opening first.udc.seen)
                  (number_to_give old.sending (length (with_opening udc_opening first.udc.seen))))) first.down l)
                  (sym (ap (λ (r : Round L). r.down) b.1.1))
                  (subst (λ (p : Option Packet). GivesEach k (option_to_list p) first.down a.0.down) down_is
                  (given k is.going_down first.down a.0.down first.trip a.0.trip None refl a.1.0)),
              down.takes,
              up.gives,
            );
            up = (
              b.0.up,
              c.0.up,
              subst (λ (l : L). GivesEach k (option_to_list (up_packet C (items_of (with_opening centre_opening first.centre.seen))
                  (number_to_give old.posting (length (items_of (with_opening centre_opening first.centre.seen)))))) l b.0.up)
                  (ap (λ (r : Round L). r.up) a.1.1)
                  (subst (λ (p : Option Packet). GivesEach k (option_to_list p) a.0.up b.0.up) up_is
                  (given k is.going_up a.0.up b.0.up a.0.trip b.0.trip None refl b.1.0)),
              down.gives,
              up.takes,
            );
            answered = (
              all_down (λ came. MayAnswer came.packet came.answer) (λ came between. between.2.0),
              all_up (λ came. MayAnswer came.packet came.answer) (λ came between. between.2.0),
            );
          } in
          let right_answers = all_down (λ came. IfSome came.answer (GoesUp (with_opening centre_opening last.centre.seen)))
          (λ came between. weaker_if came.answer (λ packet. up_grows packet centre_opening between.0.centre.seen last.centre.seen
          (grows_later between.0 c.0 last between.3 up.grows).1) between.2.1) in
          record {
            cargo = cargo;
            looks = (is.looks_down.looks, is.looks_up.looks);
            seen = seen;
            links = went;
            counts = counted k centre_limits udc_opening centre_opening C old first.down first.up cargo last.down last.up went;
            records = all_down (λ came. IfSome came.packet
                (IsBroughtDown C centre_limits (with_opening centre_opening old.centre.seen) (with_opening centre_opening last.centre.seen)))
                (λ came between.
                weaker_if came.packet (λ packet.
                record_brought C centre_limits centre_opening packet old.centre.seen between.0.centre.seen last.centre.seen
                (prefix_trans old.centre.seen first.centre.seen between.0.centre.seen is.looks_up.looks.prefix
                (grows_later first b.0 between.0 begun between.1).1)
                (grows_later between.0 c.0 last between.3 up.grows).1) between.2.2);
            items = all_up (λ came. IfSome came.packet
                (IsBroughtUp C (with_opening udc_opening old.udc.seen) (with_opening udc_opening last.udc.seen)))
                (λ came between.
                weaker_if came.packet (λ packet.
                item_brought C udc_opening packet old.udc.seen between.0.udc.seen last.udc.seen
                (prefix_trans old.udc.seen first.udc.seen between.0.udc.seen is.looks_down.looks.prefix
                (grows_later first c.0 between.0 (grows_later first b.0 c.0 begun down.grows) between.1).0)
                between.3.0) between.2.2);
            heard = (
              right_answers,
              all_up (λ came. IfSome came.answer (GoesDown (with_opening udc_opening last.udc.seen)))
                  (λ came between. weaker_if came.answer (λ packet. down_grows packet udc_opening between.0.udc.seen last.udc.seen
                  between.3.0) between.2.1),
            );
            asked = came_right k centre_limits udc_opening centre_opening C reads old (record {
              udc = last.udc;
              centre = last.centre;
              sending = last.trip.sending;
              posting = last.trip.posting;
            }) first.down first.up cargo last.down last.up (is.looks_down.looks.prefix, is.looks_up.looks.prefix) seen went right_answers;
          }
