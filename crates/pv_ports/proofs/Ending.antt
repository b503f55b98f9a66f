-- A round ends for a cause.
use Rattle.std.proofs.Common.{◌≡◌, inl, inr, ℕ, zero, suc, ◌+◌, ◌<◌, ◌≤◌, ◌&&◌, Bool, true, false, true≢false, List, [], ◌∷◌, length, Option, Some, None, Result, Ok, Err, if◌then◌else◌, refl, ap, sym, ◌∙◌, subst, arith}
use Rattle.std.specs.Prelude.{slice_get, option_map, unwrap_or, nat_lt, nat_le, MatchResult}
use Rattle.std.proofs.lemmas.Bool.{ltb-true, ltb-false, le-ltb}
use denote.Param.{number}
use Rattle.pv_fields.specs.Reading.{◌>>=◌}
use Rattle.pv_fields.proofs.CallerLemmas.{option_map-none_back}
use Rattle.pv_outside.specs.declared.failed.Failed.{Failed}
use Rattle.pv_outside.specs.declared.limits.Limits.{Limits}
use Rattle.pv_outside.specs.declared.link.Link as links
use Rattle.pv_post.specs.declared.item.Item.{Item}
use Rattle.pv_edits.specs.declared.record.Record.{Record}
use Rattle.pv_irc.specs.History.{CentreState, items_of}
use Rattle.pv_irc.specs.contracts.rules.IrcRulesRules.TheImpl as irc
use Rattle.pv_irc.specs.declared.record.CentreRecord.{CentreRecord}
use Rattle.pv_link.specs.Sending.{SendingEnd, number_due, number_to_give, end_after}
use Rattle.pv_live.specs.Entries.{with_opening}
use Rattle.pv_live.specs.Pass.{Standing}
use Rattle.pv_packet.specs.declared.packet.Packet.{Packet}
use Rattle.pv_packet.specs.declared.packet.Packet.TheVariants.{Down, Up}
use Rattle.pv_udc.specs.Replies.{down_of}
use Rattle.pv_udc.specs.contracts.rules.UdcRulesRules.TheImpl as udc
use Rattle.pv_ports.specs.Outcomes.{HasRoundCause}
use Rattle.pv_ports.specs.Round.{CarrierState, Round, Stop, InTurn, UpToTwo, GivesTo, GivesUp, ReceivesDown, ReceivesUp, Carries, IsRound, end_of_trip}
use Rattle.pv_ports.specs.Talk.{PassLooks}
use Rattle.pv_ports.specs.declared.round_end.RoundEnd.TheVariants as stops
use Rattle.pv_ports.specs.declared.trip.Trip.{Trip}
use Rattle.pv_ports.proofs.Causing.{Progress, Fails, Comes, kept_later, stages}
use Rattle.pv_ports.proofs.Walking.{EachStage, received, after_down, carried}

-- ---- an end that gives no number

-- nothing is at a place: the list is no longer
pub none_past : {X : Type 0} (xs : List X) (i : ℕ) → slice_get xs i ≡ None → length xs ≤ i
none_past [] i is = omega arith
none_past (x ∷ xs) zero is = absurd cc
none_past (x ∷ xs) (suc i) is = omega (arith, none_past xs i is)

-- the number that is due is below the count
pub due_below : (end : SendingEnd) (count : ℕ) → end.acknowledged < count → number_due end count < count
due_below end count within = by (nat_le end.acknowledged end.next) (nat_lt end.next count) refl
  where
    by : (a b : Bool) → nat_lt end.next count ≡ b → (if a && b then end.next else end.acknowledged) < count
    by true true is = ltb-true end.next count is
    by true false is = within
    by false b is = within

-- of a list with nothing to give all is acknowledged
all_heard : {X P : Type 0} (f : ℕ → X → P) (xs : List X) (end : SendingEnd)
    → (number_to_give end (length xs) >>= λ n. option_map (f n) (slice_get xs n)) ≡ None → length xs ≤ end.acknowledged
all_heard {X} {P} f xs end none = by (nat_lt end.acknowledged (length xs)) refl none
  where
    by : (b : Bool) → nat_lt end.acknowledged (length xs) ≡ b
        → ((if b then Some (number_due end (length xs)) else None) >>= λ n. option_map (f n) (slice_get xs n)) ≡ None
        → length xs ≤ end.acknowledged
    by true is none =
        let due = number_due end (length xs) in
        let past = none_past xs due (option_map-none_back (f due) (slice_get xs due) none) in
        absurd (omega (arith, past, due_below end (length xs) (ltb-true end.acknowledged (length xs) is)))
    by false is none = ltb-false end.acknowledged (length xs) is

-- and the end stays as it is
end_stays : (end : SendingEnd) (count : ℕ) → count ≤ end.acknowledged → end_after end count ≡ end
end_stays end count within =
    ap (λ (b : Bool). if b then record end { next = number_due end count + 1 } else end) (le-ltb end.acknowledged count within)

module _ {L : Type 0} (k : links.Ghosts L) (udc_limits centre_limits : Limits) (udc_opening : List Record)
    (centre_opening : List CentreRecord) (C : ℕ) where
  -- what stages come to
  abbrev Every : Round L → Round L → Option Stop → Type 0
  Every old new stop = Comes k udc_limits centre_limits udc_opening centre_opening C old new stop

  each : (going_down going_up : Option Packet)
      → EachStage k udc_limits centre_limits udc_opening centre_opening C going_down going_up Every
  each = stages k udc_limits centre_limits udc_opening centre_opening C

  -- ---- nothing was given

  no_fault : (stop : Option Stop) (why : Stop) → stop ≡ None → stop ≡ Some why → ⊥
  no_fault stop why none some = absurd cc

  none_given : (going : Option Packet) (old new : L) (trip after : Trip) → GivesTo k going old trip new after None → after.moved ≡ false
      → going ≡ None
  none_given None old new trip after is unmoved = refl
  none_given (Some packet) old new trip after is unmoved = by is.1 None refl is.3
    where
      by : (result : Result (Unit {0}) Failed) (stop : Option Stop) → stop ≡ None
          → MatchResult result (λ _. (after ≡ record trip { moved = true }) × (stop ≡ None))
          (λ _. (after ≡ trip) × (stop ≡ Some stops.LinkFault)) → Some packet ≡ None
      by (Ok _) stop none goes = absurd (true≢false (sym (ap (λ (t : Trip). t.moved) goes.0) ∙ unmoved))
      by (Err fault) stop none goes = absurd (no_fault stop stops.LinkFault none goes.1)

  nothing_up : (going : Option Packet) (old new : Round L)
      → InTurn (GivesUp k going) (InTurn (UpToTwo (ReceivesDown (irc.ghosts (number C)) k centre_limits centre_opening C))
      (UpToTwo (ReceivesUp udc.ghosts k udc_limits udc_opening C))) old new None → new.trip.moved ≡ false → going ≡ None
  nothing_up going old new (inl is) unmoved = let no = is.2 in absurd cc
  nothing_up going old new (inr is) unmoved =
      let rest = received k udc_limits centre_limits udc_opening centre_opening C None going Every (each None going) is.0 new None is.2 in
      none_given going old.up is.0.up old.trip is.0.trip is.1.0 (rest.still unmoved).before

  nothing : (going_down going_up : Option Packet) (old new : Round L)
      → Carries udc.ghosts (irc.ghosts (number C)) k udc_limits centre_limits udc_opening centre_opening C going_down going_up old new None
      → new.trip.moved ≡ false → (going_down ≡ None) × (going_up ≡ None)
  nothing going_down going_up old new (inl is) unmoved = let no = is.2 in absurd cc
  nothing going_down going_up old new (inr is) unmoved =
      let rest = after_down k udc_limits centre_limits udc_opening centre_opening C going_down going_up Every (each going_down going_up) is.0
      new None is.2 in
      (none_given going_down old.down is.0.down old.trip is.0.trip is.1.0 (rest.still unmoved).before, nothing_up going_up is.0 new is.2 unmoved)

  -- ---- the cause

  -- what a carrier keeps of a round
  abbrev kept_of : Round L → CarrierState
  kept_of round = record { udc = round.udc; centre = round.centre; sending = round.trip.sending; posting = round.trip.posting }

  -- what stages say of the cause
  abbrev Caused : CarrierState → Round L → Round L → Stop → Type 0
  Caused old first last why =
      HasRoundCause udc.ghosts (irc.ghosts (number C)) k udc_limits centre_limits udc_opening centre_opening C old first.down first.up
      (kept_of last) last.down last.up why

  stopped : (old : CarrierState) (first last : Round L) (why : Stop) → PassLooks old.udc first.udc → PassLooks old.centre first.centre
      → Fails k udc_limits centre_limits udc_opening centre_opening C first last why
      → HasRoundCause udc.ghosts (irc.ghosts (number C)) k udc_limits centre_limits udc_opening centre_opening C old first.down first.up
      (kept_of last) last.down last.up why
  stopped old first last stops.LinkFault udc_looks centre_looks is = is
  stopped old first last (stops.DiskFault failure) udc_looks centre_looks (inl is) =
      inl (omega (arith, is, ap (λ (p : Standing Record). p.failed) udc_looks.same))
  stopped old first last (stops.DiskFault failure) udc_looks centre_looks (inr is) =
      inr (omega (arith, is, ap (λ (p : Standing CentreRecord). p.failed) centre_looks.same))
  stopped old first last (stops.Full node count) udc_looks centre_looks is = is
  stopped old first last (stops.Memory None) udc_looks centre_looks is = inl tt
  stopped old first last (stops.Memory (Some place)) udc_looks centre_looks (inl is) =
      inl (kept_later k udc_limits centre_limits udc_opening centre_opening C udc_opening old.udc first.udc last.udc place udc_looks.prefix
      (omega (arith, ap (λ (p : Standing Record). p.told) udc_looks.same)) is)
  stopped old first last (stops.Memory (Some place)) udc_looks centre_looks (inr is) =
      inr (kept_later k udc_limits centre_limits udc_opening centre_opening C centre_opening old.centre first.centre last.centre place
      centre_looks.prefix (omega (arith, ap (λ (p : Standing CentreRecord). p.told) centre_looks.same)) is)
  stopped old first last (stops.Moved records items) udc_looks centre_looks is = absurd is
  stopped old first last stops.Idle udc_looks centre_looks is = absurd is

  pub ends_for : (old new : CarrierState) (old_down old_up new_down new_up : L) (end : Stop)
      → IsRound udc.ghosts (irc.ghosts (number C)) k udc_limits centre_limits udc_opening centre_opening C old old_down old_up new
      new_down new_up end
      → HasRoundCause udc.ghosts (irc.ghosts (number C)) k udc_limits centre_limits udc_opening centre_opening C old old_down old_up new
      new_down new_up end
  ends_for old new old_down old_up new_down new_up end is =
      rw (is.ends, is.state, is.new_links.0, is.new_links.1, ← is.old_links.0, ← is.old_links.1)
      (by is.stop (carried k udc_limits centre_limits udc_opening centre_opening C is.going_down is.going_up Every
      (each is.going_down is.going_up) is.first is.last is.stop is.carries)
      is.carries)
    where
      idle : Progress k is.first is.last
          → Carries udc.ghosts (irc.ghosts (number C)) k udc_limits centre_limits udc_opening centre_opening C is.going_down is.going_up
          is.first is.last None
          → is.last.trip.moved ≡ false → Caused old is.first is.last stops.Idle
      idle went carries unmoved =
          let still = went.still unmoved in
          let none = nothing is.going_down is.going_up is.first is.last carries unmoved in
          let records = is.looks_down.state.records in
          let items = is.looks_up.state.items in
          let sent : length records ≤ old.sending.acknowledged =
          all_heard (λ n rec. Down C n (down_of rec)) records old.sending
          (sym (ap (λ n. number_to_give old.sending n >>= λ m. option_map (λ (rec : Record). Down C m (down_of rec)) (slice_get records m))
          is.looks_down.count_is) ∙ sym is.looks_down.going_is ∙ none.0) in
          let posted : length items ≤ old.posting.acknowledged =
          all_heard (λ n item. Up C n item) items old.posting
          (sym (ap (λ n. number_to_give old.posting n >>= λ m. option_map (λ (item : Item). Up C m item) (slice_get items m))
          is.looks_up.count_is) ∙ sym is.looks_up.going_is ∙ none.1) in
          record {
            udc = subst (λ (p : Standing Record). PassLooks old.udc p) (sym still.udc) is.looks_down.looks;
            centre = subst (λ (p : Standing CentreRecord). PassLooks old.centre p) (sym still.centre) is.looks_up.looks;
            sent = subst (λ (p : Standing Record). length (with_opening udc_opening p.seen) ≤ old.sending.acknowledged) (sym still.udc)
                (subst (λ (l : List Record). length l ≤ old.sending.acknowledged) is.looks_down.stands.stands sent);
            posted = subst (λ (p : Standing CentreRecord). length (items_of (with_opening centre_opening p.seen)) ≤
                old.posting.acknowledged)
                (sym still.centre) (subst (λ (l : List Item). length l ≤ old.posting.acknowledged)
                (ap (λ (s : CentreState). s.items) is.looks_up.stands.stands) posted);
            ends = (
              ap (λ (t : Trip). t.sending) still.trip ∙ is.looks_down.end_is
                  ∙ end_stays old.sending is.first.trip.record_count (omega (arith, is.looks_down.count_is, sent)),
              ap (λ (t : Trip). t.posting) still.trip ∙ is.looks_up.end_is
                  ∙ end_stays old.posting is.first.trip.item_count (omega (arith, is.looks_up.count_is, posted)),
            );
            links = (still.down, still.up);
          }

      over : (m : Bool) → is.last.trip.moved ≡ m → Progress k is.first is.last
          → Carries udc.ghosts (irc.ghosts (number C)) k udc_limits centre_limits udc_opening centre_opening C is.going_down is.going_up
          is.first is.last None
          → Caused old is.first is.last (if m then stops.Moved is.last.trip.applied is.last.trip.taken_up else stops.Idle)
      over true moved went carries = (
        elim (went.moved moved) [ inl before ↦ absurd (true≢false (sym before ∙ is.begins.0)) | inr used ↦ used ],
        (
          omega (arith, went.centre, is.begins.1, ap (λ (p : Standing CentreRecord). p.told) is.looks_up.looks.same),
          went.centre_failed ∙ ap (λ (p : Standing CentreRecord). p.failed) is.looks_up.looks.same,
        ),
        (
          omega (arith, went.udc, is.begins.2, ap (λ (p : Standing Record). p.told) is.looks_down.looks.same),
          went.udc_failed ∙ ap (λ (p : Standing Record). p.failed) is.looks_down.looks.same,
        ),
      )
      over false unmoved went carries = idle went carries unmoved

      by : (stop : Option Stop) → Comes k udc_limits centre_limits udc_opening centre_opening C is.first is.last stop
          → Carries udc.ghosts (irc.ghosts (number C)) k udc_limits centre_limits udc_opening centre_opening C is.going_down is.going_up
          is.first is.last stop
          → Caused old is.first is.last (unwrap_or stop (end_of_trip is.last.trip))
      by None went carries = over is.last.trip.moved refl went carries
      by (Some why) fails carries = stopped old is.first is.last why is.looks_down.looks is.looks_up.looks fails
