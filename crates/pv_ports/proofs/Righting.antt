-- The packets that the links of a carrier may hold stay right in a round.
use Rattle.std.proofs.Common.{◌≡◌, ◌⊎◌, inl, inr, ℕ, List, [], ◌∷◌, length, All, Option, Some, None, refl, ap, sym, ◌∙◌, subst}
use Rattle.std.specs.Prelude.{IfSome, slice_get, option_map, option_to_list, unwrap_or, take}
use Rattle.std.specs.List.{cons_option}
use Rattle.std.proofs.lemmas.List.Elements.{All-nil, All-cons, All-head, All-tail}
use mathlib.Core.List.{IsPrefix}
use denote.Param.{number}
use Rattle.pv_outside.specs.declared.limits.Limits.{Limits}
use Rattle.pv_outside.specs.declared.link.Link as links
use Rattle.pv_post.specs.declared.item.Item.{Item}
use Rattle.pv_edits.specs.declared.record.Record.{Record}
use Rattle.pv_history.proofs.CallerLemmas.{prefix_self, prefix_trans}
use Rattle.pv_irc.specs.History.{CentreState, items_of}
use Rattle.pv_irc.specs.contracts.rules.IrcRulesRules.TheImpl as irc
use Rattle.pv_irc.specs.declared.record.CentreRecord.{CentreRecord}
use Rattle.pv_link.specs.Sending.{number_to_give}
use Rattle.pv_live.specs.Entries.{with_opening}
use Rattle.pv_live.specs.Pass.{Standing}
use Rattle.pv_packet.specs.Packet.{IsPacket, packet_bytes}
use Rattle.pv_packet.specs.Reading.{packet_of_bytes}
use Rattle.pv_packet.specs.declared.packet.Packet.{Packet}
use Rattle.pv_packet.specs.declared.packet.Packet.TheVariants.{Down, Up}
use Rattle.pv_udc.specs.Replies.{down_of}
use Rattle.pv_udc.specs.contracts.rules.UdcRulesRules.TheImpl as udc
use Rattle.pv_ports.specs.Cargo.{Arrival, Cargo, acknowledgements, GivesEach, HandsOutPacket, TakesUpToTwo, GoesThroughLinks}
use Rattle.pv_ports.specs.Parcels.{down_packet, up_packet}
use Rattle.pv_ports.specs.Rights.{GoesDown, GoesUp, IsRightIfPacket, HoldRightPackets}
use Rattle.pv_ports.specs.Round.{Round, Stop, CarrierState, GivesTo, GivesDown, GivesUp, IsReadAs, IsRound, trip_after_record, trip_after_item, trip_after_take}
use Rattle.pv_ports.specs.declared.trip.Trip.{Trip}
use Rattle.pv_ports.proofs.Growing.{down_grows, up_grows}
use Rattle.pv_ports.proofs.Walking.{EachStage, carried}

-- what goes next is right: it is the record or the item of its number
next_down : (C : ℕ) (records : List Record) (given : Option ℕ) → IfSome (down_packet C records given) (GoesDown records)
next_down C records None = tt
next_down C records (Some n) = by (slice_get records n) refl
  where
    by : (found : Option Record) → slice_get records n ≡ found
        → IfSome (option_map (λ (rec : Record). Down C n (down_of rec)) found) (GoesDown records)
    by None is = tt
    by (Some edit) is = (edit, is, refl)

next_up : (C : ℕ) (items : List Item) (records : List CentreRecord) (given : Option ℕ) → items ≡ items_of records
    → IfSome (up_packet C items given) (GoesUp records)
next_up C items records None same = tt
next_up C items records (Some k) same = by (slice_get items k) refl
  where
    by : (found : Option Item) → slice_get items k ≡ found → IfSome (option_map (λ (item : Item). Up C k item) found) (GoesUp records)
    by None is = tt
    by (Some item) is = ap (λ (l : List Item). slice_get l k) (sym same) ∙ is

-- what holds of a packet or of none, and is weaker
pub weaker_if : {P Q : Packet → Type 0} (packet : Option Packet) → ((one : Packet) → P one → Q one) → IfSome packet P → IfSome packet Q
weaker_if None weaker is = tt
weaker_if (Some packet) weaker is = weaker packet is

-- bytes that spell a right packet spell no other
spelled : (C : ℕ) (reads : (packet : Packet) → IsPacket packet → packet_of_bytes (packet_bytes packet) ≡ Some packet)
    (IsRight : Packet → Type 0) (packet : Packet) (bytes : List ℕ) → IsPacket packet → bytes ≡ packet_bytes packet → IsRight packet
    → IsRightIfPacket C IsRight bytes
spelled C reads IsRight packet bytes ranges is right = λ other other_ranges same own.
    let one : Some packet ≡ Some other =
    sym (reads packet ranges) ∙ ap packet_of_bytes (sym is ∙ same) ∙ reads other other_ranges in
    subst IsRight (ap (λ (p : Option Packet). unwrap_or p packet) one) right

-- a pass that is as it was has seen what it had
same_pass : {Rec : Type 0} (old new : Standing Rec) → new ≡ old → IsPrefix old.seen new.seen
same_pass old new is = subst (λ (p : Standing _). IsPrefix old.seen p.seen) (sym is) (prefix_self old.seen)

-- as the passes see more
more_seen : {L : Type 0} (k : links.Ghosts L) (udc_opening : List Record) (centre_opening : List CentreRecord) (C : ℕ)
    (old_udc udc : Standing Record) (old_centre centre : Standing CentreRecord) (down up : L) → IsPrefix old_udc.seen udc.seen
    → IsPrefix old_centre.seen centre.seen → HoldRightPackets k udc_opening centre_opening C old_udc old_centre down up
    → HoldRightPackets k udc_opening centre_opening C udc centre down up
more_seen k udc_opening centre_opening C old_udc udc old_centre centre down up more_udc more_centre is = record {
  down = λ bytes held packet ranges same own.
      down_grows packet udc_opening old_udc.seen udc.seen more_udc (is.down bytes held packet ranges same own);
  up = λ bytes held packet ranges same own.
      up_grows packet centre_opening old_centre.seen centre.seen more_centre (is.up bytes held packet ranges same own);
}

module _ {L : Type 0} (k : links.Ghosts L) (udc_limits centre_limits : Limits) (udc_opening : List Record)
    (centre_opening : List CentreRecord) (C : ℕ)
    (reads : (packet : Packet) → IsPacket packet → packet_of_bytes (packet_bytes packet) ≡ Some packet)
    (going_down going_up : Option Packet) where
  -- all packets are right: those that the links may hold, and those that go next
  pub record Right (round : Round L) : Type 0 where
    pub held : HoldRightPackets k udc_opening centre_opening C round.udc round.centre round.down round.up
    pub down : IfSome going_down (GoesDown (with_opening udc_opening round.udc.seen))
    pub up : IfSome going_up (GoesUp (with_opening centre_opening round.centre.seen))

  -- The passes have seen more, and the links may hold what they held and right packets.
  moves : (old new : Round L) → IsPrefix old.udc.seen new.udc.seen → IsPrefix old.centre.seen new.centre.seen
      → ((bytes : List ℕ) → k.may_hold new.down bytes
      → k.may_hold old.down bytes ⊎ IsRightIfPacket C (GoesDown (with_opening udc_opening new.udc.seen)) bytes)
      → ((bytes : List ℕ) → k.may_hold new.up bytes
      → k.may_hold old.up bytes ⊎ IsRightIfPacket C (GoesUp (with_opening centre_opening new.centre.seen)) bytes)
      → Right old → Right new
  moves old new udc centre down up is = record {
    held = record {
      down = λ bytes held.
          elim (down bytes held) [
            | inl before ↦ λ packet ranges same own.
                down_grows packet udc_opening old.udc.seen new.udc.seen udc (is.held.down bytes before packet ranges same own)
            | inr right ↦ right
          ];
      up = λ bytes held.
          elim (up bytes held) [
            | inl before ↦ λ packet ranges same own.
                up_grows packet centre_opening old.centre.seen new.centre.seen centre (is.held.up bytes before packet ranges same own)
            | inr right ↦ right
          ];
    };
    down = weaker_if going_down (λ packet. down_grows packet udc_opening old.udc.seen new.udc.seen udc) is.down;
    up = weaker_if going_up (λ packet. up_grows packet centre_opening old.centre.seen new.centre.seen centre) is.up;
  }

  -- a link that is as it was may hold what it held
  same_link : (old new : L) → new ≡ old → (bytes : List ℕ) → k.may_hold new bytes → k.may_hold old bytes
  same_link old new is bytes held = subst (λ (link : L). k.may_hold link bytes) is held

  -- ---- a packet is given

  -- a link may hold what it held, and the right packet that it was given
  given_right : (IsRight : Packet → Type 0) (packet : Option Packet) (old new : L) (trip after : Trip) (stop : Option Stop)
      → IfSome packet IsRight → GivesTo k packet old trip new after stop → (bytes : List ℕ) → k.may_hold new bytes
      → k.may_hold old bytes ⊎ IsRightIfPacket C IsRight bytes
  given_right IsRight None old new trip after stop right is bytes held = inl (same_link old new is.0 bytes held)
  given_right IsRight (Some packet) old new trip after stop right is bytes held =
      elim (is.2.only bytes held) [
        | inl before ↦ inl before
        | inr same ↦ inr (spelled C reads IsRight packet bytes is.0 same right)
      ]

  gives_down : (going : Option Packet) (old new : Round L) (stop : Option Stop)
      → IfSome going (GoesDown (with_opening udc_opening old.udc.seen)) → GivesDown k going old new stop → Right old → Right new
  gives_down going old new stop right is =
      let pass = ap (λ (r : Round L). r.udc) is.1 in
      moves old new (same_pass old.udc new.udc pass) (same_pass old.centre new.centre (ap (λ (r : Round L). r.centre) is.1))
      (given_right (GoesDown (with_opening udc_opening new.udc.seen)) going old.down new.down old.trip new.trip stop
      (subst (λ (p : Standing Record). IfSome going (GoesDown (with_opening udc_opening p.seen))) (sym pass) right) is.0)
      (λ bytes held. inl (same_link old.up new.up (ap (λ (r : Round L). r.up) is.1) bytes held))

  gives_up : (going : Option Packet) (old new : Round L) (stop : Option Stop)
      → IfSome going (GoesUp (with_opening centre_opening old.centre.seen)) → GivesUp k going old new stop → Right old → Right new
  gives_up going old new stop right is =
      let pass = ap (λ (r : Round L). r.centre) is.1 in
      moves old new (same_pass old.udc new.udc (ap (λ (r : Round L). r.udc) is.1)) (same_pass old.centre new.centre pass)
      (λ bytes held. inl (same_link old.down new.down (ap (λ (r : Round L). r.down) is.1) bytes held))
      (given_right (GoesUp (with_opening centre_opening new.centre.seen)) going old.up new.up old.trip new.trip stop
      (subst (λ (p : Standing CentreRecord). IfSome going (GoesUp (with_opening centre_opening p.seen))) (sym pass) right) is.0)

  -- nothing but the passes and the trip has changed
  only_passes : (old new : Round L) → IsPrefix old.udc.seen new.udc.seen → IsPrefix old.centre.seen new.centre.seen
      → new.down ≡ old.down → new.up ≡ old.up → Right old → Right new
  only_passes old new udc centre down up holds =
      moves old new udc centre (λ bytes held. inl (same_link old.down new.down down bytes held))
      (λ bytes held. inl (same_link old.up new.up up bytes held)) holds

  -- ---- the round

  pub stages : EachStage k udc_limits centre_limits udc_opening centre_opening C going_down going_up (λ old new stop. Right old → Right new)
  stages = record {
    later = λ a b c stop one other holds. other (one holds);
    gives_down = λ old new stop is holds. gives_down going_down old new stop holds.down is holds;
    gives_up = λ old new stop is holds. gives_up going_up old new stop holds.up is holds;
    takes_down = λ into result old link is holds.
        moves old (record old { down = link; trip = trip_after_take result old.trip }) (prefix_self old.udc.seen)
        (prefix_self old.centre.seen) (λ bytes held. inl (is.only bytes held)) (λ bytes held. inl held) holds;
    takes_up = λ into result old link is holds.
        moves old (record old { up = link; trip = trip_after_take result old.trip }) (prefix_self old.udc.seen)
        (prefix_self old.centre.seen) (λ bytes held. inl held) (λ bytes held. inl (is.only bytes held)) holds;
    answers_down = λ packet old new stop right is holds. gives_down packet old new stop right is holds;
    answers_up = λ packet old new stop right is holds. gives_up packet old new stop right is holds;
    hears = λ old trip moved still applied taken_up.
        only_passes old (record old { trip = trip }) (prefix_self old.udc.seen) (prefix_self old.centre.seen) refl refl;
    applies = λ n rec old pass told moved is.
        only_passes old (record old { centre = pass; trip = trip_after_record told.reply old.trip }) (prefix_self old.udc.seen)
        is.asks.prefix refl refl;
    applies_not = λ n rec old pass fault is.
        only_passes old (record old { centre = pass }) (prefix_self old.udc.seen) is.asks.prefix refl refl;
    takes_item = λ number item old pass told moved is.
        only_passes old (record old { udc = pass; trip = trip_after_item told.reply old.trip }) is.asks.prefix
        (prefix_self old.centre.seen) refl refl;
    takes_item_not = λ number item old pass fault is.
        only_passes old (record old { udc = pass }) is.asks.prefix (prefix_self old.centre.seen) refl refl;
  }

module _ {L : Type 0} (k : links.Ghosts L) (udc_limits centre_limits : Limits) (udc_opening : List Record)
    (centre_opening : List CentreRecord) (C : ℕ)
    (reads : (packet : Packet) → IsPacket packet → packet_of_bytes (packet_bytes packet) ≡ Some packet) where
  -- If all packets of the links are right before a round, they are right after it.
  pub stays_right : (old new : CarrierState) (old_down old_up new_down new_up : L) (end : Stop)
      → IsRound udc.ghosts (irc.ghosts (number C)) k udc_limits centre_limits udc_opening centre_opening C old old_down old_up new
      new_down new_up end
      → HoldRightPackets k udc_opening centre_opening C old.udc old.centre old_down old_up
      → HoldRightPackets k udc_opening centre_opening C new.udc new.centre new_down new_up
  stays_right old new old_down old_up new_down new_up end is holds =
      let first = is.first in
      let last = is.last in
      let looked : HoldRightPackets k udc_opening centre_opening C first.udc first.centre first.down first.up =
      rw (is.old_links.0, is.old_links.1) (more_seen k udc_opening centre_opening C old.udc first.udc old.centre first.centre old_down old_up
      is.looks_down.looks.prefix is.looks_up.looks.prefix holds) in
      let carried = carried k udc_limits centre_limits udc_opening centre_opening C is.going_down is.going_up _
      (stages k udc_limits centre_limits udc_opening centre_opening C reads is.going_down is.going_up) first last is.stop is.carries in
      rw (is.state, is.new_links.0, is.new_links.1)
      (carried (record {
        held = looked;
        down =
            subst (λ (p : Option Packet). IfSome p (GoesDown (with_opening udc_opening first.udc.seen))) (sym is.looks_down.going_is)
            (subst (λ (l : List Record). IfSome (down_packet C l (number_to_give old.sending first.trip.record_count)) (GoesDown (with_opening
            udc_opening first.udc.seen)))
            (sym is.looks_down.stands.stands) (next_down C (with_opening udc_opening first.udc.seen) (number_to_give old.sending
            first.trip.record_count)));
        up =
            subst (λ (p : Option Packet). IfSome p (GoesUp (with_opening centre_opening first.centre.seen))) (sym is.looks_up.going_is)
            (next_up C is.looks_up.state.items (with_opening centre_opening first.centre.seen) (number_to_give old.posting
            first.trip.item_count)
            (ap (λ (s : CentreState). s.items) is.looks_up.stands.stands));
      })).held

-- ---- what comes out of links that hold right packets

-- one packet more, or none
all_with : (P : Packet → Type 0) (one : Option Packet) (more : List Packet) → IfSome one P → All P more → All P (cons_option one more)
all_with P None more is all = all
all_with P (Some packet) more is all = All-cons P packet more is all

-- all of one packet, or of none
all_of : (P : Packet → Type 0) (one : Option Packet) → IfSome one P → All P (option_to_list one)
all_of P None is = All-nil P
all_of P (Some packet) is = All-cons P packet [] is (All-nil P)

-- all acknowledgements
all_answers : (P : Packet → Type 0) (came : List Arrival) → All (λ (one : Arrival). IfSome one.answer P) came
    → All P (acknowledgements came)
all_answers P [] all = All-nil P
all_answers P (one ∷ later) all =
    all_with P one.answer (acknowledgements later) (All-head (λ (a : Arrival). IfSome a.answer P) one later all)
    (all_answers P later (All-tail (λ (a : Arrival). IfSome a.answer P) one later all))

module _ {L : Type 0} (k : links.Ghosts L) (C : ℕ)
    (reads : (packet : Packet) → IsPacket packet → packet_of_bytes (packet_bytes packet) ≡ Some packet) (IsRight : Packet → Type 0) where
  -- all packets that the link may hold are right
  abbrev HoldsRight : L → Type 0
  HoldsRight link = (bytes : List ℕ) → k.may_hold link bytes → IsRightIfPacket C IsRight bytes

  -- they are after right ones were given
  after_gives : (packets : List Packet) (old new : L) → All IsRight packets → GivesEach k packets old new → HoldsRight old → HoldsRight new
  after_gives [] old new right is holds = subst (λ (l : L). HoldsRight l) (sym is) holds
  after_gives (packet ∷ later) old new right is holds =
      after_gives later is.0 new (All-tail IsRight packet later right) is.3 (λ bytes held.
      elim (is.2.only bytes held) [
        | inl before ↦ holds bytes before
        | inr same ↦ spelled C reads IsRight packet bytes is.1 same (All-head IsRight packet later right)
      ])

  -- a packet that is handed out is right
  handed : (packet : Option Packet) (old new : L) → HandsOutPacket k C packet old new → HoldsRight old → IfSome packet IsRight × HoldsRight new
  handed packet old new is holds = (by packet is.3, λ bytes held. holds bytes (is.2.only bytes held))
    where
      by : (one : Option Packet) → IsReadAs C (take is.1 is.0) one → IfSome one IsRight
      by None read = tt
      by (Some one) read = holds (take is.1 is.0) is.2.held one read.0 read.1 read.2

  -- so is each of up to two
  after_takes : (came : List Arrival) (old new : L) → TakesUpToTwo k C came old new → HoldsRight old
      → All (λ (one : Arrival). IfSome one.packet IsRight) came
  after_takes [] old new is holds = All-nil (λ (a : Arrival). IfSome a.packet IsRight)
  after_takes (one ∷ []) old new is holds =
      All-cons (λ (a : Arrival). IfSome a.packet IsRight) one [] (handed one.packet old is.0 is.1 holds).0
      (All-nil (λ (a : Arrival). IfSome a.packet IsRight))
  after_takes (one ∷ other ∷ []) old new is holds =
      let first = handed one.packet old is.0 is.1 holds in
      All-cons (λ (a : Arrival). IfSome a.packet IsRight) one (other ∷ []) first.0
      (All-cons (λ (a : Arrival). IfSome a.packet IsRight) other [] (handed other.packet is.0 new is.2 first.1).0
      (All-nil (λ (a : Arrival). IfSome a.packet IsRight)))
  after_takes (one ∷ other ∷ more ∷ later) old new is holds = absurd is

module _ {L : Type 0} (k : links.Ghosts L) (centre_limits : Limits) (udc_opening : List Record) (centre_opening : List CentreRecord) (C : ℕ)
    (reads : (packet : Packet) → IsPacket packet → packet_of_bytes (packet_bytes packet) ≡ Some packet) where
  -- If all packets that the links may hold are right before a round, so is each that came in it.
  pub came_right : (old new : CarrierState) (old_down old_up : L) (cargo : Cargo) (new_down new_up : L)
      → IsPrefix old.udc.seen cargo.udc.seen × IsPrefix old.centre.seen cargo.centre.seen
      → IsPrefix cargo.udc.seen new.udc.seen × IsPrefix cargo.centre.seen new.centre.seen
      → GoesThroughLinks k centre_limits udc_opening centre_opening C old old_down old_up cargo new_down new_up
      → All (λ (came : Arrival). IfSome came.answer (GoesUp (with_opening centre_opening new.centre.seen))) cargo.down
      → HoldRightPackets k udc_opening centre_opening C old.udc old.centre old_down old_up
      → All (λ (came : Arrival). IfSome came.packet (GoesDown (with_opening udc_opening new.udc.seen))) cargo.down
      × All (λ (came : Arrival). IfSome came.packet (GoesUp (with_opening centre_opening new.centre.seen))) cargo.up
  came_right old new old_down old_up cargo new_down new_up looks seen is heard holds =
      let records = with_opening udc_opening cargo.udc.seen in
      let kept = with_opening centre_opening cargo.centre.seen in
      let IsDown : Packet → Type 0 = GoesDown (with_opening udc_opening new.udc.seen) in
      let IsUp : Packet → Type 0 = GoesUp (with_opening centre_opening new.centre.seen) in
      let record_due = number_to_give old.sending (length records) in
      let item_due = number_to_give old.posting (length (items_of kept)) in
      let later = more_seen k udc_opening centre_opening C old.udc new.udc old.centre new.centre old_down old_up
      (prefix_trans old.udc.seen cargo.udc.seen new.udc.seen looks.0 seen.0)
      (prefix_trans old.centre.seen cargo.centre.seen new.centre.seen looks.1 seen.1) holds in
      let goes_down : IfSome (down_packet C records record_due) IsDown =
      weaker_if (down_packet C records record_due) (λ packet. down_grows packet udc_opening cargo.udc.seen new.udc.seen seen.0) (next_down C records record_due) in
      let goes_up : IfSome (up_packet C (items_of kept) item_due) IsUp =
      weaker_if (up_packet C (items_of kept) item_due) (λ packet. up_grows packet centre_opening cargo.centre.seen new.centre.seen seen.1) (next_up C (items_of kept) kept item_due refl) in (
        after_takes k C reads IsDown cargo.down is.down.0 is.down.1 is.down.3
            (after_gives k C reads IsDown _ old_down is.down.0 (all_of IsDown (down_packet C records record_due) goes_down) is.down.2
            later.down),
        after_takes k C reads IsUp cargo.up is.up.1 new_up is.up.4
            (after_gives k C reads IsUp (acknowledgements cargo.down) is.up.0 is.up.1 (all_answers IsUp cargo.down heard) is.up.3
            (after_gives k C reads IsUp _ old_up is.up.0 (all_of IsUp (up_packet C (items_of kept) item_due) goes_up) is.up.2 later.up)),
      )
