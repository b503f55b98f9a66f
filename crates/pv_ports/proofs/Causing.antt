-- Why a round ends as it does: what each of its stages does to the counts of the passes and of the links.
use Rattle.std.proofs.Common.{◌≡◌, ◌⊎◌, inl, inr, ℕ, ◌+◌, ◌≤◌, true, false, true≢false, List, Option, Some, None, Result, Ok, Err, refl, ap, sym, ◌∙◌, subst, arith}
use Rattle.std.specs.Prelude.{IfSome, MatchResult}
use mathlib.Core.List.{IsPrefix}
use denote.Param.{number}
use Rattle.pv_outside.specs.Counts.{Rose, one_more}
use Rattle.pv_outside.specs.declared.failed.Failed.{Failed}
use Rattle.pv_outside.specs.declared.limits.Limits.{Limits}
use Rattle.pv_outside.specs.declared.link.Link as links
use Rattle.pv_edits.specs.declared.record.Record.{Record}
use Rattle.pv_history.proofs.CallerLemmas.{prefix_self, prefix_trans, prefix_length}
use Rattle.pv_irc.specs.contracts.rules.IrcRulesRules.TheImpl as irc
use Rattle.pv_irc.specs.declared.record.CentreRecord.{CentreRecord}
use Rattle.pv_irc.specs.declared.request.IrcRequest.{IrcRequest}
use Rattle.pv_irc.specs.declared.request.IrcRequest.TheVariants.{Apply}
use Rattle.pv_live.specs.Asking.{HasFailed, IsFullFor}
use Rattle.pv_live.specs.Pass.{Standing}
use Rattle.pv_live.specs.declared.fault.LiveFault.TheVariants as faults
use Rattle.pv_packet.specs.declared.packet.Packet.{Packet}
use Rattle.pv_packet.specs.Packet.{packet_bytes}
use Rattle.pv_udc.specs.contracts.rules.UdcRulesRules.TheImpl as udc
use Rattle.pv_udc.specs.declared.request.UdcRequest.{UdcRequest}
use Rattle.pv_udc.specs.declared.request.UdcRequest.TheVariants.{TakeUp}
use Rattle.pv_ports.specs.Outcomes.{KeepsRecord, LinkIsUsed, LinkIsUnused}
use Rattle.pv_ports.specs.Round.{Round, Stop, Gave, Took, GivesDown, GivesUp, trip_after_take, ask_stop, centre_node}
use Rattle.pv_ports.specs.Session.{AskFault}
use Rattle.pv_ports.specs.declared.round_end.RoundEnd.TheVariants as stops
use Rattle.pv_ports.proofs.Judging.{applied_answer, taken_answer}
use Rattle.pv_ports.proofs.Walking.{EachStage, stop_at_take}

-- ---- counts

-- a count stood still, or rose
abbrev pub Counts : ℕ → ℕ → Type 0
Counts old new = (new ≡ old) ⊎ Rose old new

rose_on : (a b c : ℕ) → Rose a b → Rose b c → Rose a c
rose_on a b c one other = omega (arith, one, other)

pub rose_more : (a b c : ℕ) → Rose a b → b ≤ c → Rose a c
rose_more a b c one more = omega (arith, one, more)

pub rose_later : (a b c : ℕ) → a ≤ b → Rose b c → Rose a c
rose_later a b c more one = omega (arith, one, more)

pub rose_still : (a b c : ℕ) → Rose a b → Counts b c → Rose a c
rose_still a b c one (inl same) = subst (λ n. Rose a n) (sym same) one
rose_still a b c one (inr other) = rose_on a b c one other

pub still_rose : (a b c : ℕ) → Counts a b → Rose b c → Rose a c
still_rose a b c (inl same) one = subst (λ n. Rose n c) same one
still_rose a b c (inr other) one = rose_on a b c other one

pub counts_on : (a b c : ℕ) → Counts a b → Counts b c → Counts a c
counts_on a b c one (inl same) = subst (λ n. Counts a n) (sym same) one
counts_on a b c one (inr other) = inr (still_rose a b c one other)

-- one more has risen
pub rises : (a b : ℕ) → b ≡ one_more a → Rose a b
rises a b is = omega (arith, is)

module _ {L : Type 0} (k : links.Ghosts L) where
  -- what a stage does to a link
  pub record Serves (old new : L) : Type 0 where
    pub faults : k.faults old ≤ k.faults new
    pub given : Counts (k.given old) (k.given new)
    pub taken : Counts (k.taken old) (k.taken new)

  pub serves_none : (link : L) → Serves link link
  serves_none link = record { faults = omega arith; given = inl refl; taken = inl refl }

  pub serves_on : (a b c : L) → Serves a b → Serves b c → Serves a c
  serves_on a b c one other = record {
    faults = omega (arith, one.faults, other.faults);
    given = counts_on (k.given a) (k.given b) (k.given c) one.given other.given;
    taken = counts_on (k.taken a) (k.taken b) (k.taken c) one.taken other.taken;
  }

  pub used_still : (a b c : L) → LinkIsUsed k a b → Serves b c → LinkIsUsed k a c
  used_still a b c (inl one) serves = inl (rose_still (k.given a) (k.given b) (k.given c) one serves.given)
  used_still a b c (inr one) serves = inr (rose_still (k.taken a) (k.taken b) (k.taken c) one serves.taken)

  pub still_used : (a b c : L) → Serves a b → LinkIsUsed k b c → LinkIsUsed k a c
  still_used a b c serves (inl one) = inl (still_rose (k.given a) (k.given b) (k.given c) serves.given one)
  still_used a b c serves (inr one) = inr (still_rose (k.taken a) (k.taken b) (k.taken c) serves.taken one)

  -- one of the two links was used
  abbrev pub OneIsUsed : Round L → Round L → Type 0
  OneIsUsed old new = LinkIsUsed k old.down new.down ⊎ LinkIsUsed k old.up new.up

  -- nothing went
  pub record IsStill (old new : Round L) : Type 0 where
    pub before : old.trip.moved ≡ false
    pub udc : new.udc ≡ old.udc
    pub centre : new.centre ≡ old.centre
    pub trip : new.trip ≡ old.trip
    pub down : LinkIsUnused k old.down new.down
    pub up : LinkIsUnused k old.up new.up

  -- What the stages of a round have done that goes on: each pass counted what the trip counts, and no ask failed.
  pub record Progress (old new : Round L) : Type 0 where
    pub down : Serves old.down new.down
    pub up : Serves old.up new.up
    pub centre : new.centre.told + old.trip.applied ≡ old.centre.told + new.trip.applied
    pub udc : new.udc.told + old.trip.taken_up ≡ old.udc.told + new.trip.taken_up
    pub centre_told : old.centre.told ≤ new.centre.told
    pub udc_told : old.udc.told ≤ new.udc.told
    pub centre_failed : new.centre.failed ≡ old.centre.failed
    pub udc_failed : new.udc.failed ≡ old.udc.failed
    pub centre_seen : IsPrefix old.centre.seen new.centre.seen
    pub udc_seen : IsPrefix old.udc.seen new.udc.seen
    pub moved : new.trip.moved ≡ true → (old.trip.moved ≡ true) ⊎ OneIsUsed old new
    pub still : new.trip.moved ≡ false → IsStill old new

  pub stays : (old : Round L) → Progress old old
  stays old = record {
    down = serves_none old.down;
    up = serves_none old.up;
    centre = refl;
    udc = refl;
    centre_told = omega arith;
    udc_told = omega arith;
    centre_failed = refl;
    udc_failed = refl;
    centre_seen = prefix_self old.centre.seen;
    udc_seen = prefix_self old.udc.seen;
    moved = λ moved. inl moved;
    still = λ unmoved. record { before = unmoved; udc = refl; centre = refl; trip = refl; down = (refl, refl); up = (refl, refl) };
  }

  -- the links were used, or the trip goes on; no node was asked
  pub linked : (old new : Round L) → Serves old.down new.down → Serves old.up new.up → new.udc ≡ old.udc → new.centre ≡ old.centre
      → new.trip.applied ≡ old.trip.applied → new.trip.taken_up ≡ old.trip.taken_up
      → (new.trip.moved ≡ true → (old.trip.moved ≡ true) ⊎ OneIsUsed old new)
      → (new.trip.moved ≡ false → IsStill old new) → Progress old new
  linked old new down up udc centre applied taken_up moved still = record {
    down = down;
    up = up;
    centre = omega (arith, ap (λ (p : Standing CentreRecord). p.told) centre, applied);
    udc = omega (arith, ap (λ (p : Standing Record). p.told) udc, taken_up);
    centre_told = omega (arith, ap (λ (p : Standing CentreRecord). p.told) centre);
    udc_told = omega (arith, ap (λ (p : Standing Record). p.told) udc);
    centre_failed = ap (λ (p : Standing CentreRecord). p.failed) centre;
    udc_failed = ap (λ (p : Standing Record). p.failed) udc;
    centre_seen = subst (λ (p : Standing CentreRecord). IsPrefix old.centre.seen p.seen) (sym centre) (prefix_self old.centre.seen);
    udc_seen = subst (λ (p : Standing Record). IsPrefix old.udc.seen p.seen) (sym udc) (prefix_self old.udc.seen);
    moved = moved;
    still = still;
  }

  used_later : (a b c : Round L) → OneIsUsed a b → Progress b c → OneIsUsed a c
  used_later a b c (inl one) other = inl (used_still a.down b.down c.down one other.down)
  used_later a b c (inr one) other = inr (used_still a.up b.up c.up one other.up)

  later_used : (a b c : Round L) → Progress a b → OneIsUsed b c → OneIsUsed a c
  later_used a b c one (inl other) = inl (still_used a.down b.down c.down one.down other)
  later_used a b c one (inr other) = inr (still_used a.up b.up c.up one.up other)

  pub goes_on : (a b c : Round L) → Progress a b → Progress b c → Progress a c
  goes_on a b c one other = record {
    down = serves_on a.down b.down c.down one.down other.down;
    up = serves_on a.up b.up c.up one.up other.up;
    centre = omega (arith, one.centre, other.centre);
    udc = omega (arith, one.udc, other.udc);
    centre_told = omega (arith, one.centre_told, other.centre_told);
    udc_told = omega (arith, one.udc_told, other.udc_told);
    centre_failed = other.centre_failed ∙ one.centre_failed;
    udc_failed = other.udc_failed ∙ one.udc_failed;
    centre_seen = prefix_trans a.centre.seen b.centre.seen c.centre.seen one.centre_seen other.centre_seen;
    udc_seen = prefix_trans a.udc.seen b.udc.seen c.udc.seen one.udc_seen other.udc_seen;
    moved = λ moved.
        elim (other.moved moved) [
          | inl before ↦ elim (one.moved before) [ inl first ↦ inl first | inr used ↦ inr (used_later a b c used other) ]
          | inr used ↦ inr (later_used a b c one used)
        ];
    still = λ unmoved.
        let late = other.still unmoved in let early = one.still late.before in record {
          before = early.before;
          udc = late.udc ∙ early.udc;
          centre = late.centre ∙ early.centre;
          trip = late.trip ∙ early.trip;
          down = (late.down.0 ∙ early.down.0, late.down.1 ∙ early.down.1);
          up = (late.up.0 ∙ early.up.0, late.up.1 ∙ early.up.1);
        };
  }

module _ {L : Type 0} (k : links.Ghosts L) (udc_limits centre_limits : Limits) (udc_opening : List Record)
    (centre_opening : List CentreRecord) (C : ℕ) where
  -- why stages stopped so
  abbrev pub Fails : Round L → Round L → Stop → Type 0
  Fails old new stops.LinkFault = Rose (k.faults old.down) (k.faults new.down) ⊎ Rose (k.faults old.up) (k.faults new.up)
  Fails old new (stops.DiskFault failure) = (new.udc.failed ≡ old.udc.failed + 1) ⊎ (new.centre.failed ≡ old.centre.failed + 1)
  Fails old new (stops.Full node count) =
      ((node ≡ 0) × (request : UdcRequest) × IsFullFor udc.ghosts udc_limits udc_opening request new.udc count)
      ⊎ ((node ≡ centre_node C) × (request : IrcRequest)
      × IsFullFor (irc.ghosts (number C)) centre_limits centre_opening request new.centre count)
  Fails old new (stops.Memory stored) =
      IfSome stored (KeepsRecord udc_opening old.udc new.udc) ⊎ IfSome stored (KeepsRecord centre_opening old.centre new.centre)
  Fails old new (stops.Moved records items) = ⊥
  Fails old new stops.Idle = ⊥

  -- the stages went on, or stopped for a cause
  abbrev pub Comes : Round L → Round L → Option Stop → Type 0
  Comes old new None = Progress k old new
  Comes old new (Some why) = Fails old new why

  pub kept_later : {Rec : Type 0} (opening : List Rec) (a b c : Standing Rec) (place : ℕ) → IsPrefix a.seen b.seen → a.told ≤ b.told
      → KeepsRecord opening b c place → KeepsRecord opening a c place
  kept_later opening a b c place seen told is =
      (omega (arith, is.0, told), omega (arith, is.1, prefix_length a.seen b.seen seen))

  fails_later : (a b c : Round L) (why : Stop) → Progress k a b → Fails b c why → Fails a c why
  fails_later a b c stops.LinkFault one (inl rose) = inl (rose_later _ _ _ one.down.faults rose)
  fails_later a b c stops.LinkFault one (inr rose) = inr (rose_later _ _ _ one.up.faults rose)
  fails_later a b c (stops.DiskFault failure) one (inl is) = inl (omega (arith, is, one.udc_failed))
  fails_later a b c (stops.DiskFault failure) one (inr is) = inr (omega (arith, is, one.centre_failed))
  fails_later a b c (stops.Full node count) one is = is
  fails_later a b c (stops.Memory None) one is = inl tt
  fails_later a b c (stops.Memory (Some place)) one (inl is) =
      inl (kept_later udc_opening a.udc b.udc c.udc place one.udc_seen one.udc_told is)
  fails_later a b c (stops.Memory (Some place)) one (inr is) =
      inr (kept_later centre_opening a.centre b.centre c.centre place one.centre_seen one.centre_told is)
  fails_later a b c (stops.Moved records items) one is = is
  fails_later a b c stops.Idle one is = is

  comes_later : (a b c : Round L) (stop : Option Stop) → Progress k a b → Comes b c stop → Comes a c stop
  comes_later a b c None one other = goes_on k a b c one other
  comes_later a b c (Some why) one other = fails_later a b c why one other

  -- what is as it was goes on
  same : (old new : Round L) (stop : Option Stop) → new ≡ old → stop ≡ None → Comes old new stop
  same old new stop is none = subst (λ s. Comes old new s) (sym none) (subst (Progress k old) (sym is) (stays k old))

  -- ---- a packet is given

  given_down : (packet : List ℕ) (old : Round L) (link : L) → Gave k packet old.down link (Ok tt)
      → Progress k old (record old { down = link; trip = record old.trip { moved = true } })
  given_down packet old link gave =
      let rose = rises (k.given old.down) (k.given link) gave.given in
      linked k old _ (record { faults = gave.account.counted; given = inr rose; taken = inl gave.taken }) (serves_none k old.up) refl refl
      refl refl (λ moved. inr (inl (inl rose))) (λ unmoved. absurd (true≢false unmoved))

  given_up : (packet : List ℕ) (old : Round L) (link : L) → Gave k packet old.up link (Ok tt)
      → Progress k old (record old { up = link; trip = record old.trip { moved = true } })
  given_up packet old link gave =
      let rose = rises (k.given old.up) (k.given link) gave.given in
      linked k old _ (serves_none k old.down) (record { faults = gave.account.counted; given = inr rose; taken = inl gave.taken }) refl refl
      refl refl (λ moved. inr (inr (inl rose))) (λ unmoved. absurd (true≢false unmoved))

  pub gives_down : (going : Option Packet) (old new : Round L) (stop : Option Stop) → GivesDown k going old new stop → Comes old new stop
  gives_down None old new stop is =
      same old new stop (is.1 ∙ (λ i. record old { down = is.0.0 i; trip = is.0.1 i })) is.0.2
  gives_down (Some packet) old new stop is = by is.0.1 is.0.2 is.0.3
    where
      by : (result : Result (Unit {0}) Failed) → Gave k (packet_bytes packet) old.down new.down result
          → MatchResult result (λ _. (new.trip ≡ record old.trip { moved = true }) × (stop ≡ None))
          (λ _. (new.trip ≡ old.trip) × (stop ≡ Some stops.LinkFault)) → Comes old new stop
      by (Ok _) gave after =
          subst (λ s. Comes old new s) (sym after.1) (subst (Progress k old)
          (sym (is.1 ∙ (λ i. record old { down = new.down; trip = after.0 i })))
          (given_down (packet_bytes packet) old new.down gave))
      by (Err fault) gave after = subst (λ s. Comes old new s) (sym after.1) (inl (gave.account.failed refl))

  pub gives_up : (going : Option Packet) (old new : Round L) (stop : Option Stop) → GivesUp k going old new stop → Comes old new stop
  gives_up None old new stop is =
      same old new stop (is.1 ∙ (λ i. record old { up = is.0.0 i; trip = is.0.1 i })) is.0.2
  gives_up (Some packet) old new stop is = by is.0.1 is.0.2 is.0.3
    where
      by : (result : Result (Unit {0}) Failed) → Gave k (packet_bytes packet) old.up new.up result
          → MatchResult result (λ _. (new.trip ≡ record old.trip { moved = true }) × (stop ≡ None))
          (λ _. (new.trip ≡ old.trip) × (stop ≡ Some stops.LinkFault)) → Comes old new stop
      by (Ok _) gave after =
          subst (λ s. Comes old new s) (sym after.1) (subst (Progress k old)
          (sym (is.1 ∙ (λ i. record old { up = new.up; trip = after.0 i })))
          (given_up (packet_bytes packet) old new.up gave))
      by (Err fault) gave after = subst (λ s. Comes old new s) (sym after.1) (inr (gave.account.failed refl))

  -- ---- a node is asked

  -- a fault of an ask
  centre_fails : (request : IrcRequest) (old : Round L) (pass : Standing CentreRecord) (fault : AskFault)
      → HasFailed (irc.ghosts (number C)) centre_limits centre_opening request old.centre pass fault
      → Fails old (record old { centre = pass }) (ask_stop (centre_node C) fault)
  centre_fails request old pass (faults.Memory (Some place)) is = inr (omega (arith, is.0), is.2)
  centre_fails request old pass (faults.Memory None) is = inr tt
  centre_fails request old pass (faults.Disk failure) is = inr is.1
  centre_fails request old pass (faults.Full count) is = inr (refl, request, is.2)

  udc_fails : (request : UdcRequest) (old : Round L) (pass : Standing Record) (fault : AskFault)
      → HasFailed udc.ghosts udc_limits udc_opening request old.udc pass fault
      → Fails old (record old { udc = pass }) (ask_stop 0 fault)
  udc_fails request old pass (faults.Memory (Some place)) is = inl (omega (arith, is.0), is.2)
  udc_fails request old pass (faults.Memory None) is = inl tt
  udc_fails request old pass (faults.Disk failure) is = inl is.1
  udc_fails request old pass (faults.Full count) is = inl (refl, request, is.2)

  -- a trip that has moved something does not stand still
  no_still : (old new : Round L) → new.trip.moved ≡ true → new.trip.moved ≡ false → IsStill k old new
  no_still old new moved unmoved = absurd (true≢false (sym moved ∙ unmoved))

  -- ---- a packet is taken

  -- a take of nothing
  took_none : (old : Round L) (down up : L) → Serves k old.down down → Serves k old.up up → LinkIsUnused k old.down down
      → LinkIsUnused k old.up up → Progress k old (record old { down = down; up = up })
  took_none old down up serves_down serves_up still_down still_up =
      linked k old _ serves_down serves_up refl refl refl refl (λ moved. inl moved)
      (λ unmoved. record { before = unmoved; udc = refl; centre = refl; trip = refl; down = still_down; up = still_up })

  takes_down : (into : List ℕ) (result : Result (Option ℕ) Failed) (old : Round L) (link : L) → Took k into old.down link result
      → Comes old (record old { down = link; trip = trip_after_take result old.trip }) (stop_at_take result)
  takes_down into (Ok (Some n)) old link took =
      let rose = rises (k.taken old.down) (k.taken link) took.taken in
      linked k old _ (record { faults = took.account.counted; given = inl took.given; taken = inr rose }) (serves_none k old.up) refl refl
      refl refl (λ moved. inr (inl (inr rose))) (λ unmoved. absurd (true≢false unmoved))
  takes_down into (Ok None) old link took =
      took_none old link old.up (record { faults = took.account.counted; given = inl took.given; taken = inl took.taken })
      (serves_none k old.up) (took.given, took.taken) (refl, refl)
  takes_down into (Err fault) old link took = inl (took.account.failed refl)

  takes_up : (into : List ℕ) (result : Result (Option ℕ) Failed) (old : Round L) (link : L) → Took k into old.up link result
      → Comes old (record old { up = link; trip = trip_after_take result old.trip }) (stop_at_take result)
  takes_up into (Ok (Some n)) old link took =
      let rose = rises (k.taken old.up) (k.taken link) took.taken in
      linked k old _ (serves_none k old.down) (record { faults = took.account.counted; given = inl took.given; taken = inr rose }) refl refl
      refl refl (λ moved. inr (inr (inr rose))) (λ unmoved. absurd (true≢false unmoved))
  takes_up into (Ok None) old link took =
      took_none old old.down link (serves_none k old.down)
      (record { faults = took.account.counted; given = inl took.given; taken = inl took.taken }) (refl, refl) (took.given, took.taken)
  takes_up into (Err fault) old link took = inr (took.account.failed refl)

  -- ---- the round

  pub stages : (going_down going_up : Option Packet)
      → EachStage k udc_limits centre_limits udc_opening centre_opening C going_down going_up Comes
  stages going_down going_up = record {
    later = comes_later;
    gives_down = gives_down going_down;
    gives_up = gives_up going_up;
    takes_down = takes_down;
    takes_up = takes_up;
    answers_down = λ packet old new stop right is. gives_down packet old new stop is;
    answers_up = λ packet old new stop right is. gives_up packet old new stop is;
    hears = λ old trip moved still applied taken_up.
        linked k old _ (serves_none k old.down) (serves_none k old.up) refl refl applied taken_up (λ after. inl moved) (no_still old _ still);
    applies = λ n rec old pass told moved is.
        let done = applied_answer C centre_limits centre_opening n rec old.centre pass told is.asks.prefix is.comes.0 in record {
          down = serves_none k old.down;
          up = serves_none k old.up;
          centre = omega (arith, done.told);
          udc = refl;
          centre_told = omega (arith, done.told);
          udc_told = omega arith;
          centre_failed = is.comes.1;
          udc_failed = refl;
          centre_seen = is.asks.prefix;
          udc_seen = prefix_self old.udc.seen;
          moved = λ after. inl moved;
          still = no_still old _ moved;
        };
    applies_not = λ n rec old pass fault is. centre_fails (Apply n rec) old pass fault is.comes;
    takes_item = λ number item old pass told moved is.
        let done = taken_answer C udc_limits udc_opening number item old.udc pass told is.asks.prefix is.comes.0 in record {
          down = serves_none k old.down;
          up = serves_none k old.up;
          centre = refl;
          udc = omega (arith, done.told);
          centre_told = omega arith;
          udc_told = omega (arith, done.told);
          centre_failed = refl;
          udc_failed = is.comes.1;
          centre_seen = prefix_self old.centre.seen;
          udc_seen = is.asks.prefix;
          moved = λ after. inl moved;
          still = no_still old _ moved;
        };
    takes_item_not = λ number item old pass fault is. udc_fails (TakeUp C number item) old pass fault is.comes;
  }
