-- What holds of each stage of a round, and of a stage after another, holds of the whole round.
use Rattle.std.proofs.Common.{◌≡◌, inl, inr, ℕ, Bool, true, false, List, Option, Some, None, Result, Ok, Err, refl, ap, sym, ◌∙◌, subst}
use Rattle.std.specs.Prelude.{IfSome, option_map}
use denote.Param.{number}
use Rattle.pv_outside.specs.declared.failed.Failed.{Failed}
use Rattle.pv_outside.specs.declared.limits.Limits.{Limits}
use Rattle.pv_outside.specs.declared.link.Link as links
use Rattle.pv_node.specs.declared.decision.Told.{Told}
use Rattle.pv_post.specs.declared.item.Item.{Item}
use Rattle.pv_edits.specs.declared.down.DownRecord.{DownRecord}
use Rattle.pv_edits.specs.declared.record.Record.{Record}
use Rattle.pv_irc.specs.contracts.rules.IrcRulesRules.TheImpl as irc
use Rattle.pv_irc.specs.declared.record.CentreRecord.{CentreRecord}
use Rattle.pv_irc.specs.declared.reply.IrcReply.{IrcReply}
use Rattle.pv_link.specs.Sending.{end_that_heard}
use Rattle.pv_live.specs.Entries.{with_opening}
use Rattle.pv_live.specs.Pass.{Standing}
use Rattle.pv_packet.specs.declared.packet.Packet.{Packet}
use Rattle.pv_packet.specs.declared.packet.Packet.TheVariants.{Down, Up, DownHeard, UpHeard}
use Rattle.pv_udc.specs.contracts.rules.UdcRulesRules.TheImpl as udc
use Rattle.pv_udc.specs.declared.reply.UdcReply.{UdcReply}
use Rattle.pv_ports.specs.Rights.{GoesDown, GoesUp}
use Rattle.pv_ports.specs.Round.{Round, Stop, Took, InTurn, UpToTwo, ReceivesNext, GivesDown, GivesUp, HandlesDown, HandlesUp, HandlesTaken, AnswersRecord, AnswersItem, AppliesRecord, TakesItemUp, ReceivesDown, ReceivesUp, Carries, applied_by, taken_by, trip_after_record, trip_after_item, trip_after_take, came_by, stop_in, ask_stop, centre_node}
use Rattle.pv_ports.specs.Session.{AskFault}
use Rattle.pv_ports.specs.declared.round_end.RoundEnd.TheVariants as stops
use Rattle.pv_ports.specs.declared.trip.Trip.{Trip}
use Rattle.pv_ports.proofs.Judging.{applied_answer, taken_answer}

-- why the round stops at a take, if it does
abbrev pub stop_at_take : Result (Option ℕ) Failed → Option Stop
stop_at_take (Ok length) = None
stop_at_take (Err fault) = Some stops.LinkFault

-- a packet that stops the round stops it for that
same_stop_in : (stop : Option Stop) → stop_in (came_by stop) ≡ stop
same_stop_in None = refl
same_stop_in (Some why) = refl

-- what holds of each acknowledgement holds of the one that is given, if one is
heard_of : (heard : ℕ → Packet) (P : Packet → Type 0) (count : Option ℕ) → IfSome count (λ m. P (heard m))
    → IfSome (option_map heard count) P
heard_of heard P None is = tt
heard_of heard P (Some m) is = is

module _ {L : Type 0} (k : links.Ghosts L) (udc_limits centre_limits : Limits) (udc_opening : List Record)
    (centre_opening : List CentreRecord) (C : ℕ) (going_down going_up : Option Packet) where
  -- Each stage is so, and what follows a stage that did not stop the round is so from before that stage.
  pub record EachStage (R : Round L → Round L → Option Stop → Type 0) : Type 0 where
    pub later : (a b c : Round L) (stop : Option Stop) → R a b None → R b c stop → R a c stop
    pub gives_down : (old new : Round L) (stop : Option Stop) → GivesDown k going_down old new stop → R old new stop
    pub gives_up : (old new : Round L) (stop : Option Stop) → GivesUp k going_up old new stop → R old new stop
    pub takes_down : (into : List ℕ) (result : Result (Option ℕ) Failed) (old : Round L) (link : L) → Took k into old.down link result
        → R old (record old { down = link; trip = trip_after_take result old.trip }) (stop_at_take result)
    pub takes_up : (into : List ℕ) (result : Result (Option ℕ) Failed) (old : Round L) (link : L) → Took k into old.up link result
        → R old (record old { up = link; trip = trip_after_take result old.trip }) (stop_at_take result)
    -- an acknowledgement is given, of no more than is stored
    pub answers_down : (packet : Option Packet) (old new : Round L) (stop : Option Stop)
        → IfSome packet (GoesDown (with_opening udc_opening old.udc.seen)) → GivesDown k packet old new stop → R old new stop
    pub answers_up : (packet : Option Packet) (old new : Round L) (stop : Option Stop)
        → IfSome packet (GoesUp (with_opening centre_opening old.centre.seen)) → GivesUp k packet old new stop → R old new stop
    -- a packet for which nothing is asked: a sending end hears it, or it is dropped
    pub hears : (old : Round L) (trip : Trip) → old.trip.moved ≡ true → trip.moved ≡ true → trip.applied ≡ old.trip.applied
        → trip.taken_up ≡ old.trip.taken_up → R old (record old { trip = trip }) None
    -- the centre is asked to apply a record
    pub applies : (n : ℕ) (rec : DownRecord) (old : Round L) (pass : Standing CentreRecord) (told : Told IrcReply) → old.trip.moved ≡ true
        → AppliesRecord (irc.ghosts (number C)) centre_limits centre_opening C n rec old.centre pass (Ok told)
        → R old (record old { centre = pass; trip = trip_after_record told.reply old.trip }) None
    pub applies_not : (n : ℕ) (rec : DownRecord) (old : Round L) (pass : Standing CentreRecord) (fault : AskFault)
        → AppliesRecord (irc.ghosts (number C)) centre_limits centre_opening C n rec old.centre pass (Err fault)
        → R old (record old { centre = pass }) (Some (ask_stop (centre_node C) fault))
    -- the Update Centre is asked to take an item up
    pub takes_item : (number : ℕ) (item : Item) (old : Round L) (pass : Standing Record) (told : Told UdcReply) → old.trip.moved ≡ true
        → TakesItemUp udc.ghosts udc_limits udc_opening C number item old.udc pass (Ok told)
        → R old (record old { udc = pass; trip = trip_after_item told.reply old.trip }) None
    pub takes_item_not : (number : ℕ) (item : Item) (old : Round L) (pass : Standing Record) (fault : AskFault)
        → TakesItemUp udc.ghosts udc_limits udc_opening C number item old.udc pass (Err fault)
        → R old (record old { udc = pass }) (Some (ask_stop 0 fault))

  module _ (R : Round L → Round L → Option Stop → Type 0) (each : EachStage R) where
    -- a packet for which nothing is asked
    heard : (old new : Round L) (trip : Trip) (stop : Option Stop) → old.trip.moved ≡ true → trip.moved ≡ true
        → trip.applied ≡ old.trip.applied → trip.taken_up ≡ old.trip.taken_up → (new ≡ record old { trip = trip }) × (stop ≡ None)
        → R old new stop
    heard old new trip stop moved still applied taken_up is =
        subst (λ (s : Option Stop). R old new s) (sym is.1)
        (subst (λ (r : Round L). R old r None) (sym is.0) (each.hears old trip moved still applied taken_up))

    -- a packet that came down is handled
    handles_down : (packet : Option Packet) (old new : Round L) (stop : Option Stop) → old.trip.moved ≡ true
        → HandlesDown (irc.ghosts (number C)) k centre_limits centre_opening C packet old new stop → R old new stop
    handles_down (Some (Down centre n rec)) old new stop moved is = by is.1 is.2 is.3
      where
        by : (result : Result (Told IrcReply) AskFault)
            → AppliesRecord (irc.ghosts (number C)) centre_limits centre_opening C n rec old.centre is.0 result
            → AnswersRecord (irc.ghosts (number C)) k centre_limits centre_opening C n result (record old { centre = is.0 }) new stop
            → R old new stop
        by (Ok told) applies answers =
            let counted : Round L = record old { centre = is.0; trip = trip_after_record told.reply old.trip } in
            let done = applied_answer C centre_limits centre_opening n rec old.centre is.0 told applies.asks.prefix applies.comes.0 in
            each.later old counted new stop (each.applies n rec old is.0 told moved applies)
            (each.answers_up (option_map (DownHeard C) (applied_by n told.reply)) counted new stop
            (heard_of (DownHeard C) (GoesUp (with_opening centre_opening is.0.seen)) (applied_by n told.reply) done.heard) answers)
        by (Err fault) applies answers =
            subst (λ (s : Option Stop). R old new s) (sym answers.1)
            (subst (λ (r : Round L). R old r (Some (ask_stop (centre_node C) fault))) (sym answers.0)
            (each.applies_not n rec old is.0 fault applies))
    handles_down (Some (UpHeard centre count)) old new stop moved is =
        heard old new (record old.trip { posting = end_that_heard old.trip.posting count old.trip.item_count }) stop moved moved refl refl is
    handles_down (Some (Up centre number item)) old new stop moved is = heard old new old.trip stop moved moved refl refl is
    handles_down (Some (DownHeard centre count)) old new stop moved is = heard old new old.trip stop moved moved refl refl is
    handles_down None old new stop moved is = heard old new old.trip stop moved moved refl refl is

    -- a packet that came up is handled
    handles_up : (packet : Option Packet) (old new : Round L) (stop : Option Stop) → old.trip.moved ≡ true
        → HandlesUp udc.ghosts k udc_limits udc_opening C packet old new stop → R old new stop
    handles_up (Some (Up centre number item)) old new stop moved is = by is.1 is.2 is.3
      where
        by : (result : Result (Told UdcReply) AskFault)
            → TakesItemUp udc.ghosts udc_limits udc_opening C number item old.udc is.0 result
            → AnswersItem udc.ghosts k udc_limits udc_opening C number result (record old { udc = is.0 }) new stop → R old new stop
        by (Ok told) takes answers =
            let counted : Round L = record old { udc = is.0; trip = trip_after_item told.reply old.trip } in
            let done = taken_answer C udc_limits udc_opening number item old.udc is.0 told takes.asks.prefix takes.comes.0 in
            each.later old counted new stop (each.takes_item number item old is.0 told moved takes)
            (each.answers_down (option_map (UpHeard C) (taken_by number told.reply)) counted new stop
            (heard_of (UpHeard C) (GoesDown (with_opening udc_opening is.0.seen)) (taken_by number told.reply) done.heard) answers)
        by (Err fault) takes answers =
            subst (λ (s : Option Stop). R old new s) (sym answers.1)
            (subst (λ (r : Round L). R old r (Some (ask_stop 0 fault))) (sym answers.0) (each.takes_item_not number item old is.0 fault takes))
    handles_up (Some (DownHeard centre count)) old new stop moved is =
        heard old new (record old.trip { sending = end_that_heard old.trip.sending count old.trip.record_count }) stop moved moved refl refl is
    handles_up (Some (Down centre n rec)) old new stop moved is = heard old new old.trip stop moved moved refl refl is
    handles_up (Some (UpHeard centre count)) old new stop moved is = heard old new old.trip stop moved moved refl refl is
    handles_up None old new stop moved is = heard old new old.trip stop moved moved refl refl is

    -- what was taken is handled
    handled : (Handles : Option Packet → Round L → Round L → Option Stop → Type 0)
        → ((packet : Option Packet) (old new : Round L) (stop : Option Stop) → old.trip.moved ≡ true → Handles packet old new stop
        → R old new stop)
        → (into : List ℕ) (result : Result (Option ℕ) Failed) (taken_by : Trip → Round L) (old new : Round L) (came : Result Bool Stop)
        → ((trip : Trip) → (taken_by trip).trip ≡ trip)
        → R old (taken_by (trip_after_take result old.trip)) (stop_at_take result)
        → HandlesTaken k C Handles into result (taken_by (trip_after_take result old.trip)) new came → R old new (stop_in came)
    handled Handles handles into (Ok (Some n)) taken_by old new came same took is =
        let moved = record old.trip { moved = true } in
        subst (R old new) (sym (ap stop_in is.4 ∙ same_stop_in is.1))
        (each.later old (taken_by moved) new is.1 took
        (handles is.0 (taken_by moved) new is.1 (ap (λ (t : Trip). t.moved) (same moved)) is.3))
    handled Handles handles into (Ok None) taken_by old new came same took is =
        subst (R old new) (sym (ap stop_in is.1)) (subst (λ (r : Round L). R old r None) (sym is.0) took)
    handled Handles handles into (Err fault) taken_by old new came same took is =
        subst (R old new) (sym (ap stop_in is.1)) (subst (λ (r : Round L). R old r (Some stops.LinkFault)) (sym is.0) took)

    receives_down : (old new : Round L) (came : Result Bool Stop)
        → ReceivesDown (irc.ghosts (number C)) k centre_limits centre_opening C old new came → R old new (stop_in came)
    receives_down old new came is =
        handled (HandlesDown (irc.ghosts (number C)) k centre_limits centre_opening C) handles_down is.1 is.2
        (λ trip. record old { down = is.0; trip = trip }) old new came (λ trip. refl) (each.takes_down is.1 is.2 old is.0 is.3) is.4

    receives_up : (old new : Round L) (came : Result Bool Stop) → ReceivesUp udc.ghosts k udc_limits udc_opening C old new came
        → R old new (stop_in came)
    receives_up old new came is =
        handled (HandlesUp udc.ghosts k udc_limits udc_opening C) handles_up is.1 is.2
        (λ trip. record old { up = is.0; trip = trip }) old new came (λ trip. refl) (each.takes_up is.1 is.2 old is.0 is.3) is.4

    -- up to two packets
    up_to_two : (Receives : Round L → Round L → Result Bool Stop → Type 0)
        → ((old new : Round L) (came : Result Bool Stop) → Receives old new came → R old new (stop_in came))
        → (old new : Round L) (stop : Option Stop) → UpToTwo Receives old new stop → R old new stop
    up_to_two Receives receives old new stop is = next is.1 (receives old is.0 is.1 is.2) is.3
      where
        next : (came : Result Bool Stop) → R old is.0 (stop_in came) → ReceivesNext Receives came is.0 new stop → R old new stop
        next (Ok true) first other =
            subst (R old new) (sym other.2) (each.later old is.0 new (stop_in other.0) first (receives is.0 new other.0 other.1))
        next (Ok false) first other =
            subst (R old new) (sym other.1) (subst (λ (r : Round L). R old r None) (sym other.0) first)
        next (Err why) first other =
            subst (R old new) (sym other.1) (subst (λ (r : Round L). R old r (Some why)) (sym other.0) first)

    -- one stage and then another
    both : (First Second : Round L → Round L → Option Stop → Type 0)
        → ((old new : Round L) (stop : Option Stop) → First old new stop → R old new stop)
        → ((old new : Round L) (stop : Option Stop) → Second old new stop → R old new stop)
        → (old new : Round L) (stop : Option Stop) → InTurn First Second old new stop → R old new stop
    both First Second one other old new stop (inl is) = subst (R old new) (sym is.2) (one old new (Some is.0) is.1)
    both First Second one other old new stop (inr is) = each.later old is.0 new stop (one old is.0 None is.1) (other is.0 new stop is.2)

    -- all that has come is taken
    pub received : (old new : Round L) (stop : Option Stop)
        → InTurn (UpToTwo (ReceivesDown (irc.ghosts (number C)) k centre_limits centre_opening C))
        (UpToTwo (ReceivesUp udc.ghosts k udc_limits udc_opening C)) old new stop → R old new stop
    received = both _ _ (up_to_two _ receives_down) (up_to_two _ receives_up)

    -- what goes up is given, and then that
    pub after_down : (old new : Round L) (stop : Option Stop)
        → InTurn (GivesUp k going_up) (InTurn (UpToTwo (ReceivesDown (irc.ghosts (number C)) k centre_limits centre_opening C))
        (UpToTwo (ReceivesUp udc.ghosts k udc_limits udc_opening C))) old new stop → R old new stop
    after_down = both _ _ each.gives_up received

    -- all that a round does after its looks
    pub carried : (old new : Round L) (stop : Option Stop)
        → Carries udc.ghosts (irc.ghosts (number C)) k udc_limits centre_limits udc_opening centre_opening C going_down going_up old new stop
        → R old new stop
    carried = both _ _ each.gives_down after_down
