-- Rounds that are made one after another.
use Rattle.std.proofs.Common.{◌≡◌, ℕ, Bool, true, false, List, [], ◌∷◌, Option, refl, ap, sym, ◌∙◌, subst, arith, true≢false}
use Rattle.std.specs.Prelude.{◌||◌}
use Rattle.pv_outside.specs.declared.limits.Limits.{Limits}
use Rattle.pv_outside.specs.declared.link.Link as links
use Rattle.pv_node.specs.declared.rules.Rules as rules
use Rattle.pv_edits.specs.declared.record.Record.{Record}
use Rattle.pv_irc.specs.History.{CentreState}
use Rattle.pv_irc.specs.declared.record.CentreRecord.{CentreRecord}
use Rattle.pv_irc.specs.declared.reply.IrcReply.{IrcReply}
use Rattle.pv_irc.specs.declared.request.IrcRequest.{IrcRequest}
use Rattle.pv_udc.specs.EditList.{EditList}
use Rattle.pv_udc.specs.declared.reply.UdcReply.{UdcReply}
use Rattle.pv_udc.specs.declared.request.UdcRequest.{UdcRequest}
use Rattle.pv_ports.specs.Outcomes.{HasMemory, HaveSeenTold}
use Rattle.pv_ports.specs.Round.{CarrierState, Stop}
use Rattle.pv_ports.specs.declared.round_end.RoundEnd.TheVariants as stops
use Rattle.pv_service.specs.Chain.{any_is}
use Rattle.pv_service.specs.Rounds.{CarrierPlace, RoundGoesOn, LastRoundIs, round_lacked_memory, HoldsRight, MakesRound, MakesRounds, HasMadeSome, HasCarried}
use Rattle.pv_service.specs.declared.carrier_report.CarrierFault.{CarrierFault}

-- neither of two is so, if not one of them is
neither : (a b : Bool) → (a || b) ≡ false → (a ≡ false) × (b ≡ false)
neither false false none = (refl, refl)
neither false true none = absurd (true≢false none)
neither true b none = absurd (true≢false none)

-- a round that did not lack memory had some
had_memory : (stop : Stop) → round_lacked_memory stop ≡ false → HasMemory stop
had_memory (stops.Moved records items) none = tt
had_memory stops.Idle none = tt
had_memory stops.LinkFault none = tt
had_memory (stops.DiskFault failure) none = tt
had_memory (stops.Full node count) none = tt
had_memory (stops.Memory stored) none = absurd (true≢false none)

module _ (udc_opening : List Record) (centre_opening : List CentreRecord) (C : ℕ) where
  -- nothing was stored
  sees_same : (now : CarrierState) → HaveSeenTold udc_opening centre_opening C now now
  sees_same now = record { applied = omega arith; taken_up = omega arith }

  -- and some more was
  sees_later : (a b c : CarrierState) → HaveSeenTold udc_opening centre_opening C a b → HaveSeenTold udc_opening centre_opening C b c
      → HaveSeenTold udc_opening centre_opening C a c
  sees_later a b c one other = record {
    applied = omega (arith, one.applied, other.applied);
    taken_up = omega (arith, one.taken_up, other.taken_up);
  }

module _ {SU SC L : Type 0} (u : rules.Ghosts SU EditList UdcRequest Record UdcReply)
    (c : rules.Ghosts SC CentreState IrcRequest CentreRecord IrcReply) (k : links.Ghosts L) (udc_limits centre_limits : Limits)
    (udc_opening : List Record) (centre_opening : List CentreRecord) (C : ℕ) where
  -- no round was made yet
  pub makes_none : (now : CarrierPlace L) → HasMadeSome u c k udc_limits centre_limits udc_opening centre_opening C now now false
  makes_none now = record { stops = []; rounds = refl; memory_is = refl; goes_on = tt }

  -- if all packets were right before some rounds, they are after them
  stays_right : (stops : List Stop) (old new : CarrierPlace L)
      → MakesRounds u c k udc_limits centre_limits udc_opening centre_opening C stops old new
      → HoldsRight k udc_opening centre_opening C old → HoldsRight k udc_opening centre_opening C new
  stays_right [] old new same right = subst (HoldsRight k udc_opening centre_opening C) (sym same) right
  stays_right (last ∷ earlier) old new (before, rounds, round) right = round.right (stays_right earlier old before rounds right)

  -- if none of these rounds lacked memory, the passes have seen what was stored for them
  sees_told : (stops : List Stop) (old new : CarrierPlace L)
      → MakesRounds u c k udc_limits centre_limits udc_opening centre_opening C stops old new
      → any_is round_lacked_memory stops ≡ false → HaveSeenTold udc_opening centre_opening C old.carrier new.carrier
  sees_told [] old new same none =
      subst (λ (at : CarrierPlace L). HaveSeenTold udc_opening centre_opening C old.carrier at.carrier) (sym same)
      (sees_same udc_opening centre_opening C old.carrier)
  sees_told (last ∷ earlier) old new (before, rounds, round) none =
      let each = neither (any_is round_lacked_memory earlier) (round_lacked_memory last) none in
      sees_later udc_opening centre_opening C old.carrier before.carrier new.carrier (sees_told earlier old before rounds each.0)
      (round.seen (had_memory last each.1))

  module _ (old mid new : CarrierPlace L) (stop : Stop) (memory now : Bool)
      (some : HasMadeSome u c k udc_limits centre_limits udc_opening centre_opening C old mid memory)
      (next : MakesRound u c k udc_limits centre_limits udc_opening centre_opening C mid stop new)
      (noted : now ≡ (memory || round_lacked_memory stop)) where
    -- one more was made, and goes on
    pub makes_more : RoundGoesOn stop → HasMadeSome u c k udc_limits centre_limits udc_opening centre_opening C old new now
    makes_more goes = record {
      stops = stop ∷ some.stops;
      rounds = (mid, some.rounds, next);
      memory_is = noted ∙ ap (λ (b : Bool). b || round_lacked_memory stop) some.memory_is;
      goes_on = (some.goes_on, goes);
    }

    -- the last one was made
    pub makes_last : {D F : Type 0} (fault : Option (CarrierFault D F)) → LastRoundIs fault stop
        → HasCarried u c k udc_limits centre_limits udc_opening centre_opening C old new (record { memory = now; fault = fault })
    makes_last fault is =
        let made : MakesRounds u c k udc_limits centre_limits udc_opening centre_opening C (stop ∷ some.stops) old new =
        (mid, some.rounds, next) in
        let lacked = noted ∙ ap (λ (b : Bool). b || round_lacked_memory stop) some.memory_is in
        record {
          last = stop;
          earlier = some.stops;
          rounds = made;
          memory_is = lacked;
          goes_on = some.goes_on;
          ends = is;
          right = stays_right (stop ∷ some.stops) old new made;
          seen = λ none. sees_told (stop ∷ some.stops) old new made (sym lacked ∙ none);
        }
