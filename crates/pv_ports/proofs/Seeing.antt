-- A round's passes have seen what was stored for them, unless it ran out of memory.
use Rattle.std.proofs.Common.{◌≡◌, ℕ, ◌≤◌, List, Option, Some, None, refl, ap, sym, subst, arith}
use Rattle.std.specs.Prelude.{IfSome, unwrap_or}
use mathlib.Core.List.{IsPrefix}
use denote.Param.{number}
use Rattle.pv_outside.specs.declared.limits.Limits.{Limits}
use Rattle.pv_outside.specs.declared.link.Link as links
use Rattle.pv_node.specs.declared.rules.Rules as rules
use Rattle.pv_edits.specs.Edits.{taken_of}
use Rattle.pv_edits.specs.declared.record.Record.{Record}
use Rattle.pv_irc.specs.History.{applied_of}
use Rattle.pv_irc.specs.contracts.rules.IrcRulesRules.TheImpl as irc
use Rattle.pv_irc.specs.declared.record.CentreRecord.{CentreRecord}
use Rattle.pv_irc.specs.declared.request.IrcRequest.TheVariants.{Apply}
use Rattle.pv_live.specs.Asking.{HasFailed}
use Rattle.pv_live.specs.Entries.{with_opening}
use Rattle.pv_live.specs.Pass.{Standing}
use Rattle.pv_live.specs.declared.entry.Entry.{Entry}
use Rattle.pv_live.specs.declared.fault.LiveFault.TheVariants as faults
use Rattle.pv_udc.specs.contracts.rules.UdcRulesRules.TheImpl as udc
use Rattle.pv_udc.specs.declared.request.UdcRequest.TheVariants.{TakeUp}
use Rattle.pv_ports.specs.Outcomes.{RisesByTold, HaveSeenTold, HasMemory}
use Rattle.pv_ports.specs.Round.{CarrierState, Round, Stop, IsRound, trip_after_take, ask_stop, end_of_trip, centre_node}
use Rattle.pv_ports.specs.Session.{AskFault}
use Rattle.pv_ports.proofs.Growing.{applied_grows, taken_grows}
use Rattle.pv_ports.proofs.Judging.{applied_answer, taken_answer}
use Rattle.pv_ports.proofs.Walking.{carried, stop_at_take}

module _ {Rec : Type 0} (count : List Rec → ℕ) (opening : List Rec) where
  -- a pass for which nothing was stored has seen as much as before, or more
  rises_untold : ((one other : List (Entry Rec)) → IsPrefix one other
      → count (with_opening opening one) ≤ count (with_opening opening other))
      → (old new : Standing Rec) → new.told ≡ old.told → IsPrefix old.seen new.seen → RisesByTold count opening old new
  rises_untold grows old new told seen = omega (arith, told, grows old.seen new.seen seen)

  rises_later : (a b c : Standing Rec) → RisesByTold count opening a b → RisesByTold count opening b c → RisesByTold count opening a c
  rises_later a b c one other = omega (arith, one, other)

  rises_same : (old new : Standing Rec) → new ≡ old → RisesByTold count opening old new
  rises_same old new same = subst (λ (p : Standing Rec). RisesByTold count opening old p) (sym same) (omega arith)

-- an ask with a fault has stored no record, unless memory ran out
untold : {S State Request Rec Reply : Type 0} (r : rules.Ghosts S State Request Rec Reply) (limits : Limits) (opening : List Rec)
    (node : ℕ) (request : Request) (old new : Standing Rec) (fault : AskFault) → HasMemory (ask_stop node fault)
    → HasFailed r limits opening request old new fault → new.told ≡ old.told
untold r limits opening node request old new (faults.Memory stored) published is = absurd published
untold r limits opening node request old new (faults.Disk failure) published is = is.0
untold r limits opening node request old new (faults.Full count) published is = is.0

module _ {L : Type 0} (k : links.Ghosts L) (udc_limits centre_limits : Limits) (udc_opening : List Record)
    (centre_opening : List CentreRecord) (C : ℕ) where
  abbrev Centre : Standing CentreRecord → Standing CentreRecord → Type 0
  Centre old new = RisesByTold applied_of centre_opening old new

  abbrev Udc : Standing Record → Standing Record → Type 0
  Udc old new = RisesByTold (λ records. taken_of records C) udc_opening old new

  -- both passes have seen what stages told them, if all is published
  abbrev Sees : Round L → Round L → Option Stop → Type 0
  Sees old new stop = IfSome stop HasMemory → Centre old.centre new.centre × Udc old.udc new.udc

  centre_same : (old new : Standing CentreRecord) → new ≡ old → Centre old new
  centre_same = rises_same applied_of centre_opening

  udc_same : (old new : Standing Record) → new ≡ old → Udc old new
  udc_same = rises_same (λ records. taken_of records C) udc_opening

  -- nothing was asked
  stays : (old new : Round L) (stop : Option Stop) → new.centre ≡ old.centre → new.udc ≡ old.udc → Sees old new stop
  stays old new stop centre udc = λ published. (centre_same old.centre new.centre centre, udc_same old.udc new.udc udc)

  -- Unless the round ran out of memory, the passes have seen what was stored for them.
  pub sees_told : (old new : CarrierState) (old_down old_up new_down new_up : L) (end : Stop)
      → IsRound udc.ghosts (irc.ghosts (number C)) k udc_limits centre_limits udc_opening centre_opening C old old_down old_up new
      new_down new_up end
      → HasMemory end → HaveSeenTold udc_opening centre_opening C old new
  sees_told old new old_down old_up new_down new_up end is published =
      let first = is.first in
      let last = is.last in
      let seen = carried k udc_limits centre_limits udc_opening centre_opening C is.going_down is.going_up Sees (record {
        later = λ a b c stop one other published.
            let before = one tt in
            let after = other published in (
              rises_later applied_of centre_opening a.centre b.centre c.centre before.0 after.0,
              rises_later (λ records. taken_of records C) udc_opening a.udc b.udc c.udc before.1 after.1,
            );
        gives_down = λ old new stop is. stays old new stop (ap (λ (r : Round L). r.centre) is.1) (ap (λ (r : Round L). r.udc) is.1);
        gives_up = λ old new stop is. stays old new stop (ap (λ (r : Round L). r.centre) is.1) (ap (λ (r : Round L). r.udc) is.1);
        takes_down = λ into result old link is.
            stays old (record old { down = link; trip = trip_after_take result old.trip }) (stop_at_take result) refl refl;
        takes_up = λ into result old link is.
            stays old (record old { up = link; trip = trip_after_take result old.trip }) (stop_at_take result) refl refl;
        answers_down = λ packet old new stop right is.
            stays old new stop (ap (λ (r : Round L). r.centre) is.1) (ap (λ (r : Round L). r.udc) is.1);
        answers_up = λ packet old new stop right is.
            stays old new stop (ap (λ (r : Round L). r.centre) is.1) (ap (λ (r : Round L). r.udc) is.1);
        hears = λ old trip moved still applied taken_up. stays old (record old { trip = trip }) None refl refl;
        applies = λ n rec old pass told moved is published. (
          (applied_answer C centre_limits centre_opening n rec old.centre pass told is.asks.prefix is.comes.0).seen,
          udc_same old.udc old.udc refl,
        );
        applies_not = λ n rec old pass fault is published. (
          rises_untold applied_of centre_opening (applied_grows centre_opening) old.centre pass
              (untold (irc.ghosts (number C)) centre_limits centre_opening (centre_node C) (Apply n rec) old.centre pass fault published
              is.comes) is.asks.prefix,
          udc_same old.udc old.udc refl,
        );
        takes_item = λ number item old pass told moved is published. (
          centre_same old.centre old.centre refl,
          (taken_answer C udc_limits udc_opening number item old.udc pass told is.asks.prefix is.comes.0).seen,
        );
        takes_item_not = λ number item old pass fault is published. (
          centre_same old.centre old.centre refl,
          rises_untold (λ records. taken_of records C) udc_opening (taken_grows C udc_opening) old.udc pass
              (untold udc.ghosts udc_limits udc_opening 0 (TakeUp C number item) old.udc pass fault published is.comes) is.asks.prefix,
        );
      }) first last is.stop is.carries (all is.stop is.ends) in
      record {
        applied =
            subst (λ (s : CarrierState). Centre old.centre s.centre) (sym is.state)
            (rises_later applied_of centre_opening old.centre first.centre last.centre
            (rises_untold applied_of centre_opening (applied_grows centre_opening) old.centre first.centre
            (ap (λ (p : Standing CentreRecord). p.told) is.looks_up.looks.same) is.looks_up.looks.prefix) seen.0);
        taken_up =
            subst (λ (s : CarrierState). Udc old.udc s.udc) (sym is.state)
            (rises_later (λ records. taken_of records C) udc_opening old.udc first.udc last.udc
            (rises_untold (λ records. taken_of records C) udc_opening (taken_grows C udc_opening) old.udc first.udc
            (ap (λ (p : Standing Record). p.told) is.looks_down.looks.same) is.looks_down.looks.prefix) seen.1);
      }
    where
      all : (stop : Option Stop) → end ≡ unwrap_or stop (end_of_trip is.last.trip) → IfSome stop HasMemory
      all None ends = tt
      all (Some why) ends = subst HasMemory ends published
