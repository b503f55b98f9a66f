-- Unless a disk's call failed in a round, no ask of its passes did.
use Rattle.std.proofs.Common.{◌≡◌, ℕ, List, Option, Some, None, refl, ap, sym, ◌∙◌, subst}
use Rattle.std.specs.Prelude.{IfSome, unwrap_or}
use denote.Param.{number}
use Rattle.pv_outside.specs.declared.limits.Limits.{Limits}
use Rattle.pv_outside.specs.declared.link.Link as links
use Rattle.pv_node.specs.declared.rules.Rules as rules
use Rattle.pv_edits.specs.declared.record.Record.{Record}
use Rattle.pv_irc.specs.contracts.rules.IrcRulesRules.TheImpl as irc
use Rattle.pv_irc.specs.declared.record.CentreRecord.{CentreRecord}
use Rattle.pv_irc.specs.declared.request.IrcRequest.TheVariants.{Apply}
use Rattle.pv_live.specs.Asking.{HasFailed}
use Rattle.pv_live.specs.Pass.{Standing}
use Rattle.pv_live.specs.declared.fault.LiveFault.TheVariants as faults
use Rattle.pv_udc.specs.contracts.rules.UdcRulesRules.TheImpl as udc
use Rattle.pv_udc.specs.declared.request.UdcRequest.TheVariants.{TakeUp}
use Rattle.pv_ports.specs.Outcomes.{DisksHeld, NoAskFailed}
use Rattle.pv_ports.specs.Round.{CarrierState, Round, Stop, IsRound, trip_after_take, ask_stop, end_of_trip, centre_node}
use Rattle.pv_ports.specs.Session.{AskFault}
use Rattle.pv_ports.proofs.Walking.{carried, stop_at_take}

-- an ask with another fault has not failed on the disk
unfailed : {S State Request Rec Reply : Type 0} (r : rules.Ghosts S State Request Rec Reply) (limits : Limits) (opening : List Rec)
    (node : ℕ) (request : Request) (old new : Standing Rec) (fault : AskFault) → DisksHeld (ask_stop node fault)
    → HasFailed r limits opening request old new fault → new.failed ≡ old.failed
unfailed r limits opening node request old new (faults.Memory None) held is = is.1
unfailed r limits opening node request old new (faults.Memory (Some place)) held is = is.1
unfailed r limits opening node request old new (faults.Disk failure) held is = absurd held
unfailed r limits opening node request old new (faults.Full count) held is = is.1

module _ {L : Type 0} (k : links.Ghosts L) (udc_limits centre_limits : Limits) (udc_opening : List Record)
    (centre_opening : List CentreRecord) (C : ℕ) where
  -- no ask has failed in stages, unless a disk's call did
  abbrev Holds : Round L → Round L → Option Stop → Type 0
  Holds old new stop = IfSome stop DisksHeld → (new.centre.failed ≡ old.centre.failed) × (new.udc.failed ≡ old.udc.failed)

  -- nothing was asked
  stays : (old new : Round L) (stop : Option Stop) → new.centre ≡ old.centre → new.udc ≡ old.udc → Holds old new stop
  stays old new stop centre udc =
      λ held. (ap (λ (p : Standing CentreRecord). p.failed) centre, ap (λ (p : Standing Record). p.failed) udc)

  -- Unless a disk's call failed in the round, no ask of its passes did.
  pub none_failed : (old new : CarrierState) (old_down old_up new_down new_up : L) (end : Stop)
      → IsRound udc.ghosts (irc.ghosts (number C)) k udc_limits centre_limits udc_opening centre_opening C old old_down old_up new
      new_down new_up end
      → DisksHeld end → NoAskFailed old new
  none_failed old new old_down old_up new_down new_up end is held =
      let first = is.first in
      let last = is.last in
      let none = carried k udc_limits centre_limits udc_opening centre_opening C is.going_down is.going_up Holds (record {
        later = λ a b c stop one other held.
            let before = one tt in
            let after = other held in (after.0 ∙ before.0, after.1 ∙ before.1);
        gives_down = λ old new stop is. stays old new stop (ap (λ (r : Round L). r.centre) is.1) (ap (λ (r : Round L). r.udc) is.1);
        gives_up = λ old new stop is. stays old new stop (ap (λ (r : Round L). r.centre) is.1) (ap (λ (r : Round L). r.udc) is.1);
        takes_down = λ into result old link is.
            stays old (record old { down = link; trip = trip_after_take result old.trip }) (stop_at_take result) refl refl;
        takes_up = λ into result old link is.
            stays old (record old { up = link; trip = trip_after_take result old.trip }) (stop_at_take result) refl refl;
        answers_down = λ packet old new stop right is.
            stays old new stop (ap (λ (r : Round L). r.centre) is.1) (ap (λ (r : Round L). r.udc) is.1);
        answers_up = λ packet old new stop right is.
            stays old new stop (ap (λ (r : Round L). r.centre) is.1) (ap (λ (r : Round L). r.udc) is.1);
        hears = λ old trip moved still applied taken_up. stays old (record old { trip = trip }) None refl refl;
        applies = λ n rec old pass told moved is held. (is.comes.1, refl);
        applies_not = λ n rec old pass fault is held. (
          unfailed (irc.ghosts (number C)) centre_limits centre_opening (centre_node C) (Apply n rec) old.centre pass fault held is.comes,
          refl,
        );
        takes_item = λ number item old pass told moved is held. (refl, is.comes.1);
        takes_item_not = λ number item old pass fault is held. (
          refl,
          unfailed udc.ghosts udc_limits udc_opening 0 (TakeUp C number item) old.udc pass fault held is.comes,
        );
      }) first last is.stop is.carries (all is.stop is.ends) in
      record {
        centre = ap (λ (s : CarrierState). s.centre.failed) is.state ∙ none.0
            ∙ ap (λ (p : Standing CentreRecord). p.failed) is.looks_up.looks.same;
        udc = ap (λ (s : CarrierState). s.udc.failed) is.state ∙ none.1
            ∙ ap (λ (p : Standing Record). p.failed) is.looks_down.looks.same;
      }
    where
      all : (stop : Option Stop) → end ≡ unwrap_or stop (end_of_trip is.last.trip) → IfSome stop DisksHeld
      all None ends = tt
      all (Some why) ends = subst DisksHeld ends held
