-- What always holds of a call.
use Rattle.std.proofs.Common.{◌≡◌, ℕ, zero, suc, ◌+◌, List, [], ◌∷◌, ◌++◌, All, Option, Some, None, is_some, MatchOption, if◌then◌else◌, ap, sym, ◌∙◌, subst, arith, append_assoc}
use Rattle.std.proofs.lemmas.List.Elements.{All-append}
use mathlib.Core.List.{IsPrefix}
use denote.Param.{number}
use Rattle.pv_outside.specs.declared.limits.Limits.{Limits}
use Rattle.pv_node.specs.declared.rules.Rules as rules
use Rattle.pv_node.specs.declared.decision.Decision.{Decision}
use Rattle.pv_node.specs.declared.decision.Decision.TheVariants as decisions
use Rattle.pv_node.specs.declared.decision.Told.{Told}
use Rattle.pv_charge.specs.Line.{Charge}
use Rattle.pv_irc.specs.contracts.rules.IrcRulesRules.TheImpl as irc
use Rattle.pv_irc.specs.History.{CentreState}
use Rattle.pv_irc.specs.declared.record.CentreRecord.{CentreRecord}
use Rattle.pv_irc.specs.declared.reply.IrcReply.{IrcReply}
use Rattle.pv_irc.specs.declared.request.IrcRequest.{IrcRequest}
use Rattle.pv_irc.specs.declared.request.IrcRequest.TheVariants as requests
use Rattle.pv_live.specs.Asking.{HasAnswered, HasStoredFor}
use Rattle.pv_live.specs.declared.entry.Entry.{Entry}
use Rattle.pv_live.specs.Pass.{Standing}
use Rattle.pv_post.specs.declared.item.Item.TheVariants as items
use Rattle.pv_session.specs.State.{CallState}
use Rattle.pv_session.specs.declared.step.Step.{Step}
use Rattle.pv_session.specs.declared.step.Wish.{Wish}
use Rattle.pv_session.specs.declared.step.Wish.TheVariants as wishes
use Rattle.pv_ports.specs.Talk.{Happening, KeyTaken, WishAnswered, TurnedAway, Talked, IsTalk, ComesAbout, stored_count, stored_at, charges_of, charges_at, charge_of_wish, HasRecord}

module _ {S : Type 0} (r : rules.Ghosts S CentreState IrcRequest CentreRecord IrcReply) (limits : Limits) (opening : List CentreRecord)
    (shown : Option ℕ) (start : Standing CentreRecord) where
  told_by : (number : Option ℕ) (request : IrcRequest) (old new : Standing CentreRecord) (reply : IrcReply)
      → MatchOption number (HasAnswered r limits opening request old new reply) (HasStoredFor r limits opening request old new reply)
      → new.told ≡ old.told + (if is_some number then 1 else 0)
  told_by None request old new reply is = omega (arith, is.told)
  told_by (Some place) request old new reply is = omega (arith, is.told)

  -- each record that a reply says is stored is counted
  told_once : (happening : Happening) (old pass : Standing CentreRecord) (call after : CallState) (step : Step)
      → ComesAbout r limits opening shown old call happening pass after step → pass.told ≡ old.told + stored_at happening
  told_once (KeyTaken byte moment) old pass call after step is = omega (arith, ap (λ (p : Standing CentreRecord). p.told) is.1.looks.same)
  told_once (WishAnswered wish told) old pass call after step is = told_by told.number _ old pass told.reply is.asked
  told_once (TurnedAway count) old pass call after step is = omega (arith, is.not_told)

  pub told_all : (happened : List Happening) (pass : Standing CentreRecord) (call : CallState) (step : Step) (talked : Talked)
      → IsTalk r limits opening shown happened start pass call step talked → pass.told ≡ start.told + stored_count happened
  told_all [] pass call step talked is = omega (arith, ap (λ (p : Standing CentreRecord). p.told) is.0)
  told_all (happening ∷ earlier) pass call step talked is =
      let before = told_all earlier is.0 is.1 is.2 is.3 is.4 in
      omega (arith, before, told_once happening is.0 pass is.1 call step is.5)

-- what was seen stays
kept_on : (old new : List (Entry CentreRecord)) (charge : Charge) → IsPrefix old new → HasRecord old charge → HasRecord new charge
kept_on old new charge prefix is = record {
  before = is.before;
  entry = is.entry;
  after = is.after ++ prefix.0;
  split = sym prefix.1 ∙ (ap (λ (l : List (Entry CentreRecord)). l ++ prefix.0) is.split ∙ append_assoc is.before (is.entry ∷ is.after) prefix.0);
  is = is.is;
}

-- what is kept, or this record
abbrev kept_or : CentreRecord → Decision CentreRecord IrcReply → CentreRecord
kept_or other (decisions.Answer reply) = other
kept_or other (decisions.Store rec reply) = rec

abbrev is_answer : Decision CentreRecord IrcReply → Type 0
is_answer (decisions.Answer reply) = Unit {0}
is_answer (decisions.Store rec reply) = ⊥

none_of : (P : Charge → Type 0) → All P []
none_of P = λ k d below. absurd (omega (arith, below))

only : (P : Charge → Type 0) (x : Charge) → P x → All P (x ∷ [])
only P x p zero d below = p
only P x p (suc k) d below = absurd (omega (arith, below))

module _ (C : ℕ) (limits : Limits) (opening : List CentreRecord) (shown : Option ℕ) (start : Standing CentreRecord) where
  kept_by : (place : Option ℕ) (charge : Charge) (old new : Standing CentreRecord) (reply : IrcReply)
      → MatchOption place
      (HasAnswered (irc.ghosts (number C)) limits opening (requests.Keep (items.Charge charge)) old new reply)
      (HasStoredFor (irc.ghosts (number C)) limits opening (requests.Keep (items.Charge charge)) old new reply)
      → HasRecord new.seen charge
  kept_by None charge old new reply is = absurd (subst is_answer (sym is.judged.2) tt)
  kept_by (Some place) charge old new reply is = record {
    before = is.before;
    entry = is.entry;
    after = [];
    split = is.stored.last;
    is = sym (ap (kept_or is.entry.rec) is.judged.2);
  }

  kept_for : (wish : Wish) (old pass : Standing CentreRecord) (call after : CallState) (told : Told IrcReply) (step : Step)
      → ComesAbout (irc.ghosts (number C)) limits opening shown old call (WishAnswered wish told) pass after step
      → All (HasRecord pass.seen) (charge_of_wish wish)
  kept_for (wishes.LogOn account) old pass call after told step is = none_of (HasRecord pass.seen)
  kept_for (wishes.Charge charge) old pass call after told step is =
      only (HasRecord pass.seen) charge (kept_by told.number charge old pass told.reply is.asked)
  kept_for (wishes.Post item) old pass call after told step is = none_of (HasRecord pass.seen)
  kept_for (wishes.Remove account letter) old pass call after told step is = none_of (HasRecord pass.seen)

  kept_once : (happening : Happening) (old pass : Standing CentreRecord) (call after : CallState) (step : Step)
      → ComesAbout (irc.ghosts (number C)) limits opening shown old call happening pass after step
      → All (HasRecord pass.seen) (charges_at happening)
  kept_once (KeyTaken byte moment) old pass call after step is = none_of (HasRecord pass.seen)
  kept_once (WishAnswered wish told) old pass call after step is = kept_for wish old pass call after told step is
  kept_once (TurnedAway count) old pass call after step is = none_of (HasRecord pass.seen)

  seen_on : (happening : Happening) (old pass : Standing CentreRecord) (call after : CallState) (step : Step)
      → ComesAbout (irc.ghosts (number C)) limits opening shown old call happening pass after step → IsPrefix old.seen pass.seen
  seen_on (KeyTaken byte moment) old pass call after step is = is.1.looks.prefix
  seen_on (WishAnswered wish told) old pass call after step is = is.asks.prefix
  seen_on (TurnedAway count) old pass call after step is = is.asks.prefix

  -- each charge of a call has a record among those that its pass has seen
  pub all_kept : (happened : List Happening) (pass : Standing CentreRecord) (call : CallState) (step : Step) (talked : Talked)
      → IsTalk (irc.ghosts (number C)) limits opening shown happened start pass call step talked
      → All (HasRecord pass.seen) (charges_of happened)
  all_kept [] pass call step talked is = none_of (HasRecord pass.seen)
  all_kept (happening ∷ earlier) pass call step talked is =
      let before = all_kept earlier is.0 is.1 is.2 is.3 is.4 in
      let on = seen_on happening is.0 pass is.1 call step is.5 in
      All-append (HasRecord pass.seen) (charges_of earlier) (charges_at happening)
      (λ k d below. kept_on is.0.seen pass.seen _ on (before k d below)) (kept_once happening is.0 pass is.1 call step is.5)
