-- What the centre answers to what a call owes is the answer to that, and after it the call owes nothing.
use Rattle.std.proofs.Common.{◌≡◌, ℕ, Bool, true, false, List, Option, Some, None, MatchOption, refl, ap, sym, ◌∙◌, subst}
use Rattle.std.specs.Prelude.{IfSome}
use denote.Param.{number}
use Rattle.pv_outside.specs.declared.limits.Limits.{Limits}
use Rattle.pv_node.specs.declared.decision.Decision.{Decision}
use Rattle.pv_node.specs.declared.decision.Decision.TheVariants.{Answer, Store}
use Rattle.pv_node.specs.declared.decision.Told.{Told}
use Rattle.pv_irc.specs.Deciding.{centre_judgement, removed_if}
use Rattle.pv_irc.specs.History.{CentreState, letters_for}
use Rattle.pv_irc.specs.contracts.rules.IrcRulesRules.TheImpl as irc
use Rattle.pv_irc.specs.declared.record.CentreRecord.{CentreRecord}
use Rattle.pv_irc.specs.declared.reply.IrcReply.{IrcReply}
use Rattle.pv_live.specs.Asking.{HasAsked, HasAnswered, HasStoredFor}
use Rattle.pv_live.specs.Pass.{Standing}
use Rattle.pv_post.specs.Boxes.{has_letter}
use Rattle.pv_session.specs.Callers.{IsCallState, IsOwn}
use Rattle.pv_session.specs.Shown.{ShownFrame}
use Rattle.pv_session.specs.State.{CallState, wish_in}
use Rattle.pv_session.specs.Turns.{Goes, storing_turn, charged_turn}
use Rattle.pv_session.specs.declared.step.Paid.{Paid}
use Rattle.pv_session.specs.declared.step.Paid.TheVariants as replies
use Rattle.pv_session.specs.declared.step.Phase.{Phase}
use Rattle.pv_session.specs.declared.step.Phase.TheVariants.{Listening, Owing, Over}
use Rattle.pv_session.specs.declared.step.Step.{Step}
use Rattle.pv_session.specs.declared.step.Wish.{Wish}
use Rattle.pv_session.specs.declared.step.Wish.TheVariants as wishes
use Rattle.pv_wishes.specs.Wishes.{request_for, paid_by}

-- it is what goes on with the wish: a serial with a log-on, and else that it is stored
abbrev pub FitsWish : Wish → Paid → Type 0
FitsWish (wishes.LogOn account) reply = (serial : ℕ) × (reply ≡ replies.Serial serial)
FitsWish (wishes.Charge charge) reply = reply ≡ replies.Stored
FitsWish (wishes.Post item) reply = reply ≡ replies.Stored
FitsWish (wishes.Remove account letter) reply = reply ≡ replies.Stored

-- a decision has this reply
abbrev Replies : Decision CentreRecord IrcReply → IrcReply → Type 0
Replies (Answer reply) other = reply ≡ other
Replies (Store rec reply) other = reply ≡ other

-- what is decided on a wish fits it
decided : (state : CentreState) (wish : Wish) (reply : IrcReply) → Replies (centre_judgement state (request_for wish)) reply
    → FitsWish wish (paid_by reply)
decided state (wishes.LogOn account) reply is = (state.log_ons, ap paid_by (sym is))
decided state (wishes.Charge line) reply is = ap paid_by (sym is)
decided state (wishes.Post item) reply is = ap paid_by (sym is)
decided state (wishes.Remove account letter) reply is = by (has_letter (letters_for state account) letter) is
  where
    by : (waits : Bool) → Replies (removed_if waits account letter) reply → FitsWish (wishes.Remove account letter) (paid_by reply)
    by true is = ap paid_by (sym is)
    by false is = ap paid_by (sym is)

module _ (C : ℕ) (limits : Limits) (opening : List CentreRecord) where
  replied : (place : Option ℕ) (wish : Wish) (old new : Standing CentreRecord) (reply : IrcReply)
      → MatchOption place (HasAnswered (irc.ghosts (number C)) limits opening (request_for wish) old new reply)
      (HasStoredFor (irc.ghosts (number C)) limits opening (request_for wish) old new reply)
      → FitsWish wish (paid_by reply)
  replied None wish old new reply is =
      let judged = is.judged in decided judged.0 wish reply (subst (λ d. Replies d reply) (sym judged.2) refl)
  replied (Some place) wish old new reply is =
      let judged = is.judged in decided judged.0 wish reply (subst (λ d. Replies d reply) (sym judged.2) refl)

  -- what an ask for a wish is answered fits it
  pub answer_fits : (wish : Wish) (old new : Standing CentreRecord) (told : Told IrcReply)
      → HasAsked (irc.ghosts (number C)) limits opening (request_for wish) old new told → FitsWish wish (paid_by told.reply)
  answer_fits wish old new told is = replied told.number wish old new told.reply is

-- a charge that is the call's own has a frame that is kept aside
aside_shown : (call : CallState) (aside : Option ShownFrame) (shown : ShownFrame) → aside ≡ Some shown
    → (charged_turn call aside).0.phase ≡ Listening
aside_shown call aside shown is = subst (λ (a : Option ShownFrame). (charged_turn call a).0.phase ≡ Listening) (sym is) refl

settled : (call : CallState) (phase : Phase) (wish : Wish) (reply : Paid) → wish_in phase ≡ Some wish
    → IfSome (wish_in phase) (IsOwn call) → IfSome (wish_in phase) (λ w. FitsWish w reply)
    → (storing_turn call phase reply).0.phase ≡ Listening
settled call Listening wish reply owes own fits = absurd cc
settled call Over wish reply owes own fits = absurd cc
settled call (Owing (wishes.LogOn account)) wish (replies.Serial serial) owes own fits = refl
settled call (Owing (wishes.LogOn account)) wish replies.Stored owes own fits = let is = fits.1 in absurd cc
settled call (Owing (wishes.Charge charge)) wish (replies.Serial serial) owes own fits = absurd cc
settled call (Owing (wishes.Charge charge)) wish replies.Stored owes own fits = aside_shown call call.aside own.aside.0 own.aside.1
settled call (Owing (wishes.Post item)) wish (replies.Serial serial) owes own fits = absurd cc
settled call (Owing (wishes.Post item)) wish replies.Stored owes own fits = refl
settled call (Owing (wishes.Remove account letter)) wish (replies.Serial serial) owes own fits = absurd cc
settled call (Owing (wishes.Remove account letter)) wish replies.Stored owes own fits = refl

-- a call whose wish was answered owes nothing
pub settles : (call after : CallState) (wish : Wish) (reply : Paid) (step : Step) → wish_in call.phase ≡ Some wish → IsCallState call
    → FitsWish wish reply → Goes (storing_turn call call.phase reply) after step → after.phase ≡ Listening
settles call after wish reply step owes own fits goes =
    ap (λ (c : CallState). c.phase) goes.after_is
    ∙ settled call call.phase wish reply owes own.owed
    (subst (λ (w : Option Wish). IfSome w (λ x. FitsWish x reply)) (sym owes) fits)
