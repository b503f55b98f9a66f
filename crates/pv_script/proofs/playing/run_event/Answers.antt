use Rattle.std.proofs.Common.{rules, ◌≡◌, ℕ, List, [], ◌∷◌, take, ap, subst, ◌∙◌}
use Rattle.std.proofs.lemmas.Result.{on_ok_weaker, IfErr-weaker}
use Rattle.std.specs.Io.KnownBytes.{Appends}
use Rattle.pv_script.specs.declared.grammar.Command.TheVariants.{Do}
use Rattle.pv_script.specs.Transcript.{answer_text}
use Rattle.pv_network.specs.declared.outcome.Outcome.{Outcome}
use Rattle.pv_script.specs.Tally.{AddsOutcomes}
use Rattle.pv_script.specs.Fates.{HasFatesOf}
use Rattle.pv_script.proofs.Writing.{fault_ends}
use Rattle.pv_script.proofs.Fates.{event_has_its_fate}
use Rattle.pv_script.proofs.playing.run_event.Goals as goal

-- the answer was written, and says a fate only if the event is a cut
pub returns-clause-ok : goal.returns-clause-ok
returns-clause-ok g c =
    let text : c.deref.result.now ≡ answer_text c.in-Ok.outcome = search rules in
    on_ok_weaker c.write_answer.result (λ whole w stands.
    let done = (rw c.in-Ok.is at c.step-answer.ensures.performs) w stands in (
      done.0,
      done.1,
      done.2,
      subst (λ (l : List ℕ). Appends (g.K.Sink.written c.args.out.now) (g.K.Sink.written c.write_answer.new.out) l) (text ∙ ap answer_text done.3) whole,
      subst (λ (o : Outcome). AddsOutcomes c.args.answers.now.tally c.add.new.self (o ∷ [])) done.3 c.add.ensures.adds,
      subst (λ (o : Outcome). HasFatesOf (answer_text o) (o ∷ [])) done.3 (event_has_its_fate c.in-Ok.outcome (rw c.in-Ok.is at c.step-answer.ensures.replies)),
    )) c.write_answer.ensures.ok

-- the answer could not be written
pub returns-clause-err : goal.returns-clause-err
returns-clause-err g c =
    let step = rw c.in-Ok.is at c.step-answer.ensures.performs in
    let text : c.deref.result.now ≡ answer_text c.in-Ok.outcome = search rules in
    IfErr-weaker c.write_answer.result _ _ (λ end why.
    fault_ends (Do c.args.event.now) c.args.network.now _ _ _ _ end why.0 why.1 (λ w stands.
    let done = step w stands in (
      done.0,
      done.1,
      why.2.0,
      subst (λ (l : List ℕ). Appends (g.K.Sink.written c.args.out.now) (g.K.Sink.written c.write_answer.new.out) (take why.2.0 l)) (text ∙ ap answer_text done.3) why.2.1,
    ))) c.write_answer.ensures.err
