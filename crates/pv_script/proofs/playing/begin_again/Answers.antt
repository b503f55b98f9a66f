use Rattle.std.proofs.Common.{rules, ◌≡◌, ℕ, true, List, [], take, None, sym, subst, ◌∙◌}
use Rattle.std.proofs.lemmas.Result.{on_ok_weaker, IfErr-weaker}
use Rattle.std.specs.Io.KnownBytes.{Appends}
use Rattle.pv_network.specs.Standing.{StandsFor}
use Rattle.pv_network.specs.World.{start}
use Rattle.pv_script.specs.declared.grammar.Command.TheVariants.{Limits}
use Rattle.pv_script.specs.Transcript.{limits_text}
use Rattle.pv_script.proofs.Counting.{adds_none}
use Rattle.pv_script.proofs.Fates.{limits_have_none}
use Rattle.pv_script.proofs.Writing.{fault_ends}
use Rattle.pv_script.proofs.Happening.{count_stands}
use Rattle.pv_script.proofs.playing.begin_again.Goals as goal

-- the new network has as many centres, and the answer was written
pub returns-clause-ok : goal.returns-clause-ok
returns-clause-ok g c =
    let text : c.deref.result.now ≡ limits_text c.args.limits = search rules in
    on_ok_weaker c.write_answer.result (λ whole w stands. (
      record { kept = true; said = None; keyed = [] },
      tt,
      subst (λ (n : ℕ). StandsFor c.in-Ok.fresh (start n c.args.limits)) (sym c.requires.centres ∙ count_stands c.args.network.now w stands) c.in-Ok.ensures.ok,
      subst (λ (l : List ℕ). Appends (g.K.Sink.written c.args.out.now) (g.K.Sink.written c.write_answer.new.out) l) text whole,
      adds_none c.args.answers.now.tally,
      limits_have_none c.args.limits,
    )) c.write_answer.ensures.ok

-- the answer could not be written
pub returns-clause-err : goal.returns-clause-err
returns-clause-err g c =
    let text : c.deref.result.now ≡ limits_text c.args.limits = search rules in
    IfErr-weaker c.write_answer.result _ _ (λ end why.
    fault_ends (Limits c.args.limits) c.args.network.now _ _ _ _ end why.0 why.1 (λ w stands. (
      record { kept = true; said = None; keyed = [] },
      tt,
      why.2.0,
      subst (λ (l : List ℕ). Appends (g.K.Sink.written c.args.out.now) (g.K.Sink.written c.write_answer.new.out) (take why.2.0 l)) text why.2.1,
    ))) c.write_answer.ensures.err
