use Rattle.std.proofs.Common.{◌≡◌, ◌⊎◌, ℕ, List, subst, sym, ◌∙◌}
use Rattle.pv_outside.specs.declared.status.Status.{Status}
use Rattle.pv_outside.specs.declared.status.Status.TheVariants.{Done, Memory}
use Rattle.pv_words.specs.Lines.{lines_of}
use Rattle.pv_script.specs.Ends.{IsRunEnd}
use Rattle.pv_script.specs.Play.{IsPlayed, IsScript, WritesEach, first_world}
use Rattle.pv_script.proofs.Ending.{run_completes}
use Rattle.pv_script.proofs.playing.play.Goals as goal

-- the whole text was run
pub returns-in-Ok-run-clause-plays : goal.returns-in-Ok-run-clause-plays
returns-in-Ok-run-clause-plays g c = λ centres asks.
    let read = c.in-Ok.ensures.read in
    let before = g.K.Sink.written c.args.out.now in
    let now = g.K.Sink.written c.run.new.out in
    let asked : c.in-Some.centres ≡ centres = let is = c.in-Some.ensures.only centres asks in cc in
    let played = subst (λ (t : List ℕ). IsPlayed c.in-Some.centres (first_world c.in-Some.centres) t c.in-Ok-run.network before now)
    (c.deref.ensures.value ∙ read.2.0) c.in-Ok-run.ensures.ok.played in
    let each = subst (λ (t : List ℕ). WritesEach (lines_of t) (g.K.Sink.writes c.args.out.now) (g.K.Sink.writes c.run.new.out))
    (c.deref.ensures.value ∙ read.2.0) c.in-Ok-run.ensures.writes in
    (read.0, read.1, (read.2.1, subst (λ (n : ℕ). IsPlayed n (first_world n) read.0 c.in-Ok-run.network before now) asked played), λ done. each)

-- all lines of a valid script are run, unless a write failed or memory ran out
pub returns-clause-succeeds : goal.returns-clause-succeeds
returns-clause-succeeds g c = λ centres text asks all script unread unwritten.
    let read = c.in-Ok.ensures.read in
    let first = first_world c.in-Some.centres in
    let before = g.K.Sink.written c.args.out.now in
    let now = g.K.Sink.written c.run.new.out in
    let faults_before = g.K.Sink.write_faults c.args.out.now in
    let faults_now = g.K.Sink.write_faults c.run.new.out in
    let asked : c.in-Some.centres ≡ centres = let is = c.in-Some.ensures.only centres asks in cc in
    let ended = subst (λ (t : List ℕ). IsRunEnd c.in-Some.centres first t before now faults_before faults_now c.in-Err-run.end)
    (c.deref.ensures.value ∙ read.2.0) c.in-Err-run.ensures.err in
    let status = run_completes c.in-Some.centres first text read.0 _ _ before now faults_before faults_now c.in-Err-run.end ended read.2.1
    all (subst (λ (n : ℕ). IsScript n text) (sym asked) script) unwritten in
    subst (λ (s : Status). (s ≡ Done) ⊎ (s ≡ Memory)) (sym (c.ended-in-Err-run.ensures.status ∙ c.status-in-Err-run.ensures)) status
