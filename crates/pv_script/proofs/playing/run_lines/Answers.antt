use Rattle.std.proofs.Common.{rules, ◌≡◌, ℕ, ◌+◌, ◌∙◌, List, [], ◌∷◌, length, refl, arith}
use Rattle.std.proofs.lemmas.Result.{err_from_is_err_and}
use Rattle.pv_words.specs.Lines.{lines_of}
use Rattle.pv_script.specs.Play.{first_world}
use Rattle.pv_script.proofs.Counting.{within_none, within_more}
use Rattle.pv_script.proofs.EachWrite.{none_yet, one_line_more, each_written}
use Rattle.pv_script.proofs.Running.{begins, goes_on, stops, all_played}
use Rattle.pv_script.proofs.playing.run_lines.Goals as goal

-- an empty text has no line
no_lines : (text : List ℕ) → length text ≡ 0 → lines_of text ≡ []
no_lines [] none = refl
no_lines (byte ∷ text) none = absurd (omega (arith, none))

pub loop-rest-init : goal.loop-rest-init
loop-rest-init g c = record {
  progress = rw c.new-2.ensures (begins c.args.centres (first_world c.args.centres) c.args.text.now (g.K.Sink.written c.args.out.now)
      c.args.network.now c.requires.new);
  writes = none_yet (lines_of c.args.text.now) (g.K.Sink.writes c.args.out.now);
  within = rw c.new-2.ensures within_none;
  number = omega arith;
  centres = c.requires.centres;
  counted = omega arith;
}

pub loop-rest-preserved : goal.loop-rest-preserved
loop-rest-preserved g c = record {
  progress = goes_on c.args.centres (first_world c.args.centres) c.args.text.now (g.K.Sink.written c.args.out.now)
      c.loop-rest.rest.now _ _ c.loop-rest.number _ _ _ _
      c.loop-rest.invariant.progress c.first_line.ensures.line _ _ c.in_ok-run_line.ensures.ok;
  writes = one_line_more (lines_of c.args.text.now) (g.K.Sink.writes c.args.out.now) (lines_of c.loop-rest.rest.now) (lines_of c.first_line.result.1.now)
      c.first_line.result.0.now _ _ c.first_line.ensures.line c.loop-rest.invariant.writes c.in_ok-run_line.ensures.writes;
  within = c.run_line.ensures.within c.loop-rest.number c.loop-rest.invariant.within;
  number = omega (arith, c.loop-rest.invariant.number, c.first_line.ensures.shorter);
  centres = c.run_line.ensures.centres ∙ c.loop-rest.invariant.centres;
  counted = omega (arith, c.loop-rest.invariant.counted, c.run_line.ensures.counted);
}

-- so many lines as were run have room
pub run_line-requires-clause-room : goal.run_line-requires-clause-room
run_line-requires-clause-room g c =
    within_more c.loop-rest.answers.tally c.loop-rest.number (c.loop-rest.number + 1) (omega arith) c.loop-rest.invariant.within

-- the next line was not run
pub returns-in_err-run_line-clause-err : goal.returns-in_err-run_line-clause-err
returns-in_err-run_line-clause-err g c =
    let end = err_from_is_err_and c.from_residual.result c.from_residual.ensures.1 in
    rw (end.1, end.2) (stops c.args.centres (first_world c.args.centres) c.args.text.now (g.K.Sink.written c.args.out.now)
    c.loop-rest.rest.now c.first_line.result.0.now c.first_line.result.1.now c.loop-rest.number
    c.loop-rest.network (g.K.Sink.written c.loop-rest.out) (g.K.Sink.written c.run_line.new.out)
    c.loop-rest.answers.tally c.loop-rest.invariant.progress c.first_line.ensures.line
    (g.K.Sink.write_faults c.args.out.now) (g.K.Sink.write_faults c.loop-rest.out) (g.K.Sink.write_faults c.run_line.new.out)
    c.in_err-run_line.field-0.0 c.loop-rest.invariant.counted c.in_err-run_line.ensures.err)

-- no line is left
pub returns-clause-ok : goal.returns-clause-ok
returns-clause-ok g c =
    let none : length c.loop-rest.rest.now ≡ 0 = search rules in
    all_played c.args.centres (first_world c.args.centres) c.args.text.now _ c.loop-rest.rest.now c.loop-rest.number c.loop-rest.network _
    c.loop-rest.answers.tally c.loop-rest.invariant.progress none

pub returns-clause-writes : goal.returns-clause-writes
returns-clause-writes g c =
    let none : length c.loop-rest.rest.now ≡ 0 = search rules in
    each_written (lines_of c.args.text.now) (g.K.Sink.writes c.args.out.now) (lines_of c.loop-rest.rest.now) _ (no_lines c.loop-rest.rest.now none) c.loop-rest.invariant.writes
