use Rattle.std.proofs.Common.{◌≡◌, ◌+◌, ◌≤◌, length}
use Rattle.pv_words.specs.Lines.{lines_of}
use Rattle.pv_script.specs.Play.{first_world}
use Rattle.pv_script.specs.Tally.{IsTallyWithin}
use Rattle.pv_script.proofs.EachWrite.{WritesUpTo}
use Rattle.pv_script.proofs.Running.{Progress}
use Rattle.pv_script.proofs.playing.run_lines.Given as goal

-- the lines so far were run, and their answers written, each by one write, and counted
abbrev pub invariant-loop-rest : goal.invariant-loop-rest
invariant-loop-rest g l = record {
  progress : Progress l.centres (first_world l.centres) l.text (g.K.Sink.written l.fn.out)
      l.rest l.number l.network (g.K.Sink.written l.out) l.answers.tally;
  writes : WritesUpTo (lines_of l.text) (g.K.Sink.writes l.fn.out) (lines_of l.rest) (g.K.Sink.writes l.out);
  within : IsTallyWithin l.answers.tally l.number;
  number : l.number + length l.rest ≤ length l.text;
  centres : length l.network.centres ≡ l.centres;
  counted : g.K.Sink.write_faults l.fn.out ≤ g.K.Sink.write_faults l.out;
}

abbrev pub decreases-loop-rest : goal.decreases-loop-rest
decreases-loop-rest g l = length l.rest
