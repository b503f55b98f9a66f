use Rattle.std.proofs.Common.{◌≡◌, ◌+◌, flat_map}
use Rattle.std.specs.List.{range_with_len}
use Rattle.pv_gen.specs.Script.{fetch_text}
use Rattle.pv_gen.specs.Sequence.{state_at}
use Rattle.pv_gen.proofs.Writes.{Wrote}
use Rattle.pv_gen.proofs.writing.put_fetches.Given as goal

-- the fetches so far are written, and the sequence is after them
abbrev pub invariant-loop-made : goal.invariant-loop-made
invariant-loop-made g l = record {
  written : Wrote (g.K.Sink.written l.initial.out) (g.K.Sink.written l.out)
      (g.K.Sink.write_faults l.initial.out) (g.K.Sink.write_faults l.out)
      (flat_map (fetch_text l.number) (range_with_len 1 l.made));
  state : l.state ≡ state_at l.number (l.number + l.made);
}
