use Rattle.std.proofs.Common.{flat_map, take}
use Rattle.pv_gen.proofs.Writes.{Wrote}
use Rattle.pv_gen.proofs.line.put_all.Given as goal

-- the parts so far are written
abbrev pub invariant-loop-part : goal.invariant-loop-part
invariant-loop-part g l =
    Wrote (g.K.Sink.written l.initial.out) (g.K.Sink.written l.out) (g.K.Sink.write_faults l.initial.out) (g.K.Sink.write_faults l.out)
    (flat_map (λ part. part.now) (take l.part-index l.parts))
