use Rattle.std.proofs.Common.{refl, [], ◌∷◌}
use Rattle.pv_ports.specs.Ends.{line_of}
use Rattle.pv_ports.proofs.Talking.{reads_on, hangs, unread}
use Rattle.pv_ports.proofs.call.read_key.Goals as goal

pub returns-in-Ok-Some-clause-goes : goal.returns-in-Ok-Some-clause-goes
returns-in-Ok-Some-clause-goes g c = λ shown start pass first here.
    let key = rw c.in-Ok-Some.field-0-is at c.in-Ok-Some.ensures in record {
      in_call = reads_on _ _ _ shown start first pass _ _ _ (c.in-Ok-Some.byte ∷ []) c.next.new.self c.args.hand.now.outbox
          (line_of g.L.Source g.L.Sink c.args.line.now) (line_of g.L.Source g.L.Sink c.next.new.line) here.in_call key.keyed
          c.next.ensures.written c.next.ensures.counted c.next.ensures.write_faults;
      listens = here.listens;
    }

pub returns-in-Ok-None-clause-goes : goal.returns-in-Ok-None-clause-goes
returns-in-Ok-None-clause-goes g c = λ shown start pass first here.
    let end = rw c.in-Ok-None.field-0-is at c.in-Ok-None.ensures in
    hangs _ _ _ shown start first pass _ _ _ c.args.hand.now.outbox (line_of g.L.Source g.L.Sink c.next.new.line)
    (reads_on _ _ _ shown start first pass _ _ _ [] c.next.new.self c.args.hand.now.outbox (line_of g.L.Source g.L.Sink c.args.line.now)
    (line_of g.L.Source g.L.Sink c.next.new.line) here.in_call end.keyed c.next.ensures.written c.next.ensures.counted
    c.next.ensures.write_faults)
    c.requires.written here.listens (end.drained refl) end.ended

pub returns-in-Err-clause-goes : goal.returns-in-Err-clause-goes
returns-in-Err-clause-goes g c = λ shown start pass first here.
    unread _ _ _ shown start first pass _ _ _ _ c.args.hand.now.outbox (line_of g.L.Source g.L.Sink c.args.line.now)
    (line_of g.L.Source g.L.Sink c.next.new.line) here.in_call
    (reads_on _ _ _ shown start first pass _ _ _ [] c.next.new.self c.args.hand.now.outbox (line_of g.L.Source g.L.Sink c.args.line.now)
    (line_of g.L.Source g.L.Sink c.next.new.line) here.in_call c.in-Err.ensures.keyed c.next.ensures.written c.next.ensures.counted
    c.next.ensures.write_faults)
    c.requires.written here.listens (c.in-Err.ensures.drained refl) (c.in-Err.ensures.failed refl)
