use Rattle.std.proofs.Common.{refl, sym, ◌∙◌}
use Rattle.pv_session.specs.Seat.{state_of}
use Rattle.pv_ports.specs.Ends.{line_of}
use Rattle.pv_ports.proofs.Talking.{flushes, unwritten}
use Rattle.pv_ports.proofs.call.next_key.Goals as goal

pub returns-in-Err-clause-goes : goal.returns-in-Err-clause-goes
returns-in-Err-clause-goes g c = λ shown start pass first here.
    unwritten _ _ _ shown start first pass (state_of c.args.hand.now.at.seat) c.args.hand.now.marks.items _
    c.args.hand.now.outbox (line_of g.L.Source g.L.Sink c.args.line.now) (line_of g.L.Source g.L.Sink c.flush.new.line) here.in_call
    c.in-Err.ensures.written.0 c.in-Err.ensures.written.1 c.flush.ensures.only.taken (c.in-Err.ensures.only.failed refl)

pub returns-clause-goes : goal.returns-clause-goes
returns-clause-goes g c = λ shown start pass first here.
    c.read_key.ensures.goes shown start pass first (record {
      in_call = rw (c.in_default.ensures.1 ∙ sym c.in_default.ensures.0) (flushes _ _ _ shown start first pass
          (state_of c.args.hand.now.at.seat)
          c.args.hand.now.marks.items _ c.args.hand.now.outbox c.flush.new.self (line_of g.L.Source g.L.Sink c.args.line.now)
          (line_of g.L.Source g.L.Sink c.flush.new.line) here.in_call c.in_default-flush.ensures.written c.flush.ensures.emptied
          c.flush.ensures.only.taken c.flush.ensures.only.reads c.flush.ensures.only.writes);
      listens = here.listens;
    })
