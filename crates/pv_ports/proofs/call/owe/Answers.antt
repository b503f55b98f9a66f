use Rattle.std.proofs.Common.{refl, sym}
use Rattle.pv_session.specs.Seat.{state_of}
use Rattle.pv_ports.specs.Ends.{line_of}
use Rattle.pv_ports.proofs.Talking.{rests, flushes, unwritten}
use Rattle.pv_ports.proofs.call.owe.Goals as goal

pub returns-in_default-clause-goes : goal.returns-in_default-clause-goes
returns-in_default-clause-goes g c = λ shown start first rest here.
    rests _ _ _ shown start first c.args.pass.now (state_of c.args.hand.now.at.seat) c.args.hand.now.marks.items rest
    c.args.hand.now.outbox (line_of g.L.Source g.L.Sink c.args.line.now) here (sym c.in_default.ensures.value)

pub returns-in-Err-clause-goes : goal.returns-in-Err-clause-goes
returns-in-Err-clause-goes g c = λ shown start first rest here.
    unwritten _ _ _ shown start first c.args.pass.now (state_of c.args.hand.now.at.seat) c.args.hand.now.marks.items rest
    c.args.hand.now.outbox (line_of g.L.Source g.L.Sink c.args.line.now) (line_of g.L.Source g.L.Sink c.flush.new.line) here
    c.in-Err.ensures.written.0 c.in-Err.ensures.written.1 c.flush.ensures.only.taken (c.in-Err.ensures.only.failed refl)

pub returns-clause-goes : goal.returns-clause-goes
returns-clause-goes g c = λ shown start first rest here.
    c.store.ensures.goes shown start first rest
    (flushes _ _ _ shown start first c.args.pass.now (state_of c.args.hand.now.at.seat) c.args.hand.now.marks.items rest
    c.args.hand.now.outbox c.flush.new.self (line_of g.L.Source g.L.Sink c.args.line.now) (line_of g.L.Source g.L.Sink c.flush.new.line)
    here c.in_default-flush.ensures.written c.flush.ensures.emptied c.flush.ensures.only.taken c.flush.ensures.only.reads
    c.flush.ensures.only.writes)
