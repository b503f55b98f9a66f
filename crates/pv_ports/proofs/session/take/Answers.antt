use Rattle.pv_ports.specs.Ends.{line_of}
use Rattle.pv_ports.proofs.Sessions.{types}
use Rattle.pv_ports.proofs.session.take.Goals as goal

-- it is the end of the line
pub returns-then-byte-eq-NEWLINE-clause-goes : goal.returns-then-byte-eq-NEWLINE-clause-goes
returns-then-byte-eq-NEWLINE-clause-goes g c = λ start first rest here.
    c.answer.ensures.goes start first rest (rw c.if-byte-eq-NEWLINE.true at here)

-- it is a byte of the line
pub returns-clause-goes : goal.returns-clause-goes
returns-clause-goes g c = λ start first rest here.
    types _ _ _ start first c.args.pass.now c.args.desk.now.seat c.args.desk.now.marks.items c.args.byte _ _ _ rest
    (line_of g.L.Source g.L.Sink c.args.line.now) here c.if-byte-eq-NEWLINE.false c.keep.ensures.kept
