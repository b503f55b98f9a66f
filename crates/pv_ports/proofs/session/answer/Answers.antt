use Rattle.std.proofs.Common.{refl, ◌∙◌}
use Rattle.pv_ports.specs.Ends.{line_of}
use Rattle.pv_ports.proofs.Sessions.{answers, is_cut}
use Rattle.pv_ports.proofs.session.answer.Goals as goal

pub returns-in-Ok-clause-goes : goal.returns-in-Ok-clause-goes
returns-in-Ok-clause-goes g c = λ start first rest here.
    let came = c.exchange-reply.ensures here.unended (c.deref.ensures.value ∙ here.kept_is) in
    rw (c.push_reserved.ensures.items, came.mark, c.clear.ensures.items)
    (answers _ _ _ start first c.args.pass.now c.exchange-reply.new.pass c.args.desk.now.seat c.exchange-reply.new.seat
    c.args.desk.now.marks.items c.args.desk.now.kept.items c.args.desk.now.taken rest (line_of g.L.Source g.L.Sink c.args.line.now)
    (line_of g.L.Source g.L.Sink c.send.new.line) came.exchange here c.requires came.line_is came.happens c.send.ensures.taken
    c.send.ensures.read_faults c.send.ensures.counted c.exchange-reply.result.end came.end (rw (← came.text) c.in-Ok.ensures.written))

pub returns-in-Err-clause-goes : goal.returns-in-Err-clause-goes
returns-in-Err-clause-goes g c = λ start first rest here.
    let came = c.exchange-reply.ensures here.unended (c.deref.ensures.value ∙ here.kept_is) in
    rw (c.push_reserved.ensures.items, came.mark, c.cut_off.ensures)
    (is_cut _ _ _ start first c.args.pass.now c.exchange-reply.new.pass c.args.desk.now.seat c.exchange-reply.new.seat
    c.args.desk.now.marks.items c.args.desk.now.kept.items c.args.desk.now.taken rest (line_of g.L.Source g.L.Sink c.args.line.now)
    (line_of g.L.Source g.L.Sink c.send.new.line) came.exchange here c.requires came.line_is came.happens c.send.ensures.taken
    c.send.ensures.read_faults c.send.ensures.counted c.exchange-reply.result.end c.in-Err.ensures.written.0 came.end
    (rw (← came.text) c.in-Err.ensures.written.1) (c.in-Err.ensures.failed refl))
