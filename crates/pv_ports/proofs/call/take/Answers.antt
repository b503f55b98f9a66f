use Rattle.std.proofs.Common.{refl}
use Rattle.pv_session.specs.Calls.{Keyed}
use Rattle.pv_session.specs.Seat.{state_of}
use Rattle.pv_ports.specs.Talk.{KeyTaken, shown_by}
use Rattle.pv_ports.specs.Ends.{line_of}
use Rattle.pv_ports.proofs.Phases.{key_tells}
use Rattle.pv_ports.proofs.Talking.{noted_by, comes_to, cut_off}
use Rattle.pv_ports.proofs.call.take.Goals as goal

pub returns-in-Ok-clause-goes : goal.returns-in-Ok-clause-goes
returns-in-Ok-clause-goes g c = λ shown start first rest at here.
    let call = state_of c.args.hand.now.at.seat in
    let after = state_of c.key.new.at.seat in
    let taken = c.key.ensures in
    comes_to _ _ _ shown start first (KeyTaken c.args.byte c.args.moment) c.args.pass.now c.key.new.pass call after
    c.args.hand.now.marks.items c.note.new.marks.items rest c.args.hand.now.outbox c.send.new.outbox
    (line_of g.L.Source g.L.Sink c.args.line.now)
    (line_of g.L.Source g.L.Sink c.send.new.line) c.key.new.at.step here.in_call (here.listens, taken, at)
    (noted_by _ _ _ _ _ _ _ _ c.entries-entries.ensures c.entries.ensures c.length.ensures c.note.ensures.noted)
    c.send.ensures.only.taken c.send.ensures.only.reads c.send.ensures.only.writes
    (c.a_call_owes_what_is_its_own.ensures.lasts call after (Keyed c.args.byte (shown_by taken.state call) c.args.moment)
    c.key.new.at.step here.in_call.own taken.turns)
    _ _ c.ending.ensures (key_tells call after c.args.byte c.args.moment _ c.key.new.at.step here.listens taken.turns)
    c.in-Ok.ensures.sent c.in-Ok.ensures.last

pub returns-in-Err-clause-goes : goal.returns-in-Err-clause-goes
returns-in-Err-clause-goes g c = λ shown start first rest at here.
    let call = state_of c.args.hand.now.at.seat in
    let after = state_of c.key.new.at.seat in
    let taken = c.key.ensures in
    cut_off _ _ _ shown start first (KeyTaken c.args.byte c.args.moment) c.args.pass.now c.key.new.pass call after
    c.args.hand.now.marks.items c.note.new.marks.items rest c.args.hand.now.outbox c.send.new.outbox
    (line_of g.L.Source g.L.Sink c.args.line.now)
    (line_of g.L.Source g.L.Sink c.send.new.line) c.key.new.at.step here.in_call (here.listens, taken, at)
    (noted_by _ _ _ _ _ _ _ _ c.entries-entries.ensures c.entries.ensures c.length.ensures c.note.ensures.noted)
    c.send.ensures.only.taken c.send.ensures.only.reads c.send.ensures.only.writes
    (c.a_call_owes_what_is_its_own.ensures.lasts call after (Keyed c.args.byte (shown_by taken.state call) c.args.moment)
    c.key.new.at.step here.in_call.own taken.turns)
    c.in-Err.ensures.sent.0 c.in-Err.ensures.sent.1 (c.in-Err.ensures.only.failed refl)
