use Rattle.std.proofs.Common.{refl}
use Rattle.pv_session.specs.Calls.{Stored, Refused}
use Rattle.pv_session.specs.Seat.{state_of}
use Rattle.pv_ports.specs.Talk.{WishAnswered, TurnedAway}
use Rattle.pv_ports.specs.Ends.{line_of}
use Rattle.pv_ports.proofs.Settling.{answer_fits, settles}
use Rattle.pv_ports.proofs.Talking.{stores, turns, full_ends, goes_on_at_rest, cut_off, turns_away}
use Rattle.pv_ports.proofs.call.store.Goals as goal

pub returns-in-Ok-send-clause-goes : goal.returns-in-Ok-send-clause-goes
returns-in-Ok-send-clause-goes g c = λ shown start first rest here.
    let call = state_of c.args.hand.now.at.seat in
    let after = state_of c.paid-step.new.self in
    let wish = c.args.wish in
    let told = c.in-Ok.told in
    let storing = stores _ _ _ c.args.pass.now c.ask.new.pass call after told c.paid-step.result wish _ _ c.requires.owed
    c.request_of.ensures.request c.in-Ok.ensures.told c.ask.ensures.seen c.ask.ensures.same c.in-Ok.ensures.not_failed
    c.paid_by.ensures c.paid-step.ensures.turn in
    goes_on_at_rest _ _ _ shown start first (WishAnswered wish told) c.args.pass.now c.ask.new.pass call after
    c.args.hand.now.marks.items c.args.hand.now.marks.items rest c.args.hand.now.outbox c.send.new.outbox
    (line_of g.L.Source g.L.Sink c.args.line.now)
    (line_of g.L.Source g.L.Sink c.send.new.line) c.paid-step.result here storing refl c.send.ensures.only.taken
    c.send.ensures.only.reads c.send.ensures.only.writes
    (c.a_call_owes_what_is_its_own.ensures.lasts call after (Stored c.paid_by.result) c.paid-step.result here.own
    c.paid-step.ensures.turn)
    (settles call after wish _ c.paid-step.result storing.owed here.own
    (answer_fits g.row.C _ _ wish c.args.pass.now c.ask.new.pass told storing.asked) storing.goes)
    c.in-Ok-send.ensures.sent

pub returns-in-Err-clause-goes : goal.returns-in-Err-clause-goes
returns-in-Err-clause-goes g c = λ shown start first rest here.
    let call = state_of c.args.hand.now.at.seat in
    let after = state_of c.paid-step.new.self in
    cut_off _ _ _ shown start first (WishAnswered c.args.wish c.in-Ok.told) c.args.pass.now c.ask.new.pass call after
    c.args.hand.now.marks.items c.args.hand.now.marks.items rest c.args.hand.now.outbox c.send.new.outbox
    (line_of g.L.Source g.L.Sink c.args.line.now) (line_of g.L.Source g.L.Sink c.send.new.line) c.paid-step.result here
    (stores _ _ _ _ _ _ _ _ _ _ _ _ c.requires.owed c.request_of.ensures.request c.in-Ok.ensures.told c.ask.ensures.seen
    c.ask.ensures.same c.in-Ok.ensures.not_failed c.paid_by.ensures c.paid-step.ensures.turn)
    refl c.send.ensures.only.taken c.send.ensures.only.reads c.send.ensures.only.writes
    (c.a_call_owes_what_is_its_own.ensures.lasts call after (Stored c.paid_by.result) c.paid-step.result here.own
    c.paid-step.ensures.turn)
    c.in-Err.ensures.sent.0 c.in-Err.ensures.sent.1 (c.in-Err.ensures.only.failed refl)

pub returns-in-Ok-send-2-clause-goes : goal.returns-in-Ok-send-2-clause-goes
returns-in-Ok-send-2-clause-goes g c = λ shown start first rest here.
    let call = state_of c.args.hand.now.at.seat in
    let after = state_of c.turned_away-step.new.self in
    turns_away _ _ _ shown start first (TurnedAway c.in-Err-Full.count) c.args.pass.now c.ask.new.pass call after
    c.args.hand.now.marks.items c.args.hand.now.marks.items rest c.args.hand.now.outbox c.send-in-Err-Full.new.outbox
    (line_of g.L.Source g.L.Sink c.args.line.now) (line_of g.L.Source g.L.Sink c.send-in-Err-Full.new.line) c.turned_away-step.result here
    (turns _ _ _ _ _ _ _ _ _ _ _ c.requires.owed c.request_of.ensures.request (rw c.in-Err-Full.field-0-is at c.in-Err-Full.ensures.failed) c.ask.ensures.seen
    c.ask.ensures.same c.turned_away-step.ensures.turn)
    refl c.send-in-Err-Full.ensures.only.taken c.send-in-Err-Full.ensures.only.reads c.send-in-Err-Full.ensures.only.writes
    (c.a_call_owes_what_is_its_own.ensures.lasts call after Refused c.turned_away-step.result here.own
    c.turned_away-step.ensures.turn)
    _ _ c.ending.ensures (full_ends _ _ _ _ _ c.requires.owed c.turned_away-step.ensures.turn) refl
    c.in-Ok-send-2.ensures.sent c.in-Ok-send-2.ensures.last

pub returns-in-Err-send-clause-goes : goal.returns-in-Err-send-clause-goes
returns-in-Err-send-clause-goes g c = λ shown start first rest here.
    let call = state_of c.args.hand.now.at.seat in
    let after = state_of c.turned_away-step.new.self in
    cut_off _ _ _ shown start first (TurnedAway c.in-Err-Full.count) c.args.pass.now c.ask.new.pass call after
    c.args.hand.now.marks.items c.args.hand.now.marks.items rest c.args.hand.now.outbox c.send-in-Err-Full.new.outbox
    (line_of g.L.Source g.L.Sink c.args.line.now) (line_of g.L.Source g.L.Sink c.send-in-Err-Full.new.line) c.turned_away-step.result here
    (turns _ _ _ _ _ _ _ _ _ _ _ c.requires.owed c.request_of.ensures.request (rw c.in-Err-Full.field-0-is at c.in-Err-Full.ensures.failed) c.ask.ensures.seen
    c.ask.ensures.same c.turned_away-step.ensures.turn)
    refl c.send-in-Err-Full.ensures.only.taken c.send-in-Err-Full.ensures.only.reads c.send-in-Err-Full.ensures.only.writes
    (c.a_call_owes_what_is_its_own.ensures.lasts call after Refused c.turned_away-step.result here.own
    c.turned_away-step.ensures.turn)
    c.in-Err-send.ensures.sent.0 c.in-Err-send.ensures.sent.1 (c.in-Err-send.ensures.only.failed refl)
