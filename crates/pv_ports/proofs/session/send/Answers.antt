use Rattle.std.proofs.Common.{◌+◌, List, ℕ, ◌++◌, length, take, drop, replicate, ap, ◌∙◌, subst, arith}
use Rattle.pv_editor.specs.declared.text.TheConstants.{ROOM}
use Rattle.pv_outside.specs.Sink.{Writes}
use Rattle.pv_ports.specs.Typing.{ended_line}
use Rattle.pv_ports.specs.declared.typing.TheConstants.{NEWLINE}
use Rattle.pv_ports.proofs.Sessions.{line_ended}
use Rattle.pv_ports.proofs.session.send.Goals as goal

-- the array has the text, and newlines after it
pub returns-clause-written : goal.returns-clause-written
returns-clause-written g c =
    let text = c.bytes-text.result.now in
    let sent = ap (λ (t : List ℕ). take (length text + 1) (t ++ drop (length text) (replicate (ROOM + 1) NEWLINE)))
    c.copy_from_slice.ensures.after ∙ line_ended text (ROOM + 1) (omega (arith, c.bytes-text.ensures.within, ap length c.bytes-text.ensures.value))
    ∙ ap ended_line c.bytes-text.ensures.value in
    subst (λ (l : List ℕ). Writes (g.L.Sink.written c.args.line.now) (g.L.Sink.written c.say.new.self) c.say.result l) sent
    c.say.ensures.written
