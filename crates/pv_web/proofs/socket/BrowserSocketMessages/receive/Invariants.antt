use Rattle.std.proofs.Common.{ℕ}
use Rattle.pv_web.specs.Socket.{Interruptions}
use Rattle.pv_web.proofs.socket.BrowserSocketMessages.receive.Given as goal

-- the reads so far were interrupted
abbrev pub invariant-loop : goal.invariant-loop
invariant-loop g l = (n : ℕ) × Interruptions g.S.Read.remaining n l.fn.self.socket l.self.socket
