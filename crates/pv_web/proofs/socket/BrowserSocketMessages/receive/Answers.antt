use Rattle.std.proofs.Common.{suc, rules}
use Rattle.pv_web.proofs.socket.BrowserSocketMessages.receive.Goals as goal

-- a fault of another kind decides
pub returns-in_default : goal.returns-in_default
returns-in_default g c =
    let so_far = c.loop.invariant in
    record { reads = (so_far.0, c.loop.self.socket, so_far.1, c.in-Err.ensures) }

-- and so does a message
pub returns-in_default-2 : goal.returns-in_default-2
returns-in_default-2 g c =
    let so_far = c.loop.invariant in
    record { reads = (so_far.0, c.loop.self.socket, so_far.1, c.receive_once.ensures) }

-- a read that was interrupted is one more
pub loop-preserved : goal.loop-preserved
loop-preserved g c =
    let so_far = c.loop.invariant in
    (suc so_far.0, (c.loop.self.socket, c.in-Err.error, so_far.1, c.in-Err.ensures, search rules))

-- the last read decides
pub returns : goal.returns
returns g c =
    let so_far = c.loop.invariant in
    record { reads = (so_far.0, c.loop.self.socket, so_far.1, c.receive_once-2.ensures) }
