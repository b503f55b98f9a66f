use Rattle.pv_web.proofs.Pieces.{first_given}
use Rattle.pv_web.proofs.line.BrowserLine.receive.Goals as goal

-- of the keys that wait the first are given
pub returns-in-Ok-true-clause-left : goal.returns-in-Ok-true-clause-left
returns-in-Ok-true-clause-left g c =
    let given = first_given _ c.await_keys.new.waiting _ c.give.result _ c.await_keys.ensures.left c.give.ensures.given in
    rw c.give.ensures.left given
