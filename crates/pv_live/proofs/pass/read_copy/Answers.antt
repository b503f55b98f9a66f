use Rattle.std.proofs.Common.{rules}
use Rattle.std.specs.Fn.{FnOnceReturnsAt}
use Rattle.pv_live.proofs.pass.read_copy.Goals as goal

-- f was called on the copy's state
pub returns-clause-answer : goal.returns-clause-answer
returns-clause-answer g c =
    let answer : FnOnceReturnsAt g.F.FnOnce c.args.f c.copy.inside.state c.f.result = search rules in
    (c.copy.inside.state, rw c.copy-now.ensures c.copy.invariant, answer)
