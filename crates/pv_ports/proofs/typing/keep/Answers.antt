use Rattle.std.proofs.Common.{arith, ◌∙◌}
use Rattle.pv_ports.proofs.Sessions.{keeps_byte, keeps_none}
use Rattle.pv_ports.proofs.typing.keep.Goals as goal

pub returns-then-len-lt-KEPT-clause-kept : goal.returns-then-len-lt-KEPT-clause-kept
returns-then-len-lt-KEPT-clause-kept c = λ line is.
    c.push_reserved.ensures.items
    ∙ keeps_byte line c.args.kept.now.items c.args.byte is (omega (arith, c.if-len-lt-KEPT.true, c.len.ensures))

pub returns-else-len-lt-KEPT-clause-kept : goal.returns-else-len-lt-KEPT-clause-kept
returns-else-len-lt-KEPT-clause-kept c = λ line is.
    keeps_none line c.args.kept.now.items c.args.byte is (omega (arith, c.if-len-lt-KEPT.false, c.len.ensures))
