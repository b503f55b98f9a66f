use Rattle.std.proofs.Common.{arith}
use Rattle.pv_group.proofs.Endings.{counted, ended}
use Rattle.pv_group.proofs.vault.Vault.ask.Goals as goal

pub give-requires-clause-counted : goal.give-requires-clause-counted
give-requires-clause-counted g c =
    omega (
      arith,
      counted g.R.Rules g.N.Run.limits g.N.Run.opening c.args.request.now c.args.pass.now c.decide.new.pass
          c.in-Ok.decided.upto c.in-Ok.decided.outcome c.in-Ok.ensures.decided c.in-Ok.ensures.same,
    )

pub returns-in-Ok : goal.returns-in-Ok
returns-in-Ok g c =
    ended g.R.Rules g.N.Run.limits g.N.Run.opening c.args.request.now c.args.pass.now c.decide.new.pass
    c.in-Ok.decided.upto c.in-Ok.decided.outcome c.in-Ok.ensures.decided c.in-Ok.ensures.same _ _ c.in-Ok.ensures.seen c.requires.room
    c.give.new.pass c.give.result c.give.ensures.answered
