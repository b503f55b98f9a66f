use Rattle.std.proofs.Common.{◌∙◌}
use Rattle.pv_ports.proofs.call.talk.Goals as goal

pub returns-in-Err : goal.returns-in-Err
returns-in-Err g c = λ start first here.
    c.in-Err.ensures.goes (g.K.Clock.moment c.args.clock.now) start c.loop.pass first (c.loop.invariant.3 start first here)

pub returns-in-Some-turn : goal.returns-in-Some-turn
returns-in-Some-turn g c = λ start first here.
    c.in-Some-turn.ensures.goes (g.K.Clock.moment c.args.clock.now) start first _ c.now.ensures.shown
    (c.in-Ok.ensures.goes (g.K.Clock.moment c.args.clock.now) start c.loop.pass first (c.loop.invariant.3 start first here))

pub loop-preserved : goal.loop-preserved
loop-preserved g c = (
  tt,
  tt,
  c.in_default.ensures.ended ∙ c.in-Ok.ensures.ended,
  λ start first here.
      rw c.in_default.ensures.keys (c.in_default.ensures.goes (g.K.Clock.moment c.args.clock.now) start first _ c.now.ensures.shown
      (c.in-Ok.ensures.goes (g.K.Clock.moment c.args.clock.now) start c.loop.pass first (c.loop.invariant.3 start first here))),
)
