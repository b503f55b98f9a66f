use Rattle.pv_script.specs.Play.{first_world}
use Rattle.pv_play.proofs.Flushing.{as_played, flushed, not_flushed, out_of_memory}
use Rattle.pv_play.proofs.program.play_out.Goals as goal

-- the buffer was flushed
pub returns-in-Ok-clause-runs : goal.returns-in-Ok-clause-runs
returns-in-Ok-clause-runs g c = λ centres asks.
    let plays = c.play-status.ensures.plays centres asks in
    (plays.0, plays.1, flushed g.W.Write.contents centres (first_world centres) plays.0 _ _ _ c.args.out.now c.play-status.new.out c.flush.new.self c.flush.ensures.kept _ plays.2 c.in-Ok.ensures.flushed)

-- it could not be flushed
pub returns-in-Err-clause-runs : goal.returns-in-Err-clause-runs
returns-in-Err-clause-runs g c = λ centres asks.
    let plays = c.play-status.ensures.plays centres asks in
    (plays.0, plays.1, not_flushed g.W.Write.contents centres (first_world centres) plays.0 _ _ _ c.args.out.now c.play-status.new.out c.flush.new.self c.flush.ensures.kept _ plays.2 c.in-Done.is)

-- memory ran out
pub returns-in-Memory-clause-runs : goal.returns-in-Memory-clause-runs
returns-in-Memory-clause-runs g c = λ centres asks.
    let plays = c.play-status.ensures.plays centres asks in
    let flush = c.flush-in-Memory.ensures in (
      plays.0,
      plays.1,
      out_of_memory g.W.Write.contents centres (first_world centres) plays.0 _ _ _ c.args.out.now c.play-status.new.out c.flush-in-Memory.new.self flush.kept
          _ c.flush-in-Memory.result plays.2 c.in-Memory.is flush.flushed flush.failed c.play-status.ensures.counted.1,
    )

-- there was nothing to flush
pub returns-in-Usage-clause-runs : goal.returns-in-Usage-clause-runs
returns-in-Usage-clause-runs g c = λ centres asks.
    let plays = c.play-status.ensures.plays centres asks in
    (plays.0, plays.1, as_played g.W.Write.contents centres (first_world centres) plays.0 _ _ _ c.args.out.now c.play-status.new.out _ plays.2 c.in-Usage.is)
