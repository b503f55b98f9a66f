use Rattle.std.proofs.Common.{subst}
use Rattle.std.proofs.lemmas.Result.{err_from_is_err_and}
use Rattle.pv_outside.specs.declared.limits.Limits.{Limits}
use Rattle.pv_network.specs.Standing.{StandsFor}
use Rattle.pv_network.specs.World.{start}
use Rattle.pv_script.specs.Play.{play_limits}
use Rattle.pv_script.proofs.Limits.{same_limits}
use Rattle.pv_script.proofs.playing.run.Goals as goal

pub run_lines-requires-clause-new : goal.run_lines-requires-clause-new
run_lines-requires-clause-new g c =
    subst (λ (l : Limits). StandsFor c.in-Ok.network (start c.args.centres l))
    (same_limits 2000 10000 _ play_limits.frames_in_range _ play_limits.records_in_range) c.in-Ok.ensures.ok

-- the lines were not all run
pub returns-in_err-tally-clause-err : goal.returns-in_err-tally-clause-err
returns-in_err-tally-clause-err g c =
    let end = err_from_is_err_and c.from_residual.result c.from_residual.ensures.1 in
    rw (end.1, end.2) c.in_err-tally.ensures.err
