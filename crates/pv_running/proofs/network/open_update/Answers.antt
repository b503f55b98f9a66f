use Rattle.pv_centres.proofs.Served.{all_new}
use Rattle.pv_running.proofs.network.open_update.Goals as goal

-- the passes of the opening are new
pub returns-clause-new : goal.returns-clause-new
returns-clause-new g c = all_new c.in_ok-live.passes.items c.args.passes c.in_ok-live.ensures.passes
