use Rattle.pv_outside.proofs.SlotLemmas.{all_have, each_may}
use Rattle.pv_outside.proofs.slots.run_in.Goals as goal

-- each job was run
pub done_of-requires-clause-run : goal.done_of-requires-clause-run
done_of-requires-clause-run g c =
    all_have g.J.Job.may_return c.args.jobs.items _ _ c.with_jobs.ensures c.fill_all.ensures.run c.fill_all.ensures.count

-- and what it returned was collected
pub returns : goal.returns
returns g c =
    let filled = c.fill_all.ensures in
    each_may g.J.Job.may_return c.args.jobs.items _ _ c.with_jobs.ensures filled.run filled.count _ c.done_of.ensures
