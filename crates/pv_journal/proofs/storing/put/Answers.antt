use Rattle.std.proofs.Common.{refl, length, arith, rules}
use Rattle.pv_outside.proofs.CallerLemmas.{torn_none, torn_written}
use Rattle.pv_journal.specs.Journal.{IsTornOf, LeavesOnly}
use Rattle.pv_journal.proofs.Calls.{spends_call}
use Rattle.pv_journal.proofs.CallerLemmas.{spends_most, spends_then}
use Rattle.pv_journal.proofs.Images.{if_told, on_err, turns_map}
use Rattle.pv_journal.proofs.Moments.{only_none, only_look, only_write}
use Rattle.pv_journal.proofs.storing.put.Given.{Over}
use Rattle.pv_journal.proofs.storing.put.Goals as goal
use Rattle.pv_journal.proofs.storing.put.Goals.{After-write}

-- what a crash leaves up to the write
leaves : (g : Over) (c : After-write g)
    → LeavesOnly g.D.Reports c.args.disk.now c.write.new.self (IsTornOf g.D.Reports c.args.disk.now c.args.at (length c.args.bytes.now))
leaves g c =
    only_write g.D.Reports (only_none g.D.Reports g.met.D.Disk.only_now g.met.D.Disk.now_is_known _ _ (λ told image left. (image, left, torn_none _ _ image)))
    c.write.ensures.writes c.requires.little (λ told image left. c.write.ensures.writes.images image left)

pub returns-in_err-write-clause-moments : goal.returns-in_err-write-clause-moments
returns-in_err-write-clause-moments g c = leaves g (goal.at.returns-in_err-write-clause-moments g c).After-write

pub returns-clause-moments : goal.returns-clause-moments
returns-clause-moments g c = only_look g.D.Reports (leaves g (goal.at.returns-clause-moments g c).After-write) c.sync.ensures.keeps

pub returns-clause-torn : goal.returns-clause-torn
returns-clause-torn g c = search (rules, on_err, turns_map, torn_written, if_told)

pub returns-in_err-write-clause-spends : goal.returns-in_err-write-clause-spends
returns-in_err-write-clause-spends g c =
    spends_most g.D.Reports (omega arith) (search rules) (spends_call g.D.Reports (λ b. (refl, refl)) _ _ _ c.write.ensures.writes.call)

pub returns-clause-spends : goal.returns-clause-spends
returns-clause-spends g c =
    spends_then g.D.Reports (spends_call g.D.Reports (λ b. (refl, refl)) _ _ _ c.write.ensures.writes.call)
    (spends_call g.D.Reports (λ b. (refl, refl)) _ _ _ c.sync.ensures.keeps.call)
