use Rattle.std.proofs.Common.{refl, IsErr}
use Rattle.pv_outside.proofs.CallerLemmas.{torn_none}
use Rattle.pv_journal.specs.Journal.{Spends}
use Rattle.pv_journal.proofs.Moments.{only_none, only_look, only_then, only_weaker}
use Rattle.pv_journal.proofs.Calls.{spends_call}
use Rattle.pv_journal.proofs.CallerLemmas.{spends_then}
use Rattle.pv_journal.proofs.formatting.format.Given.{Over}
use Rattle.pv_journal.proofs.formatting.format.Goals as goal
use Rattle.pv_journal.proofs.formatting.format.Goals.{After-sync}

-- what the first sync took
spends_sync : (g : Over) (c : After-sync g) → Spends g.D.Reports 1 (IsErr c.sync.result) c.args.disk.now c.sync.new.self
spends_sync g c = spends_call g.D.Reports (λ b. (refl, refl)) _ _ _ c.sync.ensures.keeps.call

pub returns-clause-moments : goal.returns-clause-moments
returns-clause-moments g c =
    let put = only_weaker g.D.Reports (λ told image from. (from.0, c.sync.ensures.keeps.images from.0 from.1, from.2)) c.put.ensures.moments in
    only_then g.D.Reports
    (only_look g.D.Reports (only_none g.D.Reports g.met.D.Disk.only_now g.met.D.Disk.now_is_known _ _ (λ told image left. (image, left, torn_none _ _ image))) c.sync.ensures.keeps)
    put.time put.now

pub returns-clause-spends : goal.returns-clause-spends
returns-clause-spends g c = spends_then g.D.Reports (spends_sync g (goal.at.returns-clause-spends g c).After-sync) c.put.ensures.spends
