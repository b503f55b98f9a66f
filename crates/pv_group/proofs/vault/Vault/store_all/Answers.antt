use Rattle.std.proofs.Common.{ap}
use Rattle.pv_journal.proofs.CallerLemmas.{spends_then}
use Rattle.pv_group.proofs.vault.Vault.store_all.Goals as goal

pub returns-clause-spends : goal.returns-clause-spends
returns-clause-spends g c =
    spends_then g.D.Reports c.store.ensures.spends (rw (ap (λ s. s.journal.disk) c.take.ensures.same) at c.store-2.ensures.spends)
