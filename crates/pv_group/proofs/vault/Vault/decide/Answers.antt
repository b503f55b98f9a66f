use Rattle.std.proofs.Common.{ap, arith}
use Rattle.pv_journal.proofs.CallerLemmas.{spends_most}
use Rattle.pv_group.proofs.vault.Vault.decide.Goals as goal

pub returns-in-Ok-clause-spends : goal.returns-in-Ok-clause-spends
returns-in-Ok-clause-spends g c =
    rw (ap (λ s. s.journal.disk) c.take.ensures.same) (spends_most g.D.Reports (omega arith) (λ no. absurd no) c.store.ensures.spends)

pub returns-in-Err-Memory-clause-spends : goal.returns-in-Err-Memory-clause-spends
returns-in-Err-Memory-clause-spends g c =
    rw (ap (λ s. s.journal.disk) c.take.ensures.same) (spends_most g.D.Reports (omega arith) (λ no. absurd no) c.store.ensures.spends)
