use Rattle.std.proofs.Common.{inr, ap, sym, ◌∙◌}
use Rattle.pv_journal.proofs.CallerLemmas.{spends_then}
use Rattle.pv_group.proofs.Moments.{leaves_then}
use Rattle.pv_group.proofs.vault.Vault.store_upto.Goals as goal

pub returns-clause-moments : goal.returns-clause-moments
returns-clause-moments g c =
    leaves_then g.R.Rules g.D.Reports g.N.Run.opening c.args.self.now c.store.new.self c.take.new.self c.store-2.new.self
    c.store.ensures.moments c.store-2.ensures.moments c.store.ensures.taken (ap (λ s. s.journal.disk) c.take.ensures.same)
    (inr (ap (λ s. s.stored) c.take.ensures.same ∙ c.in_default.ensures.all)) (sym c.store-2.ensures.taken)

pub returns-clause-spends : goal.returns-clause-spends
returns-clause-spends g c =
    spends_then g.D.Reports c.store.ensures.spends (rw (ap (λ s. s.journal.disk) c.take.ensures.same) at c.store-2.ensures.spends)
