use Rattle.std.proofs.Common.{refl, sym}
use Rattle.pv_journal.proofs.CallerLemmas.{spends_then}
use Rattle.pv_group.proofs.Moments.{leaves_then}
use Rattle.pv_group.proofs.vault.Vault.store.Goals as goal

pub returns-clause-moments : goal.returns-clause-moments
returns-clause-moments g c =
    leaves_then g.R.Rules g.D.Reports g.N.Run.opening c.args.self.now c.settle.new.self c.settle.new.self c.append.new.self
    c.settle.ensures.moments c.append.ensures.moments c.settle.ensures.taken refl c.settle.ensures.stored (sym c.append.ensures.taken)

pub returns-clause-spends : goal.returns-clause-spends
returns-clause-spends g c = spends_then g.D.Reports c.settle.ensures.spends c.append.ensures.spends
