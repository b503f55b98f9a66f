use Rattle.std.proofs.Common.{refl, arith}
use Rattle.pv_journal.proofs.CallerLemmas.{reads_most}
use Rattle.pv_journal.proofs.opening.length_after_mark.Goals as goal

pub returns-in-Err-clause-reads_only : goal.returns-in-Err-clause-reads_only
returns-in-Err-clause-reads_only g c = reads_most g.D.Reports (omega arith) (λ _. refl) c.in-Err.ensures.reads_only
