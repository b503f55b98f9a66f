use Rattle.std.proofs.Common.{refl, rules, arith}
use Rattle.std.proofs.lemmas.Grind.{common_steps}
use Rattle.pv_journal.proofs.Calls.{reads_once}
use Rattle.pv_journal.proofs.CallerLemmas.{reads_most}
use Rattle.pv_journal.proofs.Images.{if_both}
use Rattle.pv_journal.proofs.Reading.{block_read}
use Rattle.pv_journal.proofs.opening.read_block.Goals as goal

pub returns-clause-bytes : goal.returns-clause-bytes
returns-clause-bytes g c = search (rules, common_steps, if_both, block_read)

pub returns-clause-reads_only : goal.returns-clause-reads_only
returns-clause-reads_only g c =
    reads_most g.D.Reports (omega arith) (search rules) (reads_once g.D.Reports (λ b. (refl, refl)) _ _ _ c.read.ensures.keeps)
