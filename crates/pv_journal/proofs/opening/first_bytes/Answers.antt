use Rattle.std.proofs.Common.{refl, rules, IsErr, arith}
use Rattle.std.proofs.lemmas.Grind.{common_steps}
use Rattle.pv_journal.specs.Journal.{ReadsOnly}
use Rattle.pv_journal.proofs.Calls.{reads_once, made_call}
use Rattle.pv_journal.proofs.CallerLemmas.{reads_most, reads_then, made_then}
use Rattle.pv_journal.proofs.Images.{if_both}
use Rattle.pv_journal.proofs.Reading.{first_read}
use Rattle.pv_journal.proofs.opening.first_bytes.Given.{Over}
use Rattle.pv_journal.proofs.opening.first_bytes.Goals as goal
use Rattle.pv_journal.proofs.opening.first_bytes.Goals.{After-sync, After-len, After-read}

-- what the sync, the look at the length after it, and the look at the bytes did
reads_sync : (g : Over) (c : After-sync g) → ReadsOnly g.D.Reports 1 (IsErr c.sync.result) c.args.disk.now c.sync.new.self
reads_sync g c = reads_once g.D.Reports (λ b. (refl, refl)) _ _ _ c.sync.ensures.keeps

reads_len : (g : Over) (c : After-len g) → ReadsOnly g.D.Reports 2 (IsErr c.len.result) c.args.disk.now c.len.new.self
reads_len g c =
    reads_then g.D.Reports (reads_sync g (goal.at.After-len g c).After-sync)
    (reads_once g.D.Reports (λ b. (refl, refl)) _ _ _ c.len.ensures.keeps)

reads_all : (g : Over) (c : After-read g) → ReadsOnly g.D.Reports 3 (IsErr c.read.result) c.args.disk.now c.read.new.self
reads_all g c =
    reads_then g.D.Reports (reads_len g (goal.at.After-read g c).After-len)
    (reads_once g.D.Reports (λ b. (refl, refl)) _ _ _ c.read.ensures.keeps)

pub returns-clause-reads_only : goal.returns-clause-reads_only
returns-clause-reads_only g c =
    reads_most g.D.Reports (omega arith) (search rules) (reads_all g (goal.at.returns-clause-reads_only g c).After-read)

pub returns-clause-made : goal.returns-clause-made
returns-clause-made g c =
    made_then g.D.Reports (made_then g.D.Reports (made_call g.D.Reports (λ b. (refl, refl)) _ _ _ c.sync.ensures.keeps.call (search rules)) (made_call g.D.Reports (λ b. (refl, refl)) _ _ _ c.len.ensures.keeps.call (search rules)))
    (made_call g.D.Reports (λ b. (refl, refl)) _ _ _ c.read.ensures.keeps.call (search rules))

pub returns-clause-bytes : goal.returns-clause-bytes
returns-clause-bytes g c = search (rules, common_steps, if_both, first_read)
