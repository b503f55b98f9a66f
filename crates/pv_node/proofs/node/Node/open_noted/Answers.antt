use Rattle.std.proofs.Common.{◌≡◌, ℕ, ◌+◌, sym, subst, arith, rules}
use Rattle.pv_journal.specs.Journal.{HasMade, ReadsOnly}
use Rattle.pv_node.specs.Opening.{IsOpenDiskFault, ReadingFails}
use Rattle.pv_node.proofs.Rooms.{meets_none}
use Rattle.pv_journal.proofs.CallerLemmas.{reads_none, reads_most, reads_then, made_then}
use Rattle.pv_node.proofs.Reading.{disk_fault}
use Rattle.pv_node.proofs.node.Node.open_noted.Given.{Over}
use Rattle.pv_node.proofs.node.Node.open_noted.Goals.{After-replay}
use Rattle.pv_node.proofs.node.Node.open_noted.Goals as goal

pub replay-requires-clause-reading : goal.replay-requires-clause-reading
replay-requires-clause-reading g c κs within = record {
  journal = c.in-Ok-start.ensures.reading;
  each = search rules;
  meets = meets_none g.R.Rules (g.R.Rules.limits_of c.in-Ok.state);
  stood = c.in-Ok.ensures.nothing;
}

-- what the start and the replay took
reads_both : (g : Over) (c : After-replay g)
    → ReadsOnly g.D.Reports (3 + (c.replay.new.journal.count + 1)) (ReadingFails c.replay.result) c.args.disk c.replay.new.journal.disk
reads_both g c = reads_then g.D.Reports c.in-Ok-start.ensures.reads_only c.replay.ensures.reads_only

pub returns-in-Err-clause-handed_back : goal.returns-in-Err-clause-handed_back
returns-in-Err-clause-handed_back g c =
    reads_most g.D.Reports (omega arith) (λ is. disk_fault g.R.Rules g.D.Reports c.in-Err.fault (subst IsOpenDiskFault c.of_node.ensures.value is)) c.in-Err.ensures.handed_back

pub returns-in-Err-replay-clause-handed_back : goal.returns-in-Err-replay-clause-handed_back
returns-in-Err-replay-clause-handed_back g c =
    let both = reads_most g.D.Reports {most = c.args.limits.records + 4} {Fails = IsOpenDiskFault c.in-Err-replay.fault} (omega (arith, c.replay.ensures.within, c.replay.ensures.limit, c.in-Ok-start.ensures.limit)) (search rules) (reads_both g (goal.at.returns-in-Err-replay-clause-handed_back g c).After-replay) in
    subst (λ disk. ReadsOnly g.D.Reports (c.args.limits.records + 4) (IsOpenDiskFault c.in-Err-replay.fault) c.args.disk disk) (sym c.into_disk.ensures) both

pub returns-clause-reads_only : goal.returns-clause-reads_only
returns-clause-reads_only g c =
    reads_most g.D.Reports (omega arith) (λ never. absurd never) (reads_both g (goal.at.returns-clause-reads_only g c).After-replay)

pub returns-clause-made : goal.returns-clause-made
returns-clause-made g c =
    subst (λ (n : ℕ). HasMade g.D.Reports n c.args.disk c.replay.new.journal.disk) (let e : 3 + (c.replay.new.journal.count + 1) ≡ c.replay.new.journal.count + 4 = omega arith in e)
    (made_then g.D.Reports c.in-Ok-start.ensures.made c.in_default-replay.ensures.made)

pub returns-in_default-clause-handed_back : goal.returns-in_default-clause-handed_back
returns-in_default-clause-handed_back g c = reads_none g.D.Reports _ (λ fails. fails)

pub returns-in_default-empty_trail-clause-handed_back : goal.returns-in_default-empty_trail-clause-handed_back
returns-in_default-empty_trail-clause-handed_back g c = reads_none g.D.Reports _ (λ fails. fails)
