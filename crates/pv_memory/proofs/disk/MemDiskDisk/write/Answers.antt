use Rattle.std.proofs.Common.{refl, subst, rules}
use Rattle.pv_memory.specs.Medium.{Medium, MatchesSync}
use Rattle.pv_memory.proofs.PastLemmas.{moments_noted}
use Rattle.pv_memory.proofs.Calls.{writes}
use Rattle.pv_memory.proofs.Writes.{matches_after, put_back}
use Rattle.pv_memory.proofs.disk.MemDiskDisk.write.Goals as goal

pub invariant_of-self : goal.invariant_of-self
invariant_of-self c = search (rules, matches_after)

-- the disk is the one that the write makes of it, with one moment more in its past
pub returns-clause-done : goal.returns-clause-done
returns-clause-done c = search (rules, put_back, moments_noted)

pub returns-clause-writes : goal.returns-clause-writes
returns-clause-writes c =
    let matches : MatchesSync c.args.self.now.text c.args.self.now.synced c.args.self.now.pending =
    subst (λ (m : Medium). MatchesSync m.text m.synced m.pending) c.self.view_is c.self.invariant.matches in
    writes c.args.self.now _ _ (search rules) c.begin.ensures.ends c.args.at c.args.bytes.now (c.requires.within _ refl) matches (returns-clause-done c)
