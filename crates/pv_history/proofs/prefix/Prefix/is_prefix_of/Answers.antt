use Rattle.std.proofs.Common.{◌≡◌, ◌≤◌, true, ap, subst, arith, length, map, List, Option, Some}
use Rattle.std.proofs.lemmas.Bool.{leb-true}
use mathlib.Core.List.{IsPrefix}
use Rattle.pv_history.specs.History.{entries_of}
use Rattle.pv_history.proofs.CallerLemmas.{prefix_shorter}
use Rattle.pv_history.proofs.Entries.{prefix-entries}
use Rattle.pv_history.proofs.prefix.Prefix.is_prefix_of.Goals as goal

-- both are prefixes of what one thread has seen
pub returns-clause-yes : goal.returns-clause-yes
returns-clause-yes g c fewer =
    let both = c.learn.new.self.log in
    let this : IsPrefix c.self.inside.seen.log both =
    subst (λ (l : List (Option g.row.E.Denot)). IsPrefix l both) (ap (λ s. s.log) c.again-both.ensures) c.learn.ensures.2 in
    let less : c.self.inside.count ≤ c.other.inside.count = leb-true _ _ fewer in
    let lengths : length c.self.inside.seen.log ≤ length c.other.inside.seen.log =
    omega (arith, c.self.invariant.1, c.other.invariant.1) in
    let logs = prefix_shorter c.self.inside.seen.log c.other.inside.seen.log both this c.learn.ensures.3 lengths in
    rw (← c.self.view_is, ← c.other.view_is)
    (prefix-entries (entries_of c.self.inside.seen.log) (entries_of c.other.inside.seen.log)
    (rw (← c.self.invariant.0, ← c.other.invariant.0) logs))
