use Rattle.std.proofs.Common.{◌≡◌, length}
use Rattle.pv_history.specs.History.{AreRights}
use Rattle.pv_history.proofs.history.rights.Given as goal

-- those before this number were given
abbrev pub invariant-loop-number : goal.invariant-loop-number
invariant-loop-number g l = (length l.rights.items ≡ l.number) × AreRights l.seen.book 1 l.rights.items
