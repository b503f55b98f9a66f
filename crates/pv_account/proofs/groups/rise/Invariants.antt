use Rattle.std.proofs.Common.{◌≡◌, drop}
use Rattle.pv_account.specs.Groups.{rises}
use Rattle.pv_account.proofs.groups.rise.Given as goal

-- the others decide
abbrev pub invariant-loop-number : goal.invariant-loop-number
invariant-loop-number l = rises 0 l.numbers ≡ rises l.last (drop l.number-index l.numbers)
