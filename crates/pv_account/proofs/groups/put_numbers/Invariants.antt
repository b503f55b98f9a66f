use Rattle.std.proofs.Common.{take}
use Rattle.std.specs.Prelude.{flat_map}
use Rattle.std.specs.Int.{w16, to_be_bytes}
use Rattle.pv_fields.specs.Out.{Appends}
use Rattle.pv_account.proofs.groups.put_numbers.Given as goal

-- the numbers so far are appended
abbrev pub invariant-loop-number : goal.invariant-loop-number
invariant-loop-number l = Appends l.initial.out l.out (flat_map (to_be_bytes w16) (take l.number-index l.numbers))
