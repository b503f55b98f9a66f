use Rattle.std.proofs.Common.{◌≡◌, ◌-◌, take}
use Rattle.std.specs.Int.{w16}
use Rattle.pv_fields.specs.Padded.{IsPadded}
use Rattle.pv_fields.specs.Reading.{times, number_at, with_prefix}
use Rattle.pv_account.proofs.groups.read_numbers.Given as goal

-- the numbers so far are read, and the others will be
abbrev pub invariant-loop-i : goal.invariant-loop-i
invariant-loop-i g l = record {
  padded : IsPadded 0 g.row.N l.i l.numbers;
  read : with_prefix (take l.i l.numbers) (times (number_at w16) (l.count - l.i) l.bytes) ≡ times (number_at w16) l.count l.initial.bytes;
}
