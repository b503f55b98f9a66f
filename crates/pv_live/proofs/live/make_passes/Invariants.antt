use Rattle.std.proofs.Common.{◌≡◌, ◌+◌}
use Rattle.std.specs.Prelude.{vec_len}
use Rattle.pv_live.specs.Pass.{new_passes}
use Rattle.pv_live.proofs.live.make_passes.Given as goal

-- this many passes were made, and their parts were taken from the shares
abbrev pub invariant-loop-number : goal.invariant-loop-number
invariant-loop-number g l =
    (l.all.items ≡ new_passes l.number) × (vec_len l.all ≡ l.number) × (l.told.parts + l.number ≡ l.passes) × (l.told.amount ≡ 0)
    × (l.failed.parts + l.number ≡ l.passes) × (l.failed.amount ≡ 0)
