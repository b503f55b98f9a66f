use Rattle.std.proofs.Common.{◌≡◌, ◌+◌, ◌++◌, length, List}
use Rattle.std.specs.Prelude.{vec_len}
use Rattle.pv_live.specs.Pass.{Standing, told_count, failed_count, EachHasSeenPrefix}
use Rattle.pv_live.proofs.desk.gather.Given as goal

-- the passes are taken from the end, and those that were taken are added
abbrev pub invariant-loop-pass : goal.invariant-loop-pass
invariant-loop-pass g l =
    (rest : List (Standing g.row.R-Rec.Denot)) × (l.fn.passes.items ≡ l.passes.items ++ rest) × EachHasSeenPrefix l.known rest
    × (l.told.amount ≡ l.fn.told.amount + told_count rest) × (l.told.parts ≡ l.fn.told.parts + length rest)
    × (l.failed.amount ≡ l.fn.failed.amount + failed_count rest) × (l.failed.parts ≡ l.fn.failed.parts + length rest)
    × (l.appender.count ≡ length l.known)

abbrev pub decreases-loop-pass : goal.decreases-loop-pass
decreases-loop-pass g l = vec_len l.passes
