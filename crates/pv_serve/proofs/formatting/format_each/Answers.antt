use Rattle.std.proofs.Common.{◌<◌, length, All, subst, refl, arith}
use Rattle.std.proofs.lemmas.List.{take_all}
use Rattle.pv_serve.specs.Formatting.{IsEmptyJournal}
use Rattle.pv_serve.proofs.Disks.{none_fell_yet, none_fell_with, one_rose_with, all_with}
use Rattle.pv_serve.proofs.formatting.format_each.Goals as goal

-- nothing was done yet
pub loop-disk-init : goal.loop-disk-init
loop-disk-init g c = record {
  done = λ k d h. absurd (omega (arith, h));
  counted = none_fell_yet g.D.Reports c.args.disks.now;
}

-- this disk failed
pub returns-in_err-format-clause-failed : goal.returns-in_err-format-clause-failed
returns-in_err-format-clause-failed g c = λ err.
    one_rose_with g.D.Reports c.args.disks.now c.loop-disk.disks c.loop-disk.disk-index c.disk-item.result c.format.new.disk
    c.loop-disk.invariant.counted (omega (arith, c.loop-disk-test.true, c.loop-disk.auto.disk-index-end))
    (c.in_err-format.ensures.spends.failed refl)

-- and its count did not fall
pub returns-in_err-format-clause-counted : goal.returns-in_err-format-clause-counted
returns-in_err-format-clause-counted g c =
    none_fell_with g.D.Reports c.args.disks.now c.loop-disk.disks c.loop-disk.disk-index c.disk-item.result c.format.new.disk
    c.loop-disk.invariant.counted (omega (arith, c.loop-disk-test.true, c.loop-disk.auto.disk-index-end))
    c.format.ensures.spends.counted

-- one disk more is formatted
pub loop-disk-preserved : goal.loop-disk-preserved
loop-disk-preserved g c =
    let there : c.loop-disk.disk-index < length c.loop-disk.disks = omega
    (arith, c.loop-disk-test.true, c.loop-disk.auto.disk-index-end) in
    record {
      done = all_with (IsEmptyJournal g.D.Reports) c.loop-disk.disks c.loop-disk.disk-index c.format.new.disk there
          c.loop-disk.invariant.done c.in_ok-format.ensures.empty;
      counted = none_fell_with g.D.Reports c.args.disks.now c.loop-disk.disks c.loop-disk.disk-index c.disk-item.result c.format.new.disk
          c.loop-disk.invariant.counted there
          c.format.ensures.spends.counted;
    }

-- all are
pub returns-clause-formatted : goal.returns-clause-formatted
returns-clause-formatted g c = subst (All (IsEmptyJournal g.D.Reports))
    (take_all c.loop-disk.disk-index c.loop-disk.disks (omega (arith, c.loop-disk-test.false, c.loop-disk.auto.disk-index-end)))
    c.loop-disk.invariant.done
