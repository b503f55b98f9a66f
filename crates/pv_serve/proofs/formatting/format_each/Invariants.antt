use Rattle.std.proofs.Common.{All, take}
use Rattle.pv_serve.specs.Formatting.{IsEmptyJournal, NoneFell}
use Rattle.pv_serve.proofs.formatting.format_each.Given as goal

-- the disks before this one are empty journals, and no count fell
abbrev pub invariant-loop-disk : goal.invariant-loop-disk
invariant-loop-disk g l = record {
  done : All (IsEmptyJournal g.D.Reports) (take l.disk-index l.disks);
  counted : NoneFell g.D.Reports l.initial.disks l.disks;
}
