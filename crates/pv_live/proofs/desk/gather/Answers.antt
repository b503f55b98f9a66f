use Rattle.std.proofs.Common.{[], sym, arith}
use Rattle.std.proofs.lemmas.List.{append-nil}
use Rattle.pv_live.proofs.desk.gather.Goals as goal

-- at first none was taken
pub loop-pass-init : goal.loop-pass-init
loop-pass-init g c = ([], sym (append-nil c.args.passes.items), tt, omega arith, omega arith, omega arith, omega arith, c.requires.whole)
