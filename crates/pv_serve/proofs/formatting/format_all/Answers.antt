use Rattle.pv_serve.proofs.Disks.{none_fell_yet}
use Rattle.pv_serve.proofs.formatting.format_all.Goals as goal

-- no disk was touched
pub returns-then-is_none-clause-counted : goal.returns-then-is_none-clause-counted
returns-then-is_none-clause-counted g c = none_fell_yet g.D.Reports c.args.disks.now
