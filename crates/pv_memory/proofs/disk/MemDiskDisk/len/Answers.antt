use Rattle.std.proofs.Common.{rules}
use Rattle.pv_memory.proofs.Calls.{looks}
use Rattle.pv_memory.proofs.disk.MemDiskDisk.len.Goals as goal

pub returns-clause-keeps : goal.returns-clause-keeps
returns-clause-keeps c = looks c.args.self.now c.begin_read.new.self _ (search rules) c.begin_read.ensures.ends c.in_ok-begin_read.ensures.ok
