use Rattle.std.proofs.Common.{rules}
use Rattle.pv_memory.proofs.Calls.{syncs}
use Rattle.pv_memory.proofs.disk.MemDiskDisk.sync.Goals as goal

pub returns-clause-keeps : goal.returns-clause-keeps
returns-clause-keeps c = syncs c.args.self.now _ _ (search rules) c.begin_read.ensures.ends (search rules)
