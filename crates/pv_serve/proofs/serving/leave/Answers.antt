use Rattle.std.proofs.Common.{◌≡◌, ◌++◌, sym, subst}
use Rattle.pv_serve.specs.Serving.{WasBegun}
use Rattle.pv_serve.proofs.Ending.{begun_by_work, left_by_work}
use Rattle.pv_serve.proofs.serving.leave.Goals as goal

-- a disk has failed, or nothing is said
pub returns-in-Ok-clause-left : goal.returns-in-Ok-clause-left
returns-in-Ok-clause-left g c =
    let added = c.add_left.ensures in
    rw (c.status_of.ensures, added.memory, added.disk)
    (left_by_work g.row.D.Denot (c.give_back.new.disks.items ≡ c.args.disks.items ++ c.args.left.disks) c.args.ends.memory
    c.args.left.seen_is_stored c.add_left.new.self.door c.args.ends.disk c.args.left.failure c.in-Ok.ensures)

pub returns-in-Ok-clause-begun : goal.returns-in-Ok-clause-begun
returns-in-Ok-clause-begun g c = subst WasBegun (sym c.status_of.ensures) (begun_by_work _ _ _ _ _)
