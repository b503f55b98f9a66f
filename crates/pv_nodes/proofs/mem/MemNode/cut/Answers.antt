use Rattle.std.proofs.Common.{sym, subst, ◌∙◌, ap}
use Rattle.pv_outside.specs.declared.limits.Limits.{Limits}
use Rattle.pv_memory.specs.Medium.{Medium}
use Rattle.pv_node.specs.Parts.{Parts}
use Rattle.pv_nodes.specs.Cutting.{IsStop}
use Rattle.pv_nodes.specs.Nodes.{IsMemNode, IsReady}
use Rattle.pv_nodes.proofs.Stopped.{ready, cut_by_counts}
use Rattle.pv_nodes.proofs.mem.MemNode.cut.Goals as goal

pub on_disk-requires : goal.on_disk-requires
on_disk-requires g c =
    let node = subst (IsMemNode g.R.Rules) c.self.view_is c.self.invariant.0 in
    let limits = ap (λ (n : Parts Medium g.row.R-State.Denot g.row.R-Rec.Denot). g.R.Rules.limits_of n.state) (sym c.self.view_is) ∙ c.self.invariant.1 in
    subst (λ (l : Limits). IsReady g.R.Rules l c.in_ok-disk.disk) limits
    (ready g.R.Rules c.args.calls _ _ c.in_ok-disk.disk node.stands.0 (c.in_ok-disk.ensures.left node.stands.0 node.stands.1) c.in_ok-disk.ensures.endless)

pub returns-clause-ok : goal.returns-clause-ok
returns-clause-ok g c =
    let node = subst (IsMemNode g.R.Rules) c.self.view_is c.self.invariant.0 in
    let limits = ap (λ (n : Parts Medium g.row.R-State.Denot g.row.R-Rec.Denot). g.R.Rules.limits_of n.state) (sym c.self.view_is) ∙ c.self.invariant.1 in
    rw c.drop.view_is (rw c.by-cut.ensures (rw (c.stores-stores.ensures, c.count.ensures.count, c.count-2.ensures.count)
    (cut_by_counts g.R.Rules c.args.calls c.args.self.now c.in_ok-opened.opened _ c.in_ok-disk.disk (node.stands.0, node.stands.1)
    (c.in_ok-opened.ensures.limits ∙ sym limits) g.met.R.Rules.counted c.in_ok-opened.ensures.stands _ c.in_ok-disk.ensures.left)))

-- the node was opened from the disk that the stop left
pub returns-clause-bytes : goal.returns-clause-bytes
returns-clause-bytes g c =
    rw c.drop.view_is (subst (IsStop c.args.calls c.args.image c.args.self.now.journal.disk) (sym c.in_ok-opened.ensures.bytes) c.in_ok-disk.ensures.bytes)
