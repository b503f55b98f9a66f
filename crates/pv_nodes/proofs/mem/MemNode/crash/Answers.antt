use Rattle.std.proofs.Common.{sym, subst, ◌∙◌}
use Rattle.pv_memory.specs.Medium.{Medium, moment_of, IsImage}
use Rattle.pv_nodes.specs.Nodes.{OpensAgain}
use Rattle.pv_nodes.proofs.Opened.{image_stands}
use Rattle.pv_nodes.proofs.mem.MemNode.crash.Goals as goal

pub returns-clause-ok : goal.returns-clause-ok
returns-clause-ok g c =
    let left = subst (λ (disk : Medium). IsImage (moment_of disk) c.in_ok-disk.disk.text) c.disk.ensures c.in_ok-disk.ensures.left in
    subst (λ old. OpensAgain g.R.Rules old c.drop.inside.node) c.self.view_is (record {
      limits = rw c.drop.view_is (c.in_ok-self-inside.ensures.limits ∙ sym c.self.invariant.1);
      stands = λ records stood. rw c.drop.view_is (c.in_ok-self-inside.ensures.stands records
          (image_stands g.R.Rules c.self.inside.node records c.in_ok-disk.disk stood c.self.invariant.0.hand left));
    })
