use Rattle.std.proofs.Common.{sym, subst, ◌∙◌}
use Rattle.pv_memory.specs.Medium.{Medium}
use Rattle.pv_node.specs.Parts.{Parts}
use Rattle.pv_nodes.proofs.Asked.{Done, done_ok, done_full}
use Rattle.pv_nodes.proofs.mem.MemNode.ask.Given.{Over}
use Rattle.pv_nodes.proofs.mem.MemNode.ask.Goals as goal
use Rattle.pv_nodes.proofs.mem.MemNode.ask.Goals.{in-Ok, in-Err-Full, in-Err-Disk}

-- the ask is done
abbrev IsDone : (g : Over) → goal.Joined-ask g → Parts Medium g.row.R-State.Denot g.row.R-Rec.Denot → Type 0
IsDone g c old = Done g.R.Rules (g.R.Rules.limits_of old.state).records (g.R.Rules.count_of old.state)
    (g.R.Rules.judgement old.state c.args.request.now) old c.ask.new.self c.match-ask.result

-- it is carried out, or the node is full: its disk does not fail
done_inside : (g : Over) (c : goal.Joined-ask g) → IsDone g c c.self.inside.node
done_inside g c =
    let node = c.self.invariant.0 in
    let counted = node.stands.1.count ∙ sym (g.met.R.Rules.counted _ node.stands.0 node.stands.1.state) in
    elim c.match-ask.branch [
      | in-Ok w ↦ rw w.result-is (done_ok g.R.Rules _ c.ask.new.self node.hand counted _ w.in-Ok.told (w.in-Ok.ensures.answers node.hand))
      | in-Err-Full w ↦ rw w.result-is
          (done_full g.R.Rules _ c.ask.new.self node.hand counted _ w.in-Err-Full.count
          (rw (← w.in-Err-Full.field-0-is) (w.in-Err-Full.ensures.answers node.hand)))
      | in-Err-Disk w ↦ absurd (w.in-Err-Disk.ensures.never_fails node.stands.0 node.stands.1 node.endless (rw w.in-Err-Disk.field-0-is tt))
    ]

done : (g : Over) (c : goal.Joined-ask g) → IsDone g c c.args.self.now
done g c = subst (IsDone g c) c.self.view_is (done_inside g c)

pub returns-clause-told : goal.returns-clause-told
returns-clause-told g c = (done g c).told

pub returns-clause-state : goal.returns-clause-state
returns-clause-state g c = (done g c).state

pub returns-clause-stands : goal.returns-clause-stands
returns-clause-stands g c = (done g c).stands

pub returns-clause-is : goal.returns-clause-is
returns-clause-is g c =
    let node = c.self.invariant.0 in
    let is_done = done_inside g c in
    record {
      stands = (_, is_done.stands node.stands.0 node.stands.1);
      hand = is_done.hand;
      endless = rw c.ask.ensures.limits (c.ask.ensures.spends.spends.endless _ node.endless);
    }

pub invariant_of-self : goal.invariant_of-self
invariant_of-self g c = (returns-clause-is g c, c.ask.ensures.limits ∙ c.self.invariant.1)
