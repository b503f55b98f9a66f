use Rattle.std.proofs.Common.{◌∙◌, ap, List, ◌++◌}
use Rattle.pv_serve.specs.Ended.{AreClosed, AreHandedBack, AreLeft}
use Rattle.pv_serve.proofs.Ending.{left_unblamed, left_unserved, work_says}
use Rattle.pv_serve.proofs.serving.close.Goals as goal

-- a door is blamed only if a port ended since it failed: no other work ends so
pub returns-in-Ok-clause-door : goal.returns-in-Ok-clause-door
returns-in-Ok-clause-door g c = λ is. c.of-ends.ensures.door (c.bring-status.ensures.door is)

-- all were served only if no port has met a fault
pub returns-in-Ok-clause-quiet : goal.returns-in-Ok-clause-quiet
returns-in-Ok-clause-quiet g c = λ all.
    let quiet = c.bring-status.ensures.quiet all in c.of-ends.ensures.quiet quiet.1 quiet.2

-- nor did memory run out for a carrier, or a disk fail
pub returns-in-Ok-clause-carriers : goal.returns-in-Ok-clause-carriers
returns-in-Ok-clause-carriers g c = λ all.
    let quiet = c.bring-status.ensures.quiet all in c.of-ends.ensures.carriers quiet.0 quiet.2

-- all nodes were given back, and then brought what they lacked
pub returns-in-Ok-clause-ends : goal.returns-in-Ok-clause-ends
returns-in-Ok-clause-ends g c =
    (work_says (λ node fault. Unit {0}) ⊥ (AreHandedBack g.D.Reports c.bring-status.result.0 c.in-Ok.nodes c.args.disks.items c.bring-status.result.1.items)
    (AreClosed g.D.Reports c.bring-status.result.0 c.args.closed.nodes c.args.disks.items c.bring-status.result.1.items) ⊥
    (AreLeft c.args.closed.nodes c.args.disks.items c.bring-status.result.1.items) c.bring-status.result.0
    (λ back. record { nodes = c.in-Ok.nodes; all = c.in-Ok.ensures.nodes; back = back }) (λ failed none. absurd none) c.bring-status.ensures.back).1

-- or only their disks were
pub returns-in-Err-clause-door : goal.returns-in-Err-clause-door
returns-in-Err-clause-door g c = λ is. absurd (left_unblamed _ _ c.leave-status.ensures.left is)

pub returns-in-Err-clause-quiet : goal.returns-in-Err-clause-quiet
returns-in-Err-clause-quiet g c = λ all. absurd (left_unserved _ _ c.leave-status.ensures.left all)

pub returns-in-Err-clause-carriers : goal.returns-in-Err-clause-carriers
returns-in-Err-clause-carriers g c = λ all. absurd (left_unserved _ _ c.leave-status.ensures.left all)

pub returns-in-Err-clause-ends : goal.returns-in-Err-clause-ends
returns-in-Err-clause-ends g c =
    (work_says (λ node fault. Unit {0}) ⊥ ⊥
    (AreClosed g.D.Reports c.leave-status.result.0 c.args.closed.nodes c.args.disks.items c.leave-status.result.1.items) _
    (AreLeft c.args.closed.nodes c.args.disks.items c.leave-status.result.1.items) c.leave-status.result.0 (λ none. absurd none)
    (λ failed left. record { seen = c.in-Err.ensures.seen left.0; disks = left.1 ∙ ap (λ (l : List g.row.D.Denot). c.args.disks.items ++ l) c.in-Err.ensures.disks }) c.leave-status.ensures.left).1
