use Rattle.std.proofs.Common.{ap, sym, ◌∙◌}
use Rattle.pv_centres.specs.Closed.{disk_left, disk_of}
use Rattle.pv_centres.proofs.Left.{all_left, given_is}
use Rattle.pv_centres.proofs.closed.ClosedNodes.into_nodes.Goals as goal

-- all were given back
pub returns-in-Ok-Ok-Ok-Ok-Ok-clause-nodes : goal.returns-in-Ok-Ok-Ok-Ok-Ok-clause-nodes
returns-in-Ok-Ok-Ok-Ok-Ok-clause-nodes g c =
    let is = c.in-Ok-Ok-Ok-Ok-Ok in
    record {
      update = is.is-0;
      first = given_is _ _ (sym c.given_back-first.ensures ∙ is.is-1);
      second = given_is _ _ (sym c.given_back-second.ensures ∙ is.is-2);
      third = given_is _ _ (sym c.given_back-third.ensures ∙ is.is-3);
      fourth = given_is _ _ (sym c.given_back-fourth.ensures ∙ is.is-4);
    }

-- or the disks of all are left, whichever is the first of which a call has failed
pub returns-in-Ok-Ok-Ok-Ok-Err-clause-disks : goal.returns-in-Ok-Ok-Ok-Ok-Err-clause-disks
returns-in-Ok-Ok-Ok-Ok-Err-clause-disks g c =
    let is = c.in-Ok-Ok-Ok-Ok-Err in
    c.new-disks.ensures ∙ all_left c.args.self _ _ _ _ _
    (c.into_disk.ensures.disk ∙ ap disk_left (sym is.is-0))
    (c.disk_of.ensures ∙ ap disk_of (sym is.is-1 ∙ c.given_back-first.ensures))
    (c.disk_of-in-Ok-Ok-Ok-Ok-Err.ensures ∙ ap disk_of (sym is.is-2 ∙ c.given_back-second.ensures))
    (c.disk_of-in-Ok-Ok-Ok-Ok-Err-2.ensures ∙ ap disk_of (sym is.is-3 ∙ c.given_back-third.ensures))
    (ap disk_of (sym is.is-4 ∙ c.given_back-fourth.ensures))

pub returns-in-Ok-Ok-Ok-Err-default-clause-disks : goal.returns-in-Ok-Ok-Ok-Err-default-clause-disks
returns-in-Ok-Ok-Ok-Err-default-clause-disks g c =
    let is = c.in-Ok-Ok-Ok-Err-default in
    c.new-disks-in-Ok-Ok-Ok-Err-default.ensures ∙ all_left c.args.self _ _ _ _ _
    (c.into_disk-in-Ok-Ok-Ok-Err-default.ensures.disk ∙ ap disk_left (sym is.is-0))
    (c.disk_of-in-Ok-Ok-Ok-Err-default.ensures ∙ ap disk_of (sym is.is-1 ∙ c.given_back-first.ensures))
    (c.disk_of-in-Ok-Ok-Ok-Err-default-2.ensures ∙ ap disk_of (sym is.is-2 ∙ c.given_back-second.ensures))
    (ap disk_of (sym is.is-3 ∙ c.given_back-third.ensures))
    (c.disk_of-in-Ok-Ok-Ok-Err-default-3.ensures ∙ ap disk_of c.given_back-fourth.ensures)

pub returns-in-Ok-Ok-Err-default-default-clause-disks : goal.returns-in-Ok-Ok-Err-default-default-clause-disks
returns-in-Ok-Ok-Err-default-default-clause-disks g c =
    let is = c.in-Ok-Ok-Err-default-default in
    c.new-disks-in-Ok-Ok-Err-default-default.ensures ∙ all_left c.args.self _ _ _ _ _
    (c.into_disk-in-Ok-Ok-Err-default-default.ensures.disk ∙ ap disk_left (sym is.is-0))
    (c.disk_of-in-Ok-Ok-Err-default-default.ensures ∙ ap disk_of (sym is.is-1 ∙ c.given_back-first.ensures))
    (ap disk_of (sym is.is-2 ∙ c.given_back-second.ensures))
    (c.disk_of-in-Ok-Ok-Err-default-default-2.ensures ∙ ap disk_of c.given_back-third.ensures)
    (c.disk_of-in-Ok-Ok-Err-default-default-3.ensures ∙ ap disk_of c.given_back-fourth.ensures)

pub returns-in-Ok-Err-default-default-default-clause-disks : goal.returns-in-Ok-Err-default-default-default-clause-disks
returns-in-Ok-Err-default-default-default-clause-disks g c =
    let is = c.in-Ok-Err-default-default-default in
    c.new-disks-in-Ok-Err-default-default-default.ensures ∙ all_left c.args.self _ _ _ _ _
    (c.into_disk-in-Ok-Err-default-default-default.ensures.disk ∙ ap disk_left (sym is.is-0))
    (ap disk_of (sym is.is-1 ∙ c.given_back-first.ensures))
    (c.disk_of-in-Ok-Err-default-default-default.ensures ∙ ap disk_of c.given_back-second.ensures)
    (c.disk_of-in-Ok-Err-default-default-default-2.ensures ∙ ap disk_of c.given_back-third.ensures)
    (c.disk_of-in-Ok-Err-default-default-default-3.ensures ∙ ap disk_of c.given_back-fourth.ensures)

pub returns-in-Err-default-default-default-default-clause-disks : goal.returns-in-Err-default-default-default-default-clause-disks
returns-in-Err-default-default-default-default-clause-disks g c =
    let is = c.in-Err-default-default-default-default in
    c.new-disks-in-Err-default-default-default-default.ensures ∙ all_left c.args.self _ _ _ _ _
    (ap disk_left (sym is.is-0))
    (c.disk_of-in-Err-default-default-default-default.ensures ∙ ap disk_of c.given_back-first.ensures)
    (c.disk_of-in-Err-default-default-default-default-2.ensures ∙ ap disk_of c.given_back-second.ensures)
    (c.disk_of-in-Err-default-default-default-default-3.ensures ∙ ap disk_of c.given_back-third.ensures)
    (c.disk_of-in-Err-default-default-default-default-4.ensures ∙ ap disk_of c.given_back-fourth.ensures)
