use Rattle.pv_centres.specs.Opening.{DiskPlaces, disk_at}
use Rattle.pv_centres.proofs.Disks.{later_at, keeps_all}
use Rattle.pv_centres.proofs.opening.open_nodes.Goals as goal

-- the disks of the places
pub returns-in-Ok-clause-over : goal.returns-in-Ok-clause-over
returns-in-Ok-clause-over g c =
    let of = c.of-places.result in
    let at : DiskPlaces g.row.D.Denot = record {
      update = of.update.disk;
      first = of.first.disk;
      second = of.second.disk;
      third = of.third.disk;
      fourth = of.fourth.disk;
    } in
    let over = c.in-Ok.ensures in (
      at,
      c.of-places.ensures.disks,
      (rw c.unwrap.ensures at over.update_over),
      over.first_over,
      over.second_over,
      over.third_over,
      over.fourth_over,
    )

-- those of the later places come where they did
pub returns-in-Err-clause-second_shown : goal.returns-in-Err-clause-second_shown
returns-in-Err-clause-second_shown g c is =
    let of = c.of-places in
    rw of.ensures.disks ((later_at _ of.result.update.disk of.result.first.disk of.result.second.disk of.result.third.disk
    of.result.fourth.disk of.ensures.update of.ensures.order.0 of.ensures.order.1 of.ensures.order.2).0 (c.in-Err.ensures.second_shown is))

pub returns-in-Err-clause-third_shown : goal.returns-in-Err-clause-third_shown
returns-in-Err-clause-third_shown g c is =
    let of = c.of-places in
    rw of.ensures.disks ((later_at _ of.result.update.disk of.result.first.disk of.result.second.disk of.result.third.disk
    of.result.fourth.disk of.ensures.update of.ensures.order.0 of.ensures.order.1 of.ensures.order.2).1 (c.in-Err.ensures.third_shown is))

pub returns-in-Err-clause-fourth_shown : goal.returns-in-Err-clause-fourth_shown
returns-in-Err-clause-fourth_shown g c is =
    let of = c.of-places in
    rw of.ensures.disks ((later_at _ of.result.update.disk of.result.first.disk of.result.second.disk of.result.third.disk
    of.result.fourth.disk of.ensures.update of.ensures.order.0 of.ensures.order.1 of.ensures.order.2).2 (c.in-Err.ensures.fourth_shown is))

-- each place has handed its disk back
pub returns-in-Err-clause-handed_back : goal.returns-in-Err-clause-handed_back
returns-in-Err-clause-handed_back g c =
    let of = c.of-places.result in
    let to = c.open.new.self in
    let kept = c.in-Err.ensures in
    keeps_all g.D.Reports (record {
      update = of.update.disk;
      first = of.first.disk;
      second = of.second.disk;
      third = of.third.disk;
      fourth = of.fourth.disk;
    }) (record {
      update = disk_at (λ o. o.node.journal.disk) to.update.disk to.update.opened;
      first = disk_at (λ o. o.node.journal.disk) to.first.disk to.first.opened;
      second = disk_at (λ o. o.node.journal.disk) to.second.disk to.second.opened;
      third = disk_at (λ o. o.node.journal.disk) to.third.disk to.third.opened;
      fourth = disk_at (λ o. o.node.journal.disk) to.fourth.disk to.fourth.opened;
    }) kept.update_kept kept.first_kept kept.second_kept kept.third_kept kept.fourth_kept
    _ _ _ c.of-places.ensures.disks c.of-places.ensures.empty c.give_back.ensures
