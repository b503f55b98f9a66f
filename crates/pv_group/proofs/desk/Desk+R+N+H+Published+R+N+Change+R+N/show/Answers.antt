use Rattle.std.proofs.Common.{◌+◌, ◌≤◌, length, refl, rules}
use Rattle.left_right.specs.Handles.{published}
use Rattle.pv_history.proofs.CallerLemmas.{prefix_length}
use Rattle.pv_group.specs.Desk.{AddsUpTo}
use Rattle.pv_group.proofs.Boards.{adds_after, shows_all, shows_only}
use Rattle.pv_group.proofs.desk.Desk+R+N+H+Published+R+N+Change+R+N.show.Goals as goal

-- no memory was found, and all waits that waited
pub invariant_of-self : goal.invariant_of-self
invariant_of-self g c =
    let i = c.self.invariant in
    let kept = c.if-not-publish_first.ensures.out_of_memory refl in (
      i.0,
      i.1,
      rw (kept.0, kept.1) i.2,
      i.3,
      rw c.catch_up.ensures.same i.4,
      i.5,
      i.6,
      i.7,
      i.8,
    )

-- those that wait still go on from what readers take now
adds : (g : _) (c : goal.After-drop-all-inside-2 g)
    → AddsUpTo (λ known change. change) (published c.publish_first.new.writer) c.publish_first.new.changes.items c.self.inside.known
adds g c =
    let done = c.if-not-publish_first.ensures.done refl in
    rw done.3
    (adds_after _ (published c.self.inside.writer) done.0 c.publish_first.new.changes.items c.self.inside.known
    (rw done.1 at c.self.invariant.2))

pub invariant_of-self-2 : goal.invariant_of-self-2
invariant_of-self-2 g c =
    let i = c.self.invariant in
    let done = c.if-not-publish_first.ensures.done refl in (
      i.0,
      i.1,
      rw done.2 (adds g c),
      i.3,
      rw c.catch_up.ensures.same i.4,
      i.5,
      i.6,
      i.7,
      i.8,
    )

pub returns-clause-done : goal.returns-clause-done
returns-clause-done g c is =
    let done = c.if-not-publish_first.ensures.done refl in
    let prefix = rw (c.copy-all.ensures, c.catch_up.ensures.value) at c.catch_up.ensures.prefix in
    shows_all _ (published c.publish_first.new.writer) c.publish_first.new.changes.items c.self.inside.known (adds g c)
    c.args.stored.now prefix (search (rules, done.4, prefix_length c.args.stored.now c.self.inside.known prefix))

pub returns-clause-none_other : goal.returns-clause-none_other
returns-clause-none_other g c only =
    let done = c.if-not-publish_first.ensures.done refl in
    let prefix = rw (c.copy-all.ensures, c.catch_up.ensures.value) at c.catch_up.ensures.prefix in
    let handed = rw (← c.self.view_is) at only.handed in
    let many : length c.self.inside.known ≤ length c.args.stored.now + length c.publish_first.new.changes.items =
    search (rules, done.4, handed, prefix_length c.args.stored.now c.self.inside.known prefix) in record {
      published = shows_only _ (published c.publish_first.new.writer) c.publish_first.new.changes.items c.self.inside.known (adds g c)
          c.args.stored.now prefix many;
      handed = many;
    }
