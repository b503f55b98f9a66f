use Rattle.std.proofs.Common.{◌≡◌, ◌<◌, List, None, refl, ap, sym, subst, ◌∙◌, arith}
use Rattle.pv_outside.specs.Disk.{HasCalls, IsEndless}
use Rattle.pv_journal.specs.Log.{longest}
use Rattle.pv_memory.specs.Medium.{Medium, moment_of, IsImage, budget_of, image_of}
use Rattle.pv_memory.specs.contracts.disk.MemDiskReports.TheImpl as memory
use Rattle.pv_node.specs.Parts.{Parts}
use Rattle.pv_node.specs.Standing.{Stands, StandsEither, StandsFor}
use Rattle.pv_journal.specs.declared.storing.TheConstants.{APPEND_CALLS, GATE_CALLS}
use Rattle.pv_nodes.specs.Cutting.{IsLeft, IsStop}
use Rattle.pv_nodes.specs.Nodes.{stored_of}
use Rattle.pv_nodes.proofs.Opened.{image_stands, if_ok}
use Rattle.pv_nodes.proofs.Stopped.{left_by, endless_calls, fewer_calls, endless_again, same_left}
use Rattle.pv_nodes.proofs.mem.MemNode.stopped_disk.Given.{Over}
use Rattle.pv_nodes.proofs.mem.MemNode.stopped_disk.Goals as goal

-- what a disk stands for after the stop, if it stood for a node's records before
abbrev IsLeftOf : (g : Over) → goal.After-drop-node-inside-6 g → Parts Medium g.row.R-State.Denot g.row.R-Rec.Denot → Medium → List g.row.R-Rec.Denot → Type 0
IsLeftOf g c node disk records =
    IsLeft g.R.Rules c.args.calls (stored_of (g.R.Rules.limits_of node.state).records (g.R.Rules.count_of node.state)
    (g.R.Rules.judgement node.state c.args.request.now)) (g.R.Rules.limits_of node.state) disk records

module _ (g : Over) (c : goal.After-drop-node-inside-6 g) where
  abbrev Node : Type 0
  Node = Parts Medium g.row.R-State.Denot g.row.R-Rec.Denot

  -- the node of the copy, once it takes no more calls than it is given
  abbrev fused : Node
  fused = c.fuse.new.self

  -- it stands for what the node stands for
  stands : (records : List g.row.R-Rec.Denot) → StandsFor g.R.Rules memory.ghosts c.self.inside.node records → StandsFor g.R.Rules memory.ghosts fused records
  stands records stood =
      let left = subst (λ (disk : Medium). IsImage (moment_of disk) c.in_ok-disk.disk.text) c.disk.ensures c.in_ok-disk.ensures.left in
      c.fuse.ensures.records records (c.in-Ok.ensures.stands records
      (image_stands g.R.Rules c.self.inside.node records c.in_ok-disk.disk stood c.self.invariant.0.hand left))

  -- it has nothing in hand
  none : fused.hand ≡ None
  none = ap (λ (node : Node). node.hand) c.fuse.ensures.same ∙ c.in-Ok.ensures.opened.hand

  -- its limits are the node's
  limits : g.R.Rules.limits_of fused.state ≡ g.R.Rules.limits_of c.self.inside.node.state
  limits = ap (λ (node : Node). g.R.Rules.limits_of node.state) c.fuse.ensures.same
      ∙ c.in-Ok.ensures.limits ∙ sym c.self.invariant.1

  -- calls pass at it while they last
  has_calls : HasCalls c.args.calls (longest (g.R.Rules.limits_of fused.state).records) (budget_of fused.journal.disk)
  has_calls = subst (λ limits. HasCalls c.args.calls (longest limits.records) (budget_of fused.journal.disk))
      (sym (ap (λ (node : Node). g.R.Rules.limits_of node.state) c.fuse.ensures.same))
      (c.fuse.ensures.has _ (endless_calls 0 _ _ c.in-Ok.ensures.opened.endless))

  -- what an image of its disk stands for
  image_left : (disk : Medium) → IsImage (moment_of c.disk-2.result.now) disk.text → (records : List g.row.R-Rec.Denot)
      → StandsFor g.R.Rules memory.ghosts c.self.inside.node records → IsLeftOf g c c.self.inside.node disk records
  image_left disk image records stood =
      let standing = stands records stood in
      let counted = standing.count ∙ sym (g.met.R.Rules.counted _ records standing.state) in
      let left = c.fuse.ensures.left _ (endless_calls 0 _ _ c.in-Ok.ensures.opened.endless) in
      let here : IsImage (moment_of c.ask.new.self.journal.disk) disk.text = subst (λ (d : Medium). IsImage (moment_of d) disk.text) c.disk-2.ensures image in
      let few : c.args.calls < GATE_CALLS → Stands g.R.Rules disk.text records = λ below.
      subst (λ hand. StandsEither g.R.Rules records hand disk.text) none ((c.ask.ensures.few records c.args.calls standing left below).now refl disk.text here) in
      same_left g.R.Rules fused.state c.self.inside.node.state records c.args.request.now c.args.calls disk limits
      (g.met.R.Rules.counted _ records standing.state ∙ sym (g.met.R.Rules.counted _ records stood.state))
      (g.met.R.Rules.same_judgement _ _ records c.args.request.now standing.state stood.state limits c.requires)
      (left_by g.R.Rules c.args.calls fused c.ask.new.self records disk none counted c.ask.ensures.limits standing here few _ c.ask.result
      (c.ask.ensures.answers none)
      (λ all. c.ask.ensures.spends.passes none records standing (fewer_calls APPEND_CALLS c.args.calls _ _ all has_calls)))

  -- so of the node as it is seen
  all_left : (disk : Medium) → IsImage (moment_of c.disk-2.result.now) disk.text → (records : List g.row.R-Rec.Denot)
      → StandsFor g.R.Rules memory.ghosts c.args.self.now records → IsLeftOf g c c.args.self.now disk records
  all_left disk image = subst (λ (node : Node). (records : List g.row.R-Rec.Denot) → StandsFor g.R.Rules memory.ghosts node records → IsLeftOf g c node disk records)
      c.self.view_is (image_left disk image)

pub returns-clause-left : goal.returns-clause-left
returns-clause-left g c = if_ok c.image-2.result (all_left g c) c.image-2.ensures.left

pub returns-clause-endless : goal.returns-clause-endless
returns-clause-endless g c =
    let at_end : HasCalls 0 (longest (g.R.Rules.limits_of c.self.inside.node.state).records) (budget_of c.ask.new.self.journal.disk) =
    c.ask.ensures.spends.spends.has_room _ (subst (λ limits. HasCalls 0 (longest limits.records) (budget_of (fused g c).journal.disk)) (limits g c)
    (fewer_calls 0 c.args.calls _ _ (omega arith) (has_calls g c))) in
    let room = subst (λ (node : Node g c). HasCalls 0 (longest (g.R.Rules.limits_of node.state).records) (budget_of c.ask.new.self.journal.disk)) c.self.view_is at_end in
    let here = subst (λ (d : Medium). HasCalls 0 (longest (g.R.Rules.limits_of c.args.self.now.state).records) (budget_of d)) (sym c.disk-2.ensures) room in
    if_ok c.image-2.result (λ disk is. subst (λ (d : Medium). IsEndless (longest (g.R.Rules.limits_of c.args.self.now.state).records) (budget_of d)) (sym is)
    (endless_again _ c.disk-2.result.now _ refl here disk.text)) c.image-2.ensures.fresh

-- the ask was made on a disk of the same bytes, of which as many calls passed, and the image is one of the disk that it left
stop_of : (g : Over) (c : goal.After-drop-node-inside-6 g) (disk : Medium) → disk.text ≡ image_of c.disk-2.result.now c.args.image
    → IsStop c.args.calls c.args.image c.args.self.now.journal.disk disk.text
stop_of g c disk is =
    let left = c.fuse.ensures.left _ (endless_calls 0 _ _ c.in-Ok.ensures.opened.endless) in
    let copied : c.in_ok-disk.disk.text ≡ c.args.self.now.journal.disk.text =
    c.in_ok-disk.ensures.image ∙ ap (λ (d : Medium). d.text) (c.disk.ensures ∙ ap (λ (node : Node g c). node.journal.disk) c.self.view_is) in
    let reads : c.fuse.new.self.journal.disk.text ≡ c.in-Ok.node.journal.disk.text = cc c.fuse.ensures.disk.reads in
    let paid = c.ask.ensures.spends.spends.paid c.args.calls left in record {
      begun = c.fuse.new.self.journal.disk;
      stopped = c.ask.new.self.journal.disk;
      bytes = reads ∙ c.in-Ok.ensures.bytes ∙ copied;
      left = left;
      passed = omega (arith, paid.2);
      image_is = is ∙ ap (λ (d : Medium). image_of d c.args.image) c.disk-2.ensures;
    }

pub returns-clause-bytes : goal.returns-clause-bytes
returns-clause-bytes g c = if_ok c.image-2.result (stop_of g c) c.image-2.ensures.image
