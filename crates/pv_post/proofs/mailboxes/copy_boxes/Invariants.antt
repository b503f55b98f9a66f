use Rattle.std.proofs.Common.{◌≡◌, ◌≤◌, take}
use Rattle.std.specs.Vec.{vec_capacity}
use Rattle.pv_post.proofs.mailboxes.copy_boxes.Given as goal

-- the boxes that were passed are copied, and there is room for the others
abbrev pub invariant-loop-mailbox : goal.invariant-loop-mailbox
invariant-loop-mailbox l = record { copied : l.copies.items ≡ take l.mailbox-index l.boxes; room : l.room ≤ vec_capacity l.copies }
