-- What is kept of the boxes: a box for each owner, no owner twice, and room for the other accounts' boxes.
use Rattle.std.specs.Prelude.{◌≡◌, nat_eq, ◌-◌, ◌+◌, ◌≤◌, [], ◌++◌, length, replicate}
use Rattle.std.specs.Vec.{vec_capacity}
use Rattle.indexmap.specs.IndexSet.{index_set_len, spare, IsUnique}
use Rattle.pv_post.specs.Boxes.{Boxes}
use Rattle.pv_post.specs.declared.mailboxes.Mailboxes.TheInside.{Inside}

-- the boxes that contracts see: those of the owners, and an empty one for each other account that may be one
abbrev pub boxes_of : Inside → Boxes
boxes_of m = record {
  room = m.room;
  owners = m.owners.keys;
  boxes = m.boxes.items ++ replicate (m.room - length m.boxes.items) [];
}

-- each owner has a box and no two owners are the same; there is room for as many of both as there may be
pub record AreBoxes (m : Inside) : Type 0 where
  pub each : length m.boxes.items ≡ length m.owners.keys
  pub within : length m.owners.keys ≤ m.room
  pub distinct : IsUnique nat_eq m.owners
  pub owners_room : m.room ≤ index_set_len m.owners + spare m.owners
  pub boxes_room : m.room ≤ vec_capacity m.boxes
