-- How a server ends, by what has happened.
use Rattle.std.proofs.Common.{◌≡◌, ℕ, zero, suc, ◌<◌, ◌≤◌, arith, Bool, true, false, ◌||◌, not, inl, inr, List, length, Option, None, Some, refl, subst}
use Rattle.std.specs.Prelude.{IfSome, slice_get}
use Rattle.pv_node.specs.Opening.{IsOpenFault}
use Rattle.pv_node.specs.declared.fault.NodeFault.{NodeFault}
use Rattle.pv_node.specs.declared.fault.NodeFault.TheVariants as faults
use Rattle.pv_outside.specs.declared.limits.Limits.{Limits}
use Rattle.pv_outside.specs.declared.reports.Reports as reports
use Rattle.pv_centres.specs.Ends.{first_failure}
use Rattle.pv_serve.specs.Serving.{HasDiskFault, HasNoDiskFault, HasServedAll, WasBegun, OnNodeFault, EndsBy, SaysFull, end_by_node, end_by_work}
use Rattle.pv_serve.specs.Unopened.{IsUnreadable, NodeShows}
use Rattle.pv_serve.specs.declared.status.ServeStatus.{ServeStatus}
use Rattle.pv_serve.specs.declared.status.ServeStatus.TheVariants.{Usage, NoStart, Memory, Done, Full, DiskFault, DoorFault, Unopened}

module _ {D F : Type 0} where
  -- ---- a node was not opened

  -- what a disk of a network shows
  module _ (g : reports.Ghosts D) (limits : Limits) (disks : List D) (fault : NodeFault D F) where
    abbrev pub Shows : ℕ → Type 0
    Shows node = IfSome (slice_get disks node) (λ disk. IfSome (g.reads disk) (λ text. NodeShows limits node text fault))

    shown_at : (node : ℕ) → node < length disks → length disks ≤ 5 → (node ≡ 0 → Shows 0) → (node ≡ 1 → Shows 1) → (node ≡ 2 → Shows 2)
        → (node ≡ 3 → Shows 3) → (node ≡ 4 → Shows 4) → Shows node
    shown_at zero there few at0 at1 at2 at3 at4 = at0 refl
    shown_at (suc zero) there few at0 at1 at2 at3 at4 = at1 refl
    shown_at (suc (suc zero)) there few at0 at1 at2 at3 at4 = at2 refl
    shown_at (suc (suc (suc zero))) there few at0 at1 at2 at3 at4 = at3 refl
    shown_at (suc (suc (suc (suc zero)))) there few at0 at1 at2 at3 at4 = at4 refl
    shown_at (suc (suc (suc (suc (suc node))))) there few at0 at1 at2 at3 at4 = absurd (omega (arith, there, few))

  -- the disk is why
  unreadable_by_node : (g : reports.Ghosts D) (limits : Limits) (disks : List D) (node : ℕ) (fault : NodeFault D F) → node < length disks
      → IsOpenFault limits fault
      → IfSome (slice_get disks node) (λ disk. IfSome (g.reads disk) (λ text. NodeShows limits node text fault))
      → OnNodeFault (IsUnreadable g limits disks) (end_by_node node fault)
  unreadable_by_node g limits disks node faults.Memory there known shown = tt
  unreadable_by_node g limits disks node (faults.Disk failure) there known shown = tt
  unreadable_by_node g limits disks node (faults.NotFormatted kept) there known shown =
      record { there = there; inside = λ is. is; known = known; shown = shown }
  unreadable_by_node g limits disks node (faults.Broken at) there known shown =
      record { there = there; inside = λ is. is; known = known; shown = shown }
  unreadable_by_node g limits disks node (faults.TooMany count) there known shown =
      record { there = there; inside = λ is. is; known = known; shown = shown }
  unreadable_by_node g limits disks node (faults.Unreadable number) there known shown =
      record { there = there; inside = λ is. is; known = known; shown = shown }

  pub unreadable : (g : reports.Ghosts D) (limits : Limits) (disks : List D) (node : ℕ) (fault : NodeFault D F) → node < length disks
      → length disks ≤ 5 → IsOpenFault limits fault → (node ≡ 0 → Shows g limits disks fault 0) → (node ≡ 1 → Shows g limits disks fault 1)
      → (node ≡ 2 → Shows g limits disks fault 2) → (node ≡ 3 → Shows g limits disks fault 3) → (node ≡ 4 → Shows g limits disks fault 4)
      → OnNodeFault (IsUnreadable g limits disks) (end_by_node node fault)
  unreadable g limits disks node fault there few known at0 at1 at2 at3 at4 =
      unreadable_by_node g limits disks node fault there known (shown_at g limits disks fault node there few at0 at1 at2 at3 at4)

  -- ---- what is known of each end

  -- what is known of the nodes of a server that was begun is known of the server
  pub work_says : (Holds : ℕ → NodeFault D F → Type 0) (NotBegun Before After Left Leaves : Type 0) (status : ServeStatus D F)
      → (Before → After) → (HasDiskFault status → Left → Leaves) → EndsBy ⊥ Before Left status
      → OnNodeFault Holds status × EndsBy NotBegun After Leaves status
  work_says Holds NotBegun Before After Left Leaves (Unopened node fault) then else ends = absurd ends
  work_says Holds NotBegun Before After Left Leaves (DiskFault failure) then else (inl none) = absurd none
  work_says Holds NotBegun Before After Left Leaves (DiskFault failure) then else (inr (inl ended)) = (tt, inr (inl (then ended)))
  work_says Holds NotBegun Before After Left Leaves (DiskFault failure) then else (inr (inr left)) = (tt, inr (inr (else tt left)))
  work_says Holds NotBegun Before After Left Leaves Usage then else ends = (tt, tt)
  work_says Holds NotBegun Before After Left Leaves NoStart then else ends = (tt, tt)
  work_says Holds NotBegun Before After Left Leaves Memory then else ends = (tt, tt)
  work_says Holds NotBegun Before After Left Leaves Done then else ends = (tt, then ends)
  work_says Holds NotBegun Before After Left Leaves DoorFault then else ends = (tt, then ends)
  work_says Holds NotBegun Before After Left Leaves (Full node count) then else ends = (tt, then ends)

  -- a server that only leaves its disks has not served all that it was to
  pub left_unserved : (Left : Type 0) (status : ServeStatus D F) → EndsBy ⊥ ⊥ Left status → HasServedAll status → ⊥
  left_unserved Left Done left all = left
  left_unserved Left (Full node count) left all = left
  left_unserved Left Usage left all = all
  left_unserved Left NoStart left all = all
  left_unserved Left Memory left all = all
  left_unserved Left (Unopened node fault) left all = all
  left_unserved Left (DiskFault failure) left all = all
  left_unserved Left DoorFault left all = all

  -- and blames no door
  pub left_unblamed : (Left : Type 0) (status : ServeStatus D F) → EndsBy ⊥ ⊥ Left status → status ≡ DoorFault → ⊥
  left_unblamed Left status left is = subst (EndsBy ⊥ ⊥ Left) is left

-- ---- by what the threads met

module _ (D : Type 0) {F : Type 0} where
  pub begun_by_work : (memory door : Bool) (disk : Option F) (full : Option ℕ) → WasBegun (end_by_work {D = D} memory door disk full)
  begun_by_work true door disk full = tt
  begun_by_work false door (Some failure) full = tt
  begun_by_work false true None full = tt
  begun_by_work false false None (Some node) = tt
  begun_by_work false false None None = tt

  -- a door is blamed only if one failed
  pub door_by_work : (memory door : Bool) (disk : Option F) (full : Option ℕ) → end_by_work {D = D} memory door disk full ≡ DoorFault
      → door ≡ true
  door_by_work true door disk full is = absurd cc
  door_by_work false door (Some failure) full is = absurd cc
  door_by_work false true None full is = refl
  door_by_work false false None (Some node) is = absurd cc
  door_by_work false false None None is = absurd cc

  -- all were served only if memory sufficed, and no door and no disk failed
  pub quiet_by_work : (memory door : Bool) (disk : Option F) (full : Option ℕ) → HasServedAll (end_by_work {D = D} memory door disk full)
      → (memory ≡ false) × (door ≡ false) × (disk ≡ None)
  quiet_by_work true door disk full all = absurd all
  quiet_by_work false door (Some failure) full all = absurd all
  quiet_by_work false true None full all = absurd all
  quiet_by_work false false None (Some node) all = (refl, refl, refl)
  quiet_by_work false false None None all = (refl, refl, refl)

  -- no disk failed
  pub held_by_work : (memory door : Bool) (disk : Option F) (full : Option ℕ) → HasNoDiskFault (end_by_work {D = D} memory door disk full)
      → disk ≡ None
  held_by_work true door disk full held = absurd held
  held_by_work false door (Some failure) full held = absurd held
  held_by_work false true None full held = refl
  held_by_work false false None (Some node) held = refl
  held_by_work false false None None held = refl

  pub full_by_work : (memory door : Bool) (disk : Option F) (full : Option ℕ) → SaysFull full (end_by_work {D = D} memory door disk full)
  full_by_work true door disk full = tt
  full_by_work false door (Some failure) full = tt
  full_by_work false true None full = tt
  full_by_work false false None (Some node) = (refl, refl)
  full_by_work false false None None = refl

  -- the server was begun and has ended
  pub ends_by_work : (Ended : Type 0) (memory door : Bool) (disk : Option F) (full : Option ℕ) → Ended
      → EndsBy ⊥ Ended ⊥ (end_by_work {D = D} memory door disk full)
  ends_by_work Ended true door disk full ended = tt
  ends_by_work Ended false door (Some failure) full ended = inr (inl ended)
  ends_by_work Ended false true None full ended = ended
  ends_by_work Ended false false None (Some node) ended = ended
  ends_by_work Ended false false None None ended = ended

  -- a disk has failed as the nodes were closed
  pub left_by_work : (Left : Type 0) (memory seen door : Bool) (disk : Option F) (failure : F) → Left
      → EndsBy ⊥ ⊥ ((seen ≡ true) × Left) (end_by_work {D = D} (memory || not seen) door (first_failure disk (Some failure)) None)
  left_by_work Left true seen door disk failure left = tt
  left_by_work Left false false door disk failure left = tt
  left_by_work Left false true door None failure left = inr (inr (refl, left))
  left_by_work Left false true door (Some earlier) failure left = inr (inr (refl, left))
