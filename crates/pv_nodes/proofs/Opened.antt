-- A node is opened on a disk in memory: no call of the disk fails, so only an allocation can.
use Rattle.std.proofs.Common.{◌≡◌, List, [], ◌∷◌, ◌++◌, None, Result, Ok, Err, refl, subst, arith, inl}
use Rattle.std.specs.Prelude.{IsOk, IfOk, OnOk}
use Rattle.pv_outside.specs.declared.limits.Limits.{Limits}
use Rattle.pv_memory.specs.Medium.{Medium, moment_of, IsImage}
use Rattle.pv_memory.specs.contracts.disk.MemDiskReports.TheImpl as memory
use Rattle.pv_journal.specs.Journal.{EachImage}
use Rattle.pv_journal.specs.Text.{Spells}
use Rattle.pv_node.specs.Parts.{Parts}
use Rattle.pv_node.specs.Standing.{StandsEither, StandsFor, DiskStands, Meets}
use Rattle.pv_node.specs.declared.rules.Rules as rules
use Rattle.pv_node.specs.Opening.{IsOutside, IsOpenDiskFault}
use Rattle.pv_node.specs.declared.fault.NodeFault.{NodeFault}
use Rattle.pv_node.specs.declared.fault.NodeFault.TheVariants.{Memory, Disk, NotFormatted, Broken, TooMany, Unreadable}

-- a fault of the outside that is none of the disk is that memory ran out
pub only_memory : {D F : Type 0} (fault : NodeFault D F) → IsOutside fault → (IsOpenDiskFault fault → ⊥) → fault ≡ Memory
only_memory Memory outside no_disk = refl
only_memory (Disk failure) outside no_disk = absurd (no_disk tt)
only_memory (NotFormatted kept) outside no_disk = absurd outside
only_memory (Broken at) outside no_disk = absurd outside
only_memory (TooMany count) outside no_disk = absurd outside
only_memory (Unreadable number) outside no_disk = absurd outside

-- what is known of a call that succeeded
pub of_ok : {T E P : Type 0} (result : Result T E) → IsOk result → OnOk result P → P
of_ok (Ok value) ok known = known
of_ok (Err failure) ok known = cc

-- what follows of each value follows of one that was given
pub if_ok : {T E : Type 0} {P Q : T → Type 0} (result : Result T E) → ((value : T) → P value → Q value) → IfOk result P → IfOk result Q
if_ok (Ok value) follows known = follows value known
if_ok (Err failure) follows known = known

module _ {S State Request Rec Reply : Type 0} (r : rules.Ghosts S State Request Rec Reply) where
  -- no records meet any limits
  pub none_meet : (limits : Limits) → Meets r limits []
  none_meet limits = record { count = omega arith; room = λ before after rec state none. absurd (none_so before after rec none) }
    where
      none_so : (before after : List Rec) (rec : Rec) → [] ≡ before ++ rec ∷ after → ⊥
      none_so [] after rec e = cc
      none_so (x ∷ before) after rec e = cc

  -- a disk that was formatted stands for no records
  pub none_stand : (disk : Medium) → EachImage memory.ghosts disk (λ image. Spells image []) → DiskStands r memory.ghosts disk []
  none_stand disk empty = (disk.text, refl, record { text = empty refl disk.text (inl refl); each = λ k d below. absurd (omega (arith, below)) })

  -- a disk that was made an image that a crash may leave stands for the node's records
  pub image_stands : (node : Parts Medium State Rec) (records : List Rec) (disk : Medium) → StandsFor r memory.ghosts node records
      → node.hand ≡ None → IsImage (moment_of node.journal.disk) disk.text → DiskStands r memory.ghosts disk records
  image_stands node records disk stood none left =
      (disk.text, refl, subst (λ hand. StandsEither r records hand disk.text) none (stood.images refl disk.text left))
