-- What a fault holds: two faults are equal if each of these is.
use Rattle.std.specs.Prelude.{ℕ, List, [], ◌∷◌}
use Rattle.pv_journal.specs.declared.fault.OpenFault.{OpenFault}
use Rattle.pv_journal.specs.declared.fault.OpenFault.TheVariants.{Disk, NotFormatted, Broken, TooMany}
use Rattle.pv_journal.specs.declared.fault.AppendFault.{AppendFault}
use Rattle.pv_journal.specs.declared.fault.AppendFault.TheVariants.{Disk as AppendDisk, Full}

module _ {D F : Type 0} where
  -- the failure of the disk, or none
  abbrev pub open_failures : OpenFault D F → List F
  open_failures (Disk failure) = failure ∷ []
  open_failures _ = []

  -- the bytes that are not the mark
  abbrev pub other_mark : OpenFault D F → List ℕ
  other_mark (NotFormatted kept) = kept
  other_mark _ = []

  -- the place of a broken gate
  abbrev pub broken_places : OpenFault D F → List ℕ
  broken_places (Broken at) = at ∷ []
  broken_places _ = []

  -- the limit that a further body is over
  abbrev pub passed_limits : OpenFault D F → List ℕ
  passed_limits (TooMany count) = count ∷ []
  passed_limits _ = []

  -- the failure of the disk in an append, or none
  abbrev pub append_failures : AppendFault D F → List F
  append_failures (AppendDisk failure) = failure ∷ []
  append_failures _ = []

  -- the count of a journal that is full
  abbrev pub full_counts : AppendFault D F → List ℕ
  full_counts (Full count) = count ∷ []
  full_counts _ = []
