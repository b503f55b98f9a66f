-- When each answer of a journal comes.
use Rattle.std.specs.Prelude.{◌≡◌, ◌≢◌, ℕ, ◌<◌, ◌≤◌, List, [], ◌∷◌, length, take, drop, Option, Some, None, Result, Ok, Err}
use Rattle.pv_journal.specs.Text.{first_eight, HasNoOpenGate, HasBlock, HasBrokenBlock}
use Rattle.pv_journal.specs.Log.{Log}
use Rattle.pv_journal.specs.declared.block.TheConstants.{MARK, MAX_BODY}
use Rattle.pv_journal.specs.declared.fault.OpenFault.{OpenFault}
use Rattle.pv_journal.specs.declared.fault.OpenFault.TheVariants.{Disk, NotFormatted, Broken, TooMany}
use Rattle.pv_journal.specs.declared.fault.AppendFault.{AppendFault}
use Rattle.pv_journal.specs.declared.fault.AppendFault.TheVariants.{Disk as AppendDisk, Full}

-- The journal was full, of this limit, and is as it was.
pub record IsFull {D : Type 0} (old new : Log D) (count : ℕ) : Type 0 where
  pub shown : count ≡ old.limit
  pub full : old.count ≡ old.limit
  pub same : new ≡ old

module _ {D F : Type 0} where
  -- a call of the disk failed
  abbrev pub IsDiskFault : OpenFault D F → Type 0
  IsDiskFault (Disk failure) = Unit {0}
  IsDiskFault _ = ⊥

  -- a reading ended at a call of the disk that failed
  abbrev pub ReadFailsOnDisk : {T : Type 0} → Result T (OpenFault D F) → Type 0
  ReadFailsOnDisk (Ok value) = ⊥
  ReadFailsOnDisk (Err fault) = IsDiskFault fault

  -- at the start, whatever the disk reports: the bytes that were kept are not the mark
  abbrev pub IsStartFault : OpenFault D F → Type 0
  IsStartFault (Disk failure) = Unit {0}
  IsStartFault (NotFormatted kept) = kept ≢ MARK
  IsStartFault _ = ⊥

  -- at the start, on a disk of these bytes: its first eight are not the mark, and were kept
  abbrev pub StartFaultShows : List ℕ → OpenFault D F → Type 0
  StartFaultShows text (Disk failure) = Unit {0}
  StartFaultShows text (NotFormatted kept) = (kept ≡ first_eight text) × (first_eight text ≢ MARK)
  StartFaultShows text _ = ⊥

  -- the next body, whatever the disk reports
  abbrev pub IsNext : Log D → Result (Option ℕ) (OpenFault D F) → Type 0
  IsNext log (Ok (Some n)) = (0 < n) × (n ≤ MAX_BODY) × (log.count < log.limit)
  IsNext log (Ok None) = Unit {0}
  IsNext log (Err (Disk failure)) = Unit {0}
  IsNext log (Err (NotFormatted kept)) = ⊥
  IsNext log (Err (Broken at)) = at ≡ log.gate
  IsNext log (Err (TooMany count)) = (count ≡ log.limit) × (log.count ≡ log.limit)

  -- the next body, by the bytes at the gate: the cases exclude one another
  abbrev pub NextShows : List ℕ → ℕ → List ℕ → Result (Option ℕ) (OpenFault D F) → Type 0
  NextShows text gate into (Ok (Some n)) = HasBlock (drop gate text) (take n into)
  NextShows text gate into (Ok None) = HasNoOpenGate (drop gate text)
  NextShows text gate into (Err (Disk failure)) = Unit {0}
  NextShows text gate into (Err (NotFormatted kept)) = ⊥
  NextShows text gate into (Err (Broken at)) = (at ≡ gate) × HasBrokenBlock (drop gate text)
  NextShows text gate into (Err (TooMany count)) = (body : List ℕ) × HasBlock (drop gate text) body

  -- the next body, on a disk that spells those that were read and then these
  abbrev pub NextSpells : List (List ℕ) → List ℕ → Result (Option ℕ) (OpenFault D F) → Type 0
  NextSpells more into (Ok (Some n)) = (others : List (List ℕ)) × (more ≡ take n into ∷ others)
  NextSpells more into (Ok None) = more ≡ []
  NextSpells more into (Err (Disk failure)) = Unit {0}
  NextSpells more into (Err (NotFormatted kept)) = ⊥
  NextSpells more into (Err (Broken at)) = ⊥
  NextSpells more into (Err (TooMany count)) = 0 < length more

  -- a call of the disk failed in an append
  abbrev pub IsAppendDiskFault : AppendFault D F → Type 0
  IsAppendDiskFault (AppendDisk failure) = Unit {0}
  IsAppendDiskFault (Full count) = ⊥

  -- an append ended at a call of the disk that failed
  abbrev pub FailsOnDisk : {T : Type 0} → Result T (AppendFault D F) → Type 0
  FailsOnDisk (Ok value) = ⊥
  FailsOnDisk (Err fault) = IsAppendDiskFault fault
