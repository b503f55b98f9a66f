-- What a journal holds, over any disk.
use Rattle.std.specs.Prelude.{◌≡◌, ◌⊎◌, ℕ, ◌+◌, ◌≤◌, List, ◌++◌, length, drop, All, Option, Some, None, IsSome, IfSome}
use Rattle.pv_outside.specs.Counts.{Rose}
use Rattle.pv_outside.specs.Disk.{Torn, NoMore, Budget, IsLaterBy, HasCalls, IsEndless}
use Rattle.pv_outside.specs.declared.disk.TheConstants.{KEPT_CALLS}
use Rattle.pv_outside.specs.declared.reports.Reports as reports
use Rattle.pv_journal.specs.Text.{IsBody, text_of, Spells, SpellsEither}
use Rattle.pv_journal.specs.Log.{Log, IsAtRest, IsStillReading, HasInHand}

-- the disk reports its budget, and n further calls pass and no more
abbrev pub HasLeft : ℕ → Option Budget → Type 0
HasLeft n (Some b) = b.left ≡ Some n
HasLeft n None = ⊥

module _ {D : Type 0} (g : reports.Ghosts D) where
  -- if the disk reports what it reads, each image that a crash now may leave has P
  abbrev pub EachImage : D → (List ℕ → Type 0) → Type 0
  EachImage d P = IsSome (g.reads d) → (image : List ℕ) → g.may_leave d image → P image

  -- if the disk reports what it reads, a crash now leaves that
  abbrev pub IsDurable : D → Type 0
  IsDurable d = IfSome (g.reads d) (λ text. (image : List ℕ) → g.may_leave d image → image ≡ text)

  -- the disk reports what it reads, and that spells these bodies
  abbrev pub DiskSpells : D → List (List ℕ) → Type 0
  DiskSpells d bodies = (text : List ℕ) × (g.reads d ≡ Some text) × Spells text bodies

  -- if the disk reports its budget, nothing was written since the last sync
  abbrev pub IsSynced : D → Type 0
  IsSynced d = IfSome (g.budget d) (λ b. b.unsynced ≡ 0)

  -- if n calls were left, m still are, and these and the ones that have succeeded since are at most n
  abbrev pub IsPaid : D → D → Type 0
  IsPaid old new = (n : ℕ) → HasLeft n (g.budget old)
      → (m : ℕ) × HasLeft m (g.budget new) × (g.clock new + m ≤ g.clock old + n)

  -- if the disk reports what it reads, and has not forgotten this time of its clock, each image that a crash at a moment since
  -- might have left has P
  abbrev pub AtEachMoment : ℕ → D → (List ℕ → Type 0) → Type 0
  AtEachMoment t d P = IsSome (g.reads d) → (g.has_forgotten d t → ⊥)
      → (image : List ℕ) → g.left_since d t image → P image

  -- Time went on over calls that write no more than is kept. If the disk reports what it reads, a crash since a time before them
  -- might have left what it might have left then, or an image with P.
  pub record TimePasses (old new : D) (P : List ℕ → Type 0) : Type 0 where
    pub reported : IsSome (g.reads new) → IsSome (g.reads old)
    pub later : g.clock old ≤ g.clock new
    pub since : (t : ℕ) (image : List ℕ) → t ≤ g.clock old → IsSome (g.reads new) → g.left_since new t image
        → g.left_since old t image ⊎ (P image ⊎ g.has_forgotten new t)
    pub stays : (t : ℕ) → t ≤ g.clock old → g.has_forgotten old t → g.has_forgotten new t
    pub forgets : (t : ℕ) → t ≤ g.clock old → g.has_forgotten new t
        → g.has_forgotten old t ⊎ IsLaterBy (KEPT_CALLS + 1) t (g.clock new)

  -- A crash at any moment of these calls, and right after them, leaves an image with P.
  pub record LeavesOnly (old new : D) (P : List ℕ → Type 0) : Type 0 where
    pub each : AtEachMoment (g.clock old) new P
    pub now : EachImage new P
    -- the moment before them is forgotten only once it lies too many calls back
    pub known : g.has_forgotten new (g.clock old) → IsLaterBy (KEPT_CALLS + 1) (g.clock old) (g.clock new)
    -- for a run that began earlier
    pub time : TimePasses old new P

  -- one of the images that a crash of this disk may leave, torn in the n bytes from this place on
  abbrev pub IsTornOf : D → ℕ → ℕ → List ℕ → Type 0
  IsTornOf d at n image = (before : List ℕ) × g.may_leave d before × Torn at n before image

  -- at least n calls have succeeded, and if the disk reports how many were left, at least n were
  pub record HasMade (n : ℕ) (old new : D) : Type 0 where
    pub clock : IsLaterBy n (g.clock old) (g.clock new)
    pub left : (k : ℕ) → HasLeft k (g.budget old) → (m : ℕ) × HasLeft m (g.budget new) × (m + n ≤ k)

  -- Nothing was written: the disk reads as before, and a crash may leave no further image.
  pub record Remains (old new : D) : Type 0 where
    pub reads : g.reads new ≡ g.reads old
    pub images : NoMore (g.may_leave old) (g.may_leave new)
    pub time : TimePasses old new (g.may_leave old)

  -- What calls of the disk take of it, of which at most `most` succeed: it reports its room and its calls as before, but for
  -- those that succeeded, and its faults rise if one fails.
  pub record Spends (most : ℕ) (Fails : Type 0) (old new : D) : Type 0 where
    pub calls : g.clock new ≤ g.clock old + most
    pub endless : (room : ℕ) → IsEndless room (g.budget old) → IsEndless room (g.budget new)
    pub has_room : (room : ℕ) → HasCalls 0 room (g.budget old) → HasCalls 0 room (g.budget new)
    pub paid : IsPaid old new
    pub counted : g.faults old ≤ g.faults new
    pub failed : Fails → Rose (g.faults old) (g.faults new)

  -- Calls of the disk that write nothing, of which at most `most` succeed, and of which one fails if Fails. None does while
  -- calls pass without end.
  pub record ReadsOnly (most : ℕ) (Fails : Type 0) (old new : D) : Type 0 where
    pub same : Remains old new
    pub spends : Spends most Fails old new
    pub passes : (room : ℕ) → IsEndless room (g.budget old) → Fails → ⊥

  -- the journal has counted these bodies, and its gate is after them
  pub record HasCounted (log : Log D) (bodies : List (List ℕ)) : Type 0 where
    pub count : log.count ≡ length bodies
    pub gate : log.gate ≡ length (text_of bodies)
    pub sizes : All IsBody bodies

  -- The journal is reading its disk, on which nothing changes, and has read these bodies.
  pub record IsReading (log : Log D) (bodies : List (List ℕ)) : Type 0 where
    pub phase : IsStillReading log
    pub counted : HasCounted log bodies
    pub text : IfSome (g.reads log.disk) (λ text. text ≡ text_of bodies ++ drop log.gate text)
    pub durable : IsDurable log.disk
    pub synced : IsSynced log.disk

  -- The journal has these bodies and nothing in hand: each image of its disk spells them.
  pub record Holds (log : Log D) (bodies : List (List ℕ)) : Type 0 where
    pub phase : IsAtRest log
    pub counted : HasCounted log bodies
    pub images : EachImage log.disk (λ image. Spells image bodies)
    pub synced : IsSynced log.disk

  -- The journal has these bodies, and others in hand: each image of its disk spells them without these or with all of these.
  pub record HoldsInHand (log : Log D) (bodies hand : List (List ℕ)) : Type 0 where
    pub phase : HasInHand log hand
    pub counted : HasCounted log bodies
    pub sizes : All IsBody hand
    pub images : EachImage log.disk (SpellsEither bodies hand)
