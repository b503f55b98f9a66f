-- What a contract sees of a journal. Crates above name its disk, its limit and its count, and the predicates below; where its
-- gate is and what it may do next is its own.
use Rattle.std.specs.Prelude.{◌≡◌, ℕ, ◌+◌, ◌*◌, ◌<◌, ◌≤◌, List, [], ◌∷◌, length, Option, IfSome}
use Rattle.pv_journal.specs.Text.{HasClosedGate, MayHaveBody}
use Rattle.pv_journal.specs.declared.journal.Phase.{Phase}
use Rattle.pv_journal.specs.declared.journal.Phase.TheVariants.{Reading, Resting, InHand}
use Rattle.pv_journal.specs.declared.block.TheConstants.{MARK_SIZE, HEAD_SIZE, EMPTY_SIZE, MAX_BLOCK, MAX_WRITE}

-- a journal: its disk, how many bodies it may have, how many it has counted, the place of the gate after these, and what it
-- may do next
pub record Log (D : Type 0) : Type 0 where
  pub disk : D
  pub limit : ℕ
  pub count : ℕ
  pub gate : ℕ
  pub phase : Phase

-- a journal of this many bodies has at most this many bytes
abbrev pub longest : ℕ → ℕ
longest bodies = EMPTY_SIZE + MAX_BLOCK * bodies

-- the disk is known to have its bytes up to here
abbrev pub reach : Phase → ℕ → ℕ
reach (Reading end) gate = end
reach _ gate = gate + 1

-- At its gate the disk has what the phase speaks of: this many bytes to read; a closed gate; or, if the gate is open, a whole
-- body and a closed gate after it.
abbrev pub StandsAtGate : Phase → ℕ → List ℕ → Type 0
StandsAtGate (Reading end) gate text = length text ≡ end
StandsAtGate Resting gate text = HasClosedGate gate text
StandsAtGate (InHand size bodies) gate text = MayHaveBody gate size text

-- how many bytes some bodies in hand have, from the first one on, with what is written between them
abbrev pub hand_size : List (List ℕ) → ℕ
hand_size [] = 0
hand_size (body ∷ []) = length body
hand_size (body ∷ next ∷ hand) = length body + HEAD_SIZE + hand_size (next ∷ hand)

-- there are bodies in hand, and they have the size of as many bodies
abbrev pub IsInRange : Phase → Type 0
IsInRange (InHand size bodies) = (0 < size) × (0 < bodies) × (size + HEAD_SIZE ≤ MAX_WRITE) × (size + HEAD_SIZE ≤ MAX_BLOCK * bodies)
IsInRange _ = Unit {0}

-- how many bodies there may be with those in hand
abbrev pub count_with_hand : Phase → ℕ → ℕ
count_with_hand (InHand size bodies) count = count + bodies
count_with_hand _ count = count

-- how many bodies a journal may have with those in hand
abbrev pub most : {D : Type 0} → Log D → ℕ
most log = count_with_hand log.phase log.count

-- all bodies were read, and none is in hand
abbrev pub IsAtRest : {D : Type 0} → Log D → Type 0
IsAtRest log = log.phase ≡ Resting

-- these bodies are in hand
abbrev pub HasInHand : {D : Type 0} → Log D → List (List ℕ) → Type 0
HasInHand log hand = log.phase ≡ InHand (hand_size hand) (length hand)

-- the bodies are being read
abbrev pub IsStillReading : {D : Type 0} → Log D → Type 0
IsStillReading log = is_reading log.phase
  where
    is_reading : Phase → Type 0
    is_reading (Reading end) = Unit {0}
    is_reading _ = ⊥

-- no further body is read: all were
abbrev pub IsAllRead : {D : Type 0} → Log D → Type 0
IsAllRead log = is_read log.phase
  where
    is_read : Phase → Type 0
    is_read (Reading end) = ⊥
    is_read _ = Unit {0}

-- no body is in hand
abbrev pub IsNoneInHand : {D : Type 0} → Log D → Type 0
IsNoneInHand log = is_none log.phase
  where
    is_none : Phase → Type 0
    is_none (InHand size bodies) = ⊥
    is_none _ = Unit {0}

-- the journal has counted as many bodies as before, and may have as many
pub record KeepsCount {D : Type 0} (old new : Log D) : Type 0 where
  pub count : new.count ≡ old.count
  pub limit : new.limit ≡ old.limit

-- the numbers of a journal are in their ranges, and the disk, if it reports what it reads, has the bytes that they speak of
pub record IsPlaced {D : Type 0} (reads : D → Option (List ℕ)) (log : Log D) : Type 0 where
  pub counted : most log ≤ log.limit
  pub gate : log.gate ≤ MARK_SIZE + MAX_BLOCK * log.count
  pub within : log.gate ≤ reach log.phase log.gate
  pub in_range : IsInRange log.phase
  pub there : IfSome (reads log.disk) (StandsAtGate log.phase log.gate)
