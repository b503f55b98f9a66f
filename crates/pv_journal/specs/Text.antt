-- The text of a journal on a disk: the mark, a block for each body, and a closed gate.
use Rattle.std.specs.Prelude.{◌≡◌, ◌≢◌, ◌⊎◌, ℕ, ◌+◌, ◌<◌, ◌≤◌, List, [], ◌∷◌, ◌++◌, length, take, drop, replicate, slice_index, All}
use Rattle.std.specs.List.{flat_map}
use Rattle.std.specs.Int.{w16, to_be_bytes, from_be_bytes}
use Rattle.pv_journal.specs.declared.block.TheConstants.{MARK, MARK_SIZE, HEAD_SIZE, MAX_BODY}

-- a body has 1 to 2,048 bytes
abbrev pub IsBody : List ℕ → Type 0
IsBody body = (0 < length body) × (length body ≤ MAX_BODY)

-- the block of a body: its gate, which is open; its length in two bytes, the high one first; the body
abbrev pub block : List ℕ → List ℕ
block body = 1 ∷ (to_be_bytes w16 (length body) ++ body)

-- the mark, and then the blocks of these bodies
abbrev pub text_of : List (List ℕ) → List ℕ
text_of bodies = MARK ++ flat_map block bodies

-- The bytes spell these bodies: the mark, the block of each, one byte that is not 1, and then anything.
pub record Spells (bytes : List ℕ) (bodies : List (List ℕ)) : Type 0 where
  pub gate : ℕ
  pub rest : List ℕ
  pub text : bytes ≡ text_of bodies ++ gate ∷ rest
  pub closed : gate ≢ 1
  pub sizes : All IsBody bodies

-- the bytes spell these bodies, without those in hand or with all of them
abbrev pub SpellsEither : List (List ℕ) → List (List ℕ) → List ℕ → Type 0
SpellsEither bodies hand bytes = Spells bytes bodies ⊎ Spells bytes (bodies ++ hand)

-- the first eight bytes, filled up with 0
abbrev pub first_eight : List ℕ → List ℕ
first_eight bytes = take MARK_SIZE (bytes ++ replicate MARK_SIZE 0)

-- a gate is there that is not open
abbrev pub HasNoOpenGate : List ℕ → Type 0
HasNoOpenGate [] = ⊥
HasNoOpenGate (gate ∷ rest) = gate ≢ 1

-- the block of this body is there
pub record HasBlock (bytes body : List ℕ) : Type 0 where
  pub rest : List ℕ
  pub text : bytes ≡ block body ++ rest
  pub size : IsBody body

-- there is no byte, or the gate is open and the length after it is missing, is 0 or over 2,048, or passes the end
abbrev pub HasBrokenBlock : List ℕ → Type 0
HasBrokenBlock [] = Unit {0}
HasBrokenBlock (gate ∷ []) = gate ≡ 1
HasBrokenBlock (gate ∷ high ∷ []) = gate ≡ 1
HasBrokenBlock (gate ∷ high ∷ low ∷ rest) =
    let size = from_be_bytes w16 (high ∷ low ∷ []) in
    (gate ≡ 1) × ((size ≡ 0) ⊎ ((MAX_BODY < size) ⊎ (length rest < size)))

-- what is written after a closed gate to append a body: its length, the body, and the next gate, which is closed
abbrev pub bytes_after_gate : List ℕ → List ℕ
bytes_after_gate body = to_be_bytes w16 (length body) ++ body ++ 0 ∷ []

-- What is written after a closed gate to append some bodies: the length of the first and that body, the blocks of the others,
-- and the next gate, which is closed.
abbrev pub bytes_behind : List (List ℕ) → List ℕ
bytes_behind hand = drop 1 (flat_map block hand ++ 0 ∷ [])

-- a gate that is not open is at this place
abbrev pub HasClosedGate : ℕ → List ℕ → Type 0
HasClosedGate gate text = (gate < length text) × (slice_index text gate ≢ 1)

-- a gate is at this place, and if it is open, a closed one is after a body of this size
abbrev pub MayHaveBody : ℕ → ℕ → List ℕ → Type 0
MayHaveBody gate size text = (gate < length text) × (slice_index text gate ≡ 1 → HasClosedGate (gate + size + HEAD_SIZE) text)
