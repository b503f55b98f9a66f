-- What the bytes at a gate stand for.
use Rattle.std.proofs.Common.{◌≡◌, inl, inr, min, replicate, ℕ, zero, suc, ◌+◌, ◌-◌, ◌*◌, ◌<◌, ◌≤◌, List, [], ◌∷◌, ◌++◌, length, get_or, take, drop, refl, sym, ◌∙◌, ap, arith, take-append-drop, append_assoc, ◌⊎◌, ⊎_elim, subst, rules}
use Rattle.std.proofs.lemmas.List.{length-take-le, length-take, length-drop, take_min, take_at, take-append-le, take_all, take-replicate, drop-replicate, append-nil, get_or-take, get_or-append_right, get_or-replicate}
use Rattle.std.proofs.Math.Seq.{take-append-add}
use Rattle.std.proofs.lemmas.Nat.{be_bytes_2}
use Rattle.std.specs.List.{slice_range}
use Rattle.std.specs.Int.{w16, to_be_bytes, from_be_bytes}
use Rattle.pv_journal.specs.Block.{HasBlockOf}
use Rattle.pv_journal.specs.Text.{block, HasBlock, HasNoOpenGate, HasBrokenBlock, first_eight}
use Rattle.std.proofs.lemmas.Bool.{cases_lt}
use Rattle.pv_journal.specs.declared.block.TheConstants.{MARK, MAX_BLOCK}

-- both of two bytes below 256 are
two_bytes : (high low : ℕ) → high < 256 → low < 256 → (i : ℕ) → get_or (high ∷ low ∷ []) i 0 < 256
two_bytes high low h l zero = h
two_bytes high low h l (suc zero) = l
two_bytes high low h l (suc (suc i)) = omega arith

-- an open gate, a length in range, and at least this many bytes are a block
pub has_block : (bytes : List ℕ) (size : ℕ) → 3 ≤ length bytes → get_or bytes 0 0 ≡ 1 → size ≡ get_or bytes 1 0 * 256 + get_or bytes 2 0
    → get_or bytes 1 0 < 256 → get_or bytes 2 0 < 256
    → 0 < size → size ≤ 2048 → size ≤ length bytes - 3 → HasBlockOf size bytes
has_block [] size long open_gate is high low some most within = absurd (omega arith)
has_block (a ∷ []) size long open_gate is high low some most within = absurd (omega arith)
has_block (a ∷ b ∷ []) size long open_gate is high low some most within = absurd (omega arith)
has_block (gate ∷ b ∷ c ∷ rest) size long open_gate is high low some most within =
    let whole : length (take size rest) ≡ size = length-take-le size rest (omega arith) in
    let digits : to_be_bytes w16 (length (take size rest)) ≡ b ∷ c ∷ [] =
    be_bytes_2 (b ∷ c ∷ []) (length (take size rest)) refl (two_bytes b c high low) (omega (arith, whole)) in
    record {
      block = record {
        rest = drop size rest;
        text =
            (λ i. open_gate i ∷ b ∷ c ∷ sym (take-append-drop size rest) i)
            ∙ ap (λ (l : List ℕ). 1 ∷ (l ++ take size rest) ++ drop size rest) (sym digits);
        size = (omega (arith, whole), omega (arith, whole));
      };
      size = whole;
      within = omega arith;
    }

-- a disk that begins with the mark, filled up or not, begins with it
pub marked : (text : List ℕ) → first_eight text ≡ MARK → text ≡ MARK ++ drop 8 text
marked text same = search (rules, cases_lt, get_or-take, get_or-append_right, get_or-replicate, take-append-drop, take-append-le)

-- what a read puts over eight zeros are the first eight bytes
pub first_read : (text into : List ℕ) (held : ℕ) → held ≡ min (length text) 8 → into ≡ take held text
    → into ++ drop held (replicate 8 0) ≡ first_eight text
first_read text into held is read = elim (cases_lt (length text) 8) [
  | inl short ↦
      let all : held ≡ length text = omega arith in
      let rest : drop held (replicate 8 0) ≡ replicate (8 - held) 0 = drop-replicate held 8 0 in
      let more : take (length text + (8 - held)) (text ++ replicate 8 0) ≡ text ++ take (8 - held) (replicate 8 0) =
      take-append-add text (replicate 8 0) (8 - held) in
      let eight : length text + (8 - held) ≡ 8 = omega arith in
      (λ i. (read ∙ take_all held text (omega arith)) i ++ rest i)
      ∙ sym (ap (λ (l : List ℕ). text ++ l) (take-replicate (8 - held) 8 0 (omega arith)))
      ∙ sym more
      ∙ ap (λ (k : ℕ). take k (text ++ replicate 8 0)) eight
  | inr long ↦
      let all : held ≡ 8 = omega arith in
      let nothing : drop held (replicate 8 0) ≡ [] = ap (λ (k : ℕ). drop k (replicate 8 0)) all in
      (λ i. (read ∙ ap (λ (k : ℕ). take k text) all) i ++ nothing i)
      ∙ append-nil (take 8 text) ∙ sym (take-append-le 8 text (replicate 8 0) long)
]

-- what a read of at most a longest block gives is the first part of what is at the gate
pub block_read : (text into rest : List ℕ) (gate held : ℕ) → held ≡ min (length text - gate) MAX_BLOCK → gate ≤ length text
    → into ≡ take held (drop gate text) → take held (into ++ rest) ≡ take MAX_BLOCK (drop gate text)
block_read text into rest gate held is within read =
    let size : length into ≡ held = ap length read ∙ length-take-le held (drop gate text) (omega (arith, length-drop gate text)) in
    let same : take held (drop gate text) ≡ take MAX_BLOCK (drop gate text) =
    ap (λ (k : ℕ). take k (drop gate text))
    (let e : held ≡ min MAX_BLOCK (length (drop gate text)) = omega (arith, length-drop gate text) in e)
    ∙ take_min MAX_BLOCK (drop gate text) in
    take_at into rest held size ∙ read ∙ same

-- at a gate stands what a read of at most a longest block there shows: a closed gate
closed_there : (rest : List ℕ) → HasNoOpenGate (take MAX_BLOCK rest) → HasNoOpenGate rest
closed_there [] closed = closed
closed_there (gate ∷ rest) closed = closed

-- the block that such a read shows
block_there : (rest : List ℕ) (size : ℕ) → HasBlock (take MAX_BLOCK rest) (take size (drop 3 (take MAX_BLOCK rest)))
    → HasBlock rest (take size (drop 3 (take MAX_BLOCK rest)))
block_there rest size has = record {
  rest = has.rest ++ drop MAX_BLOCK rest;
  text =
      sym (take-append-drop MAX_BLOCK rest) ∙ ap (λ (l : List ℕ). l ++ drop MAX_BLOCK rest) has.text
      ∙ append_assoc (block (take size (drop 3 (take MAX_BLOCK rest)))) has.rest (drop MAX_BLOCK rest);
  size = has.size;
}

-- the broken gate that such a read shows
broken_there : (rest : List ℕ) → HasBrokenBlock (take MAX_BLOCK rest) → HasBrokenBlock rest
broken_there [] broken = tt
broken_there (gate ∷ []) broken = broken
broken_there (gate ∷ high ∷ []) broken = broken
broken_there (gate ∷ high ∷ low ∷ rest) broken =
    (broken.0, ⊎_elim (λ none. inl none) (λ more. inr (⊎_elim (λ long. inl long) (λ short. too_short rest (from_be_bytes w16 (high ∷ low ∷ [])) short) more)) broken.1)
  where
    too_short : (rest : List ℕ) (size : ℕ) → length (take 2048 rest) < size → (2048 < size) ⊎ (length rest < size)
    too_short rest size short = elim (cases_lt (length rest) size) [
      | inl h ↦ inr h
      | inr h ↦ inl (omega (arith, length-take 2048 rest))
    ]

-- if the bytes of at most a longest block begin with a closed gate, one is there
pub closed_at : (bytes rest : List ℕ) → bytes ≡ take MAX_BLOCK rest → HasNoOpenGate bytes → HasNoOpenGate rest
closed_at bytes rest is closed = closed_there rest (subst HasNoOpenGate is closed)

-- if they begin with a broken gate, one is there
pub broken_at : (bytes rest : List ℕ) → bytes ≡ take MAX_BLOCK rest → HasBrokenBlock bytes → HasBrokenBlock rest
broken_at bytes rest is broken = broken_there rest (subst HasBrokenBlock is broken)

-- if they begin with a block, the block of that body is there
pub block_at : (bytes rest body : List ℕ) (size : ℕ) → bytes ≡ take MAX_BLOCK rest → body ≡ take size (drop 3 bytes)
    → HasBlock bytes (take size (drop 3 bytes)) → HasBlock rest body
block_at bytes rest body size is same has =
    subst (λ (b : List ℕ). HasBlock rest b) (ap (λ (l : List ℕ). take size (drop 3 l)) (sym is) ∙ sym same)
    (block_there rest size (subst (λ (l : List ℕ). HasBlock l (take size (drop 3 l))) is has))

-- what was copied out of a block is its body
pub copied : (into rest bytes : List ℕ) (size : ℕ) → into ≡ slice_range bytes 3 (3 + size) → length (take size (drop 3 bytes)) ≡ size
    → take size (into ++ rest) ≡ take size (drop 3 bytes)
copied into rest bytes size copy whole = search (rules, take_at)
