-- Texts made of blocks: one for each element of a list, or for each number from 1 on.
use Rattle.std.proofs.Common.{◌≡◌, ℕ, zero, suc, ◌+◌, ◌-◌, ◌<◌, List, [], ◌∷◌, ◌++◌}
use Rattle.std.proofs.Common.{flat_map, length, get_or, take, drop, refl, sym, ap, ◌∙◌, append_assoc, arith}
use Rattle.std.specs.List.{range_with_len}
use Rattle.std.proofs.lemmas.Grind.{flat_map-append}
use Rattle.std.proofs.lemmas.List.{append-nil}

-- the block of one element, apart from those before it and after it
pub parted_at : {X : Type 0} (block : X → List ℕ) (xs : List X) (i : ℕ) (d : X) → i < length xs
    → flat_map block xs ≡ flat_map block (take i xs) ++ block (get_or xs i d) ++ flat_map block (drop (suc i) xs)
parted_at block [] i d within = absurd (omega arith)
parted_at block (x ∷ xs) zero d within = refl
parted_at block (x ∷ xs) (suc i) d within = ap (λ (l : List ℕ). block x ++ l) (parted_at block xs i d (omega arith))
    ∙ sym (append_assoc (block x) (flat_map block (take i xs) ++ block (get_or xs i d)) (flat_map block (drop (suc i) xs)))
    ∙ ap (λ (l : List ℕ). l ++ flat_map block (drop (suc i) xs))
    (sym (append_assoc (block x) (flat_map block (take i xs)) (block (get_or xs i d))))

-- numbers from a on, parted at one of them
range_parts : (a k m : ℕ) → range_with_len a (k + suc m) ≡ range_with_len a k ++ (a + k) ∷ range_with_len (a + k + 1) m
range_parts a zero m =
    let e : 0 + suc m ≡ suc m = omega arith in
    let f : a ≡ a + 0 = omega arith in
    ap (range_with_len a) e ∙ ap (λ (x : ℕ). x ∷ range_with_len (x + 1) m) f
range_parts a (suc k) m =
    let e : suc k + suc m ≡ suc (k + suc m) = omega arith in
    let f : a + 1 + k ≡ a + suc k = omega arith in
    ap (range_with_len a) e ∙ ap (λ (l : List ℕ). a ∷ l) (range_parts (a + 1) k m)
    ∙ ap (λ (x : ℕ). a ∷ (range_with_len (a + 1) k ++ x ∷ range_with_len (x + 1) m)) f

-- the blocks of the first numbers from 1 on, and the next one, apart from those after it
number_parted : (block : ℕ → List ℕ) (k m : ℕ) → flat_map block (range_with_len 1 (k + suc m))
    ≡ flat_map block (range_with_len 1 k) ++ block (k + 1) ++ flat_map block (range_with_len (k + 1 + 1) m)
number_parted block k m =
    let f : 1 + k ≡ k + 1 = omega arith in
    ap (flat_map block) (range_parts 1 k m)
    ∙ flat_map-append block (range_with_len 1 k) ((1 + k) ∷ range_with_len (1 + k + 1) m)
    ∙ sym (append_assoc (flat_map block (range_with_len 1 k)) (block (1 + k)) (flat_map block (range_with_len (1 + k + 1) m)))
    ∙ ap (λ (x : ℕ). flat_map block (range_with_len 1 k) ++ block x ++ flat_map block (range_with_len (x + 1) m)) f

-- the text of all blocks is that of those before the next one, this text for the next, and that of those after it
pub later_blocks : (block : ℕ → List ℕ) (n k : ℕ) {text : List ℕ} → block (k + 1) ≡ text → k < n
    → (later : List ℕ) × (flat_map block (range_with_len 1 n) ≡ flat_map block (range_with_len 1 k) ++ text ++ later)
later_blocks block n k is within =
    let m = n - (k + 1) in
    let e : n ≡ k + suc m = omega (arith, within) in
    let later = flat_map block (range_with_len (k + 1 + 1) m) in (
      later,
      ap (λ (x : ℕ). flat_map block (range_with_len 1 x)) e ∙ number_parted block k m
          ∙ ap (λ (l : List ℕ). flat_map block (range_with_len 1 k) ++ l ++ later) is,
    )

-- with one block more, the text of the blocks goes on with this text
pub blocks-more : (block : ℕ → List ℕ) (k : ℕ) {text : List ℕ} → block (k + 1) ≡ text
    → flat_map block (range_with_len 1 (k + 1)) ≡ flat_map block (range_with_len 1 k) ++ text
blocks-more block k is =
    let e : k + 1 ≡ k + suc 0 = omega arith in
    ap (λ (x : ℕ). flat_map block (range_with_len 1 x)) e ∙ number_parted block k 0
    ∙ append-nil (flat_map block (range_with_len 1 k) ++ block (k + 1)) ∙ ap (λ (l : List ℕ). flat_map block (range_with_len 1 k) ++ l) is
