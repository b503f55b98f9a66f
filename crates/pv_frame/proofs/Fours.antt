-- Lists of values that take four bytes each, as bytes and back.
use Rattle.std.proofs.Common.{rules, ◌≡◌, ℕ, zero, suc, ◌*◌, Bool, true, false, not, List, [], ◌∷◌, ◌++◌, length, take, drop, map, All, None, refl, sym, ap, ◌∙◌, arith}
use Rattle.std.proofs.lemmas.{Bool.{not-false, not_from_true, Decides.nat_tests}, Grind.common_steps}
use Rattle.std.proofs.lemmas.List.{take_at, drop_at, length-drop, length-take, take-append-drop, nil_from_length, length-map}
use Rattle.std.{proofs.lemmas.List.{Concat.flat_map-cons, Elements.{All-nil, All-cons, All-head, All-tail}}, specs.Prelude.flat_map}
use Rattle.std.specs.Simd.{first_chunks}
use Rattle.pv_fields.proofs.CallerLemmas.{length-pieces}
use Rattle.pv_frame.proofs.{Vocabulary.{fours, first_bad}, Searching.{all_fail, position-none}}

-- there are as many groups as asked for
length-groups : (count : ℕ) (bytes : List ℕ) → length (first_chunks 4 count bytes) ≡ count
length-groups zero bytes = refl
length-groups (suc count) bytes = ap suc (length-groups count (drop 4 bytes))

-- of four bytes each there are a quarter as many groups
fours_of : (count : ℕ) (bytes : List ℕ) → length bytes ≡ 4 * count → fours bytes ≡ first_chunks 4 count bytes
fours_of count bytes is = grind (arith, common_steps)

pub length-fours : (count : ℕ) (bytes : List ℕ) → length bytes ≡ 4 * count → length (fours bytes) ≡ count
length-fours count bytes is = ap length (fours_of count bytes is) ∙ length-groups count bytes

-- as many values are read as there are groups
pub length-read : {X : Type 0} (read : List ℕ → X) (count : ℕ) (bytes : List ℕ) → length bytes ≡ 4 * count
    → length (map read (fours bytes)) ≡ count
length-read read count bytes is = length-map (fours bytes) read ∙ length-fours count bytes is

-- How a value is spelled and read, and which four bytes spell one.
module _ {X : Type 0} (spell : X → List ℕ) (read : List ℕ → X) (test : List ℕ → Bool) where
  module _ (four : (x : X) → length (spell x) ≡ 4) where
    groups_spelled : (xs : List X) → first_chunks 4 (length xs) (flat_map spell xs) ≡ map spell xs
    groups_spelled [] = refl
    groups_spelled (x ∷ xs) = search (rules, drop_at, flat_map-cons, take_at, groups_spelled xs)

    -- the groups of what is spelled are the spellings
    fours_spelled : (xs : List X) → fours (flat_map spell xs) ≡ map spell xs
    fours_spelled xs = fours_of (length xs) (flat_map spell xs) (length-pieces 4 spell four xs) ∙ groups_spelled xs

    module _ (Has : X → Type 0) (again : (x : X) → Has x → (test (spell x) ≡ true) × (read (spell x) ≡ x)) where
      read_each : (xs : List X) → All Has xs → map read (map spell xs) ≡ xs
      read_each [] has = refl
      read_each (x ∷ xs) has = grind (arith, common_steps, All-head, All-tail, read_each xs (All-tail Has x xs has))

      pass_each : (xs : List X) → All Has xs → All (λ bytes. not (test bytes) ≡ false) (map spell xs)
      pass_each [] has = All-nil (λ bytes. not (test bytes) ≡ false)
      pass_each (x ∷ xs) has = grind (arith, nat_tests, All-cons, All-head, All-tail, not_from_true, pass_each xs (All-tail Has x xs has))

      -- what is spelled is read again
      pub fours_again : (xs : List X) → All Has xs
          → (first_bad test (flat_map spell xs) ≡ None) × (map read (fours (flat_map spell xs)) ≡ xs)
      fours_again xs has = grind (arith, common_steps, fours_spelled, pass_each, position-none, read_each)

  module _ (Fits : List ℕ → Type 0) (first : (bytes : List ℕ) → Fits bytes → Fits (take 4 bytes)) (rest : (bytes : List ℕ) → Fits bytes
      → Fits (drop 4 bytes))
      (found : (bytes : List ℕ) → length bytes ≡ 4 → Fits bytes → test bytes ≡ true → spell (read bytes) ≡ bytes) where
    groups_found : (count : ℕ) (bytes : List ℕ) → length bytes ≡ 4 * count → Fits bytes
        → All (λ four. not (test four) ≡ false) (first_chunks 4 count bytes)
        → flat_map spell (map read (first_chunks 4 count bytes)) ≡ bytes
    groups_found zero bytes is fits pass = sym (nil_from_length bytes (omega arith))
    groups_found (suc count) bytes is fits pass =
        let four = take 4 bytes in
        let others = first_chunks 4 count (drop 4 bytes) in
        let passes = not-false (test four) (All-head (λ four. not (test four) ≡ false) four others pass) in
        let one = found four (omega (arith, length-take 4 bytes)) (first bytes fits) passes in
        let more = groups_found count (drop 4 bytes) (omega (arith, length-drop 4 bytes)) (rest bytes fits)
        (All-tail (λ four. not (test four) ≡ false) four others pass) in
        flat_map-cons spell (read four) (map read others)
        ∙ ap (λ s. s ++ flat_map spell (map read others)) one
        ∙ ap (λ s. four ++ s) more
        ∙ take-append-drop 4 bytes

    -- bytes without a bad group are the spelling of what they are read as
    pub fours_found : (count : ℕ) (bytes : List ℕ) → length bytes ≡ 4 * count → Fits bytes → first_bad test bytes ≡ None
        → flat_map spell (map read (fours bytes)) ≡ bytes
    fours_found count bytes is fits none = grind (arith, common_steps, all_fail, fours_of, groups_found)
