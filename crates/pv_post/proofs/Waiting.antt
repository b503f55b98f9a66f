-- What waits after one place more, and after one removal more.
use Rattle.std.proofs.Common.{◌≡◌, ℕ, zero, suc, ◌<◌, Bool, true, false, cond, eqb, not, ◌&&◌, ◌||◌, List, [], ◌∷◌, ◌++◌, Option, refl, ap, ◌∙◌, arith}
use Rattle.std.specs.Prelude.{filter}
use Rattle.std.specs.List.{All, list_any}
use Rattle.std.proofs.lemmas.Bool.{eq-eqb}
use Rattle.std.proofs.lemmas.Bool.Decides.{nat_tests}
use Rattle.std.proofs.lemmas.List.Elements.{All-weaker}
use Rattle.std.proofs.lemmas.List.Folds.{list_any-append, list_any_none}
use Rattle.pv_post.specs.Boxes.{WaitingLetter, without_letter}
use Rattle.pv_post.specs.declared.removal.Removal.{Removal}
use Rattle.pv_post.specs.Waiting.{removes, letters_left, letters_with_arrival, waiting_letters}

-- a filter by a test that each element passes
filter-all : {X : Type 0} (xs : List X) → filter (λ x. true) xs ≡ xs
filter-all [] = refl
filter-all (x ∷ xs) = ap (λ l. x ∷ l) (filter-all xs)

-- what fails one of two tests is left out by the one or by the other
filter-either : {X : Type 0} (p q : X → Bool) (xs : List X)
    → filter (λ x. not (p x || q x)) xs ≡ filter (λ x. not (q x)) (filter (λ x. not (p x)) xs)
filter-either p q [] = refl
filter-either p q (x ∷ xs) = by (p x) (q x) refl refl (filter-either p q xs)
  where
    by : (one other : Bool) → p x ≡ one → q x ≡ other
        → filter (λ x. not (p x || q x)) xs ≡ filter (λ x. not (q x)) (filter (λ x. not (p x)) xs)
        → filter (λ x. not (p x || q x)) (x ∷ xs) ≡ filter (λ x. not (q x)) (filter (λ x. not (p x)) (x ∷ xs))
    by true other is also rest = rw is rest
    by false true is also rest = rw (is, also) rest
    by false false is also rest = rw (is, also) (ap (λ l. x ∷ l) rest)

module _ (account : ℕ) where
  -- a removal of another place takes no letter
  other_place : (place : ℕ) (letter : WaitingLetter) (removal : Removal) → eqb place removal.place ≡ false
      → removes account place letter removal ≡ false
  other_place place letter removal other = by (eqb account removal.account)
    where
      by : (his : Bool) → (his && eqb place removal.place && eqb letter.number removal.number) ≡ false
      by true = rw other refl
      by false = refl

  -- removals of earlier places leave all letters
  pub left-earlier : (removals : List Removal) (place : ℕ) (letters : List WaitingLetter) → All (λ removal. removal.place < place) removals
      → letters_left removals account place letters ≡ letters
  left-earlier removals place letters earlier =
      let none : (letter : WaitingLetter) → list_any (removes account place letter) removals ≡ false =
      λ letter. list_any_none (removes account place letter) removals
      (All-weaker (λ removal. removal.place < place) (λ removal. removes account place letter removal ≡ false)
      (λ removal before. other_place place letter removal (grind (arith, nat_tests, before))) removals earlier) in
      (λ i. filter (λ letter. not (none letter i)) letters) ∙ filter-all letters

  -- one removal more, of another place, leaves the same
  left-other : (removals : List Removal) (removal : Removal) (place : ℕ) (letters : List WaitingLetter) → eqb place removal.place ≡ false
      → letters_left (removals ++ removal ∷ []) account place letters ≡ letters_left removals account place letters
  left-other removals removal place letters other =
      let same : (letter : WaitingLetter) → list_any (removes account place letter) (removals ++ removal ∷ [])
      ≡ list_any (removes account place letter) removals =
      λ letter. list_any-append (removes account place letter) removals (removal ∷ [])
      ∙ rw (other_place place letter removal other) (or_false (list_any (removes account place letter) removals)) in
      λ i. filter (λ letter. not (same letter i)) letters
    where
      or_false : (b : Bool) → (b || (false || false)) ≡ b
      or_false true = refl
      or_false false = refl

  -- ---- what waits

  -- what waits after some places is what these places brought
  pub waiting-arrivals : (one other : ℕ → Option WaitingLetter) (removals : List Removal) (place : ℕ)
      → ((i : ℕ) → i < place → one i ≡ other i)
      → waiting_letters one removals account place ≡ waiting_letters other removals account place
  waiting-arrivals one other removals zero same = refl
  waiting-arrivals one other removals (suc place) same =
      let before = waiting-arrivals one other removals place (λ i below. same i (omega (arith, below))) in
      let here = same place (omega arith) in
      λ i. letters_left removals account (suc place) (letters_with_arrival (before i) (here i))

  -- a removal that is stored later changes nothing
  waiting-before : (arrivals : ℕ → Option WaitingLetter) (removals : List Removal) (removal : Removal) (place : ℕ) → place < removal.place
      → waiting_letters arrivals (removals ++ removal ∷ []) account place ≡ waiting_letters arrivals removals account place
  waiting-before arrivals removals removal zero later = refl
  waiting-before arrivals removals removal (suc place) later =
      let before = waiting-before arrivals removals removal place (omega (arith, later)) in
      ap (λ letters. letters_left (removals ++ removal ∷ []) account (suc place) (letters_with_arrival letters (arrivals place))) before
      ∙ left-other removals removal (suc place) _ (grind (arith, nat_tests, later))

  -- a removal takes its letter out of what the others of its place leave
  left-more : (removals : List Removal) (owner number place : ℕ) (letters : List WaitingLetter)
      → letters_left (removals ++ record { account = owner; number = number; place = place } ∷ []) account place letters
      ≡ cond (eqb account owner) (without_letter (letters_left removals account place letters) number)
      (letters_left removals account place letters)
  left-more removals owner number place letters = by (eqb account owner) refl
    where
      removal : Removal
      removal = record { account = owner; number = number; place = place }

      or_false : (b : Bool) → (b || false) ≡ b
      or_false true = refl
      or_false false = refl

      joined : (letter : WaitingLetter) → list_any (removes account place letter) (removals ++ removal ∷ [])
          ≡ (list_any (removes account place letter) removals || removes account place letter removal)
      joined letter =
          list_any-append (removes account place letter) removals (removal ∷ [])
          ∙ ap (λ b. list_any (removes account place letter) removals || b) (or_false (removes account place letter removal))

      Same : (WaitingLetter → Bool) → Type 0
      Same test = (letter : WaitingLetter) → list_any (removes account place letter) (removals ++ removal ∷ []) ≡ test letter

      his_test : eqb account owner ≡ true → (letter : WaitingLetter) → removes account place letter removal ≡ eqb letter.number number
      his_test is letter = rw (is, eq-eqb place place refl) refl

      not_his : eqb account owner ≡ false → (letter : WaitingLetter) → removes account place letter removal ≡ false
      not_his is letter = rw is refl

      by : (his : Bool) → eqb account owner ≡ his
          → letters_left (removals ++ removal ∷ []) account place letters
          ≡ cond his (without_letter (letters_left removals account place letters) number) (letters_left removals account place letters)
      by true is =
          let same : Same (λ letter. list_any (removes account place letter) removals || eqb letter.number number) =
          λ letter. joined letter ∙ ap (λ b. list_any (removes account place letter) removals || b) (his_test is letter) in
          (λ i. filter (λ letter. not (same letter i)) letters)
          ∙ filter-either (λ letter. list_any (removes account place letter) removals) (λ letter. eqb letter.number number) letters
      by false is =
          let same : Same (λ letter. list_any (removes account place letter) removals) =
          λ letter. joined letter ∙ ap (λ b. list_any (removes account place letter) removals || b) (not_his is letter)
          ∙ or_false (list_any (removes account place letter) removals) in
          λ i. filter (λ letter. not (same letter i)) letters

  -- a removal that is stored now takes its letter out
  pub waiting-removed : (arrivals : ℕ → Option WaitingLetter) (removals : List Removal) (owner number place : ℕ)
      → waiting_letters arrivals (removals ++ record { account = owner; number = number; place = place } ∷ []) account place
      ≡ cond (eqb account owner) (without_letter (waiting_letters arrivals removals account place) number)
      (waiting_letters arrivals removals account place)
  waiting-removed arrivals removals owner number zero = by (eqb account owner)
    where
      by : (his : Bool) → [] ≡ cond his (without_letter [] number) []
      by true = refl
      by false = refl
  waiting-removed arrivals removals owner number (suc place) =
      let removal : Removal = record { account = owner; number = number; place = suc place } in
      ap (λ letters. letters_left (removals ++ removal ∷ []) account (suc place) (letters_with_arrival letters (arrivals place)))
      (waiting-before arrivals removals removal place (omega arith))
      ∙ left-more removals owner number (suc place) _
