-- The keys that are kept: of those that are kept and more, the same are kept as of all.
use Rattle.std.proofs.Common.{◌≡◌, inl, inr, ℕ, Bool, true, List, [], ◌∷◌, ◌++◌, length, take, refl, sym, ap, ◌∙◌, arith}
use Rattle.std.specs.Prelude.{All, filter, if◌then◌else◌}
use Rattle.std.proofs.lemmas.Bool.{cases_lt}
use Rattle.std.proofs.lemmas.List.{take_all, take-append-le, length-take-le}
use Rattle.std.proofs.lemmas.List.Elements.{filter-append, filter_passes, All-head, All-tail, All-take}
use Rattle.pv_session.specs.Entries.{Mode, AccountMode, PasswordMode, BrowseMode, FillMode, QuestionMode, LetterMode, takes_byte, kept_keys}

-- nothing is left out of elements that all pass
filter-all : (test : ℕ → Bool) (xs : List ℕ) → All (λ x. test x ≡ true) xs → filter test xs ≡ xs
filter-all test [] pass = refl
filter-all test (x ∷ xs) pass =
    ap (λ (b : Bool). if b then x ∷ filter test xs else filter test xs) (All-head (λ y. test y ≡ true) x xs pass)
    ∙ ap (λ rest. x ∷ rest) (filter-all test xs (All-tail (λ y. test y ≡ true) x xs pass))

-- the first n of a list's first n and others are those of the list and the others
take-more : (n : ℕ) (xs ys : List ℕ) → take n (take n xs ++ ys) ≡ take n (xs ++ ys)
take-more n xs ys =
    elim (cases_lt (length xs) n) [
      | inl less ↦ ap (λ zs. take n (zs ++ ys)) (take_all n xs (omega arith))
      | inr most ↦
          let some : length (take n xs) ≡ n = length-take-le n xs most in
          take-append-le n (take n xs) ys (omega (arith, some))
          ∙ take_all n (take n xs) (omega (arith, some))
          ∙ sym (take-append-le n xs ys most)
    ]

-- so it is of the keys of a field
pub kept-more : (mode : Mode) (keys others : List ℕ) → kept_keys mode (kept_keys mode keys ++ others) ≡ kept_keys mode (keys ++ others)
kept-more AccountMode keys others = refl
kept-more PasswordMode keys others = refl
kept-more BrowseMode keys others = refl
kept-more QuestionMode keys others = refl
kept-more (LetterMode number) keys others = refl
kept-more (FillMode field full) keys others =
    let test = takes_byte field.kind in
    let n = field.length in
    let kept = take n (filter test keys) in
    let all = All-take (λ x. test x ≡ true) n (filter test keys) (filter_passes test keys) in
    ap (take n) (filter-append test kept others)
    ∙ ap (λ zs. take n (zs ++ filter test others)) (filter-all test kept all)
    ∙ take-more n (filter test keys) (filter test others)
    ∙ ap (take n) (sym (filter-append test keys others))
