-- Lists of records and of their spellings.
use Rattle.std.proofs.Common.{◌≡◌, ℕ, List, [], ◌∷◌, ◌++◌, get_or, map, drop, All, refl, ap}
use Rattle.std.proofs.lemmas.List.Elements.{All-head, All-tail}

-- what all elements of a list have, the one at the seam has
pub all_at : {X : Type 0} (P : X → Type 0) (before : List X) (x : X) (behind : List X) → All P (before ++ x ∷ behind) → P x
all_at P [] x behind all = All-head P x behind all
all_at P (y ∷ before) x behind all = all_at P before x behind (All-tail P y (before ++ x ∷ behind) all)

-- if the spellings of some records begin with a body, it is the spelling of the first
pub first_of : {X : Type 0} (f : X → List ℕ) (more : List X) (body : List ℕ) (others : List (List ℕ)) → map f more ≡ body ∷ others
    → (x : X) × (rest : List X) × (more ≡ x ∷ rest) × (f x ≡ body)
first_of f [] body others e = cc
first_of f (x ∷ rest) body others e = (x, rest, refl, ap (λ (l : List (List ℕ)). get_or l 0 []) e)

-- if there are no spellings there are no records
pub none_of : {X : Type 0} (f : X → List ℕ) (more : List X) → map f more ≡ [] → more ≡ []
none_of f [] e = refl
none_of f (x ∷ rest) e = cc

-- lists of which each element reports what it is are equal where what they report is
pub told_apart : {X : Type 0} (f : X → List ℕ) (P : X → Type 0) → ((x y : X) → P x → P y → f x ≡ f y → x ≡ y)
    → (one other : List X) → All P one → All P other → map f one ≡ map f other → one ≡ other
told_apart f P tells [] [] each all e = refl
told_apart f P tells [] (y ∷ other) each all e = cc
told_apart f P tells (x ∷ one) [] each all e = cc
told_apart f P tells (x ∷ one) (y ∷ other) each all e =
    let first : x ≡ y = tells x y (All-head P x one each) (All-head P y other all) (ap (λ (l : List (List ℕ)). get_or l 0 []) e) in
    let rest : one ≡ other = told_apart f P tells one other (All-tail P x one each) (All-tail P y other all) (ap (λ (l : List (List ℕ)). drop 1 l) e) in
    (λ i. first i ∷ rest i)
