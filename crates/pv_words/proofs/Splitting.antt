-- A text is split into its first word and its tail in one way.
use Rattle.std.proofs.Common.{◌≡◌, ℕ, inl, inr, List, [], ◌∷◌, ◌++◌, refl, sym, ◌∙◌}
use Rattle.pv_words.specs.Split.{HasNone, IsTail, IsSplit, word_gap}

-- two words before tails that make one text are one word
same_word : (a b x y : List ℕ) → HasNone word_gap a → HasNone word_gap b → IsTail x → IsTail y → a ++ x ≡ b ++ y → (a ≡ b) × (x ≡ y)
same_word [] [] x y is_a is_b is_x is_y same = (refl, same)
same_word [] (d ∷ b) x y is_a is_b (inl none) is_y same = absurd cc
same_word [] (d ∷ b) x y is_a is_b (inr some) is_y same = let is = some.1 in let e : d ≡ word_gap = cc in absurd (is_b.0 e)
same_word (c ∷ a) [] x y is_a is_b is_x (inl none) same = absurd cc
same_word (c ∷ a) [] x y is_a is_b is_x (inr some) same = let is = some.1 in let e : c ≡ word_gap = cc in absurd (is_a.0 e)
same_word (c ∷ a) (d ∷ b) x y is_a is_b is_x is_y same =
    let heads : c ≡ d = cc in
    let tails : a ++ x ≡ b ++ y = cc in
    let rest = same_word a b x y is_a.1 is_b.1 is_x is_y tails in
    ((λ i. heads i ∷ rest.0 i), rest.1)

-- so a line is split in one way
pub one_split : (line a x b y : List ℕ) → IsSplit line a x → IsSplit line b y → (a ≡ b) × (x ≡ y)
one_split line a x b y is other = same_word a b x y is.before other.before is.after other.after (sym is.parts ∙ other.parts)
