-- How a line is split at its spaces.
use Rattle.std.specs.Prelude.{◌≡◌, ℕ, ◌⊎◌, List, [], ◌∷◌, ◌++◌}
use Rattle.std.specs.List.{AllByRecursion}

-- the byte is not among these
abbrev pub HasNone : ℕ → List ℕ → Type 0
HasNone byte bytes = AllByRecursion (λ other. other ≡ byte → ⊥) bytes

-- the byte between the words of a line
abbrev pub word_gap : ℕ
word_gap = 32

-- nothing, or a space and what follows it
abbrev pub IsTail : List ℕ → Type 0
IsTail tail = (tail ≡ []) ⊎ ((text : List ℕ) × (tail ≡ word_gap ∷ text))

-- the line is a word and its tail
pub record IsSplit (line word tail : List ℕ) : Type 0 where
  pub parts : line ≡ word ++ tail
  pub before : HasNone word_gap word
  pub after : IsTail tail

-- the tail goes on with a word, and has this tail after it
pub record IsNextWord (tail word later : List ℕ) : Type 0 where
  pub text : List ℕ
  pub parts : tail ≡ word_gap ∷ text
  pub split : IsSplit text word later
