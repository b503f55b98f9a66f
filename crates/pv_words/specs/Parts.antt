-- The parts of a line's tail, and what is made of them.
use Rattle.std.specs.Prelude.{◌≡◌, ℕ, List, [], ◌∷◌, Option, Some, IfSome}
use Rattle.pv_words.specs.Split.{word_gap, IsNextWord}

-- the value is the one of which this holds, and is `None` when it holds of none
pub record Exactly {A : Type 0} (Is : A → Type 0) (value : Option A) : Type 0 where
  pub found : IfSome value Is
  pub only : (a : A) → Is a → value ≡ Some a

-- the part is the text itself
abbrev pub IsPart : List ℕ → List ℕ → Type 0
IsPart part text = part ≡ text

-- the tail is one part: all that follows its space
pub record IsOne {A : Type 0} (IsFirst : A → List ℕ → Type 0) (tail : List ℕ) (a : A) : Type 0 where
  pub text : List ℕ
  pub parts : tail ≡ word_gap ∷ text
  pub first : IsFirst a text

-- the tail is two parts: a word, and all that follows the space after it
pub record AreTwo {A B : Type 0} (IsFirst : A → List ℕ → Type 0) (IsSecond : B → List ℕ → Type 0)
    (tail : List ℕ) (parts : A × B) : Type 0 where
  pub word : List ℕ
  pub later : List ℕ
  pub next : IsNextWord tail word later
  pub first : IsFirst parts.0 word
  pub second : IsOne IsSecond later parts.1

-- the tail is three parts: two words, and all that follows the space after them
pub record AreThree {A B C : Type 0} (IsFirst : A → List ℕ → Type 0) (IsSecond : B → List ℕ → Type 0) (IsThird : C → List ℕ → Type 0)
    (tail : List ℕ) (parts : A × B × C) : Type 0 where
  pub word : List ℕ
  pub later : List ℕ
  pub next : IsNextWord tail word later
  pub first : IsFirst parts.0 word
  pub others : AreTwo IsSecond IsThird later (parts.1, parts.2)

-- the tail has parts of which this is made
pub record Gives {A E : Type 0} (Are : List ℕ → A → Type 0) (make : A → E) (tail : List ℕ) (made : E) : Type 0 where
  pub parts : A
  pub are : Are tail parts
  pub is : made ≡ make parts

-- the tail has no part, and this is made
abbrev pub GivesAlone : {E : Type 0} → E → List ℕ → E → Type 0
GivesAlone made tail other = (tail ≡ []) × (other ≡ made)
