-- Items and then filler, up to a fixed size: a text in its bytes, a row in its cells, fields in their slots.
use Rattle.std.specs.Prelude.{◌≡◌, ℕ, ◌-◌, ◌≤◌, List, ◌++◌, length, drop, replicate}

-- the items, and then filler up to the size
abbrev pub padded_list : {X : Type 0} → X → ℕ → List X → List X
padded_list filler size items = items ++ replicate (size - length items) filler

-- a list of this size that holds filler after its first `count` elements
pub record IsPadded {X : Type 0} (filler : X) (size count : ℕ) (list : List X) : Type 0 where
  pub len : length list ≡ size
  pub fits : count ≤ size
  pub rest : drop count list ≡ replicate (size - count) filler
