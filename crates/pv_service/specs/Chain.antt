-- Work that is done step by step.
use Rattle.std.specs.Prelude.{◌≡◌, Bool, false, ◌||◌, List, [], ◌∷◌}

module _ {P X : Type 0} (Step : P → X → P → Type 0) where
  -- Steps one after another, given the last one first: the first began at `start`, and the last one left `now`.
  abbrev pub IsChain : List X → P → P → Type 0
  IsChain [] start now = now ≡ start
  IsChain (last ∷ earlier) start now = (before : P) × IsChain earlier start before × Step before last now

-- whether one of them is so
abbrev pub any_is : {X : Type 0} → (X → Bool) → List X → Bool
any_is is [] = false
any_is is (last ∷ earlier) = any_is is earlier || is last
