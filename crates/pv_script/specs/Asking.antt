-- What the words of the command line ask for.
use Rattle.std.specs.Prelude.{◌≡◌, ℕ, ◌≤◌, List, [], ◌∷◌, decimal}

-- the words are a command, and then a number from 1 to the last that the command takes
pub record AskFor (command : List ℕ) (last : ℕ) (words : List (List ℕ)) (number : ℕ) : Type 0 where
  pub some : 1 ≤ number
  pub few : number ≤ last
  pub asked : words ≡ command ∷ decimal number ∷ []

-- the words are not the command with any such number
abbrev pub AskNot : List ℕ → ℕ → List (List ℕ) → Type 0
AskNot command last words = (number : ℕ) → AskFor command last words number → ⊥
