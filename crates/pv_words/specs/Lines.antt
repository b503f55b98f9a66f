-- The lines of a text.
use Rattle.std.specs.Prelude.{◌≡◌, ℕ, ◌==◌, List, [], ◌∷◌, ◌++◌, if◌then◌else◌}
use Rattle.pv_words.specs.Split.{HasNone}

-- the text is split at the first such byte
pub record IsSplitAt (byte : ℕ) (text first rest : List ℕ) : Type 0 where
  pub parts : text ≡ first ++ byte ∷ rest
  pub before : HasNone byte first

-- the lines with a byte put before the first of them
abbrev pub before_first_line : ℕ → List (List ℕ) → List (List ℕ)
before_first_line byte [] = (byte ∷ []) ∷ []
before_first_line byte (line ∷ lines) = (byte ∷ line) ∷ lines

-- the lines of a text: each ends with a newline, which the last may lack
abbrev pub lines_of : List ℕ → List (List ℕ)
lines_of [] = []
lines_of (byte ∷ bytes) = if byte == 10 then [] ∷ lines_of bytes else before_first_line byte (lines_of bytes)
