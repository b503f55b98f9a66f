-- The first line of a text.
use Rattle.std.proofs.Common.{◌≡◌, ℕ, ◌<◌, Bool, true, false, cond, eqb, List, [], ◌∷◌, ◌++◌, length, refl, ap, ◌∙◌, arith}
use Rattle.std.proofs.lemmas.Bool.{eqb-true}
use Rattle.pv_words.specs.Lines.{lines_of, before_first_line}
use Rattle.pv_words.specs.Split.{HasNone}

-- a byte that is no newline is not equal to one
other : (byte : ℕ) → (byte ≡ 10 → ⊥) → eqb byte 10 ≡ false
other byte differs = go (eqb byte 10) (eqb-true byte 10)
  where
    go : (b : Bool) → (b ≡ true → byte ≡ 10) → b ≡ false
    go true is = absurd (differs (is refl))
    go false is = refl

-- what comes before the first newline is the first line
pub line_first : (line rest : List ℕ) → HasNone 10 line → lines_of (line ++ 10 ∷ rest) ≡ line ∷ lines_of rest
line_first [] rest none = refl
line_first (byte ∷ line) rest none =
    ap (λ (t : Bool). cond t ([] ∷ lines_of (line ++ 10 ∷ rest)) (before_first_line byte (lines_of (line ++ 10 ∷ rest))))
    (other byte none.0)
    ∙ ap (before_first_line byte) (line_first line rest none.1)

-- a text without a newline is one line
pub line_last : (line : List ℕ) → 0 < length line → HasNone 10 line → lines_of line ≡ line ∷ []
line_last [] some none = absurd (omega arith)
line_last (byte ∷ []) some none = ap (λ (t : Bool). cond t ([] ∷ []) ((byte ∷ []) ∷ [])) (other byte none.0)
line_last (byte ∷ next ∷ line) some none =
    ap (λ (t : Bool). cond t ([] ∷ lines_of (next ∷ line)) (before_first_line byte (lines_of (next ∷ line)))) (other byte none.0)
    ∙ ap (before_first_line byte) (line_last (next ∷ line) (omega arith) none.1)
