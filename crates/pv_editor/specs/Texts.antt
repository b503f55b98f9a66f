-- A text in an array that is longer: zeros follow it.
use Rattle.std.specs.Prelude.{◌≡◌, ℕ, ◌-◌, ◌≤◌, List, ◌++◌, length, take, drop, replicate}
use Rattle.std.proofs.Common.{sym, ◌∙◌, ap, subst}
use Rattle.std.proofs.lemmas.List.{length-take-le, take-append-drop}
use Rattle.pv_editor.specs.declared.text.TheConstants.{ROOM}

-- the text that the first bytes of an array are
abbrev pub text_in : ℕ → List ℕ → List ℕ
text_in len bytes = take len bytes

-- the array of a text
abbrev pub array_of : List ℕ → List ℕ
array_of text = text ++ replicate (ROOM - length text) 0

-- the array has room for the text, and zeros after it
pub record IsZeroed (len : ℕ) (bytes : List ℕ) : Type 0 where
  pub within : len ≤ ROOM
  pub whole : length bytes ≡ ROOM
  pub zeros : drop len bytes ≡ replicate (ROOM - len) 0

-- what is shown is as long as the text
pub length-text_in : (len : ℕ) (bytes : List ℕ) → IsZeroed len bytes → length (text_in len bytes) ≡ len
length-text_in len bytes z = length-take-le len bytes (subst (λ (n : ℕ). len ≤ n) (sym z.whole) z.within)

-- storing what is shown gives the array back
pub array_of-text_in : (len : ℕ) (bytes : List ℕ) → IsZeroed len bytes → array_of (text_in len bytes) ≡ bytes
array_of-text_in len bytes z =
    ap (λ (n : ℕ). take len bytes ++ replicate (ROOM - n) 0) (length-text_in len bytes z)
    ∙ ap (λ (rest : List ℕ). take len bytes ++ rest) (sym z.zeros) ∙ take-append-drop len bytes
