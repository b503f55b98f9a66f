-- The notation of bytes, read byte by byte.
use Rattle.std.proofs.Common.{◌≡◌, ℕ, ◌+◌, ◌*◌, ◌<◌, Bool, true, false, cond, List, [], ◌∷◌, length, Option, Some, None, refl, sym, ap, subst, ◌∙◌, arith}
use Rattle.std.specs.Prelude.{◌==◌, ◌↔◌, IsTrue, not}
use Rattle.std.specs.Char.{digit_value}
use Rattle.std.proofs.lemmas.Bool.Decides.{nat_tests}
use Rattle.pv_cells.specs.Notation.{ReadsAs, notation_at, hexadecimal_at, is_plain}
use Rattle.pv_cells.specs.declared.writing.TheConstants.{BACKSLASH}
use Rattle.pv_network.specs.Standing.{IsNotation}

-- ---- the first byte

-- the rest of a text after its first byte
abbrev rest_in : Option (ℕ × List ℕ) → List ℕ
rest_in None = []
rest_in (Some read) = read.1

-- what is read of hexadecimal digits is shorter
hexadecimal_shorter : (text : List ℕ) (byte : ℕ) (rest : List ℕ) → hexadecimal_at text ≡ Some (byte, rest) → length rest < length text
hexadecimal_shorter [] byte rest is = absurd cc
hexadecimal_shorter (high ∷ []) byte rest is = absurd cc
hexadecimal_shorter (high ∷ low ∷ text) byte rest is = by _ is
  where
    by : (test : Bool) → cond {A = Option (ℕ × List ℕ)} test (Some (16 * digit_value high + digit_value low, text)) None ≡ Some (byte, rest)
        → length rest < length (high ∷ low ∷ text)
    by true found = omega (arith, ap (λ (l : List ℕ). length l) (ap rest_in found))
    by false found = absurd cc

-- after a byte of a notation the rest is shorter
pub notation_shorter : (text : List ℕ) (byte : ℕ) (rest : List ℕ) → notation_at text ≡ Some (byte, rest) → length rest < length text
notation_shorter [] byte rest is = absurd cc
notation_shorter (first ∷ text) byte rest is = by (is_plain first) (first == BACKSLASH) is
  where
    by : (plain slash : Bool) → cond plain (Some (first, text)) (cond slash (hexadecimal_at text) None) ≡ Some (byte, rest)
        → length rest < length (first ∷ text)
    by true slash found = omega (arith, ap (λ (l : List ℕ). length l) (ap rest_in found))
    by false true found = let less = hexadecimal_shorter text byte rest found in omega (arith, less)
    by false false found = absurd cc

-- ---- all bytes

-- the text is the notation of some bytes
abbrev pub IsWhole : List ℕ → Type 0
IsWhole text = (bytes : List ℕ) × ReadsAs text bytes

-- a text is a notation exactly when the rest after its first byte is one
pub whole_rest : (text : List ℕ) (byte : ℕ) (rest : List ℕ) → notation_at text ≡ Some (byte, rest) → IsWhole text ↔ IsWhole rest
whole_rest text byte rest is = (there, λ whole. (byte ∷ whole.0, (rest, is, whole.1)))
  where
    there : IsWhole text → IsWhole rest
    there ([], reads) = let none = ap notation_at (sym reads) in absurd cc
    there (b ∷ bytes, (after, found, reads)) = (bytes, subst (λ (l : List ℕ). ReadsAs l bytes) (ap rest_in (sym found ∙ is)) reads)

-- a text without a first byte is a notation only if it is empty
whole_end : (text : List ℕ) → notation_at text ≡ None → IsWhole text → text ≡ []
whole_end text is ([], reads) = reads
whole_end text is (b ∷ bytes, (after, found, reads)) = absurd cc

-- the empty text is the notation of no byte
empty_text : (bytes : List ℕ) → 0 < length bytes → ReadsAs [] bytes → ⊥
empty_text [] some reads = omega (arith, some)
empty_text (b ∷ bytes) some (rest, found, reads) = absurd cc

-- a text of at least one byte that is a notation is that of at least one
some_bytes : (text : List ℕ) → 0 < length text → IsWhole text → IsNotation text
some_bytes text some ([], reads) = absurd (omega (arith, some, ap (λ (l : List ℕ). length l) reads))
some_bytes text some (b ∷ bytes, reads) = record { bytes = b ∷ bytes; some = omega arith; reads = reads }

-- a text that was read to its end is the notation of at least one byte exactly when it is not empty
pub nothing_left : (text rest : List ℕ) (empty : Bool) → empty ≡ (length text == 0) → length rest ≡ 0 → IsWhole text ↔ IsWhole rest
    → IsTrue (not empty) ↔ IsNotation text
nothing_left text (r ∷ rest) empty is none same = absurd (omega (arith, none))
nothing_left [] [] empty is none same = (
  λ yes. let no = subst (λ (b : Bool). IsTrue (not b)) is yes in absurd cc,
  λ n. absurd (empty_text n.bytes n.some n.reads),
)
nothing_left (t ∷ text) [] empty is none same = (
  λ yes. some_bytes (t ∷ text) (omega arith) (same.1 ([], refl)),
  λ n. let no : (length (t ∷ text) == 0) ≡ false = grind (arith, nat_tests) in subst (λ (b : Bool). IsTrue (not b)) (sym (is ∙ no)) refl,
)

-- a text that was not read to its end is none
pub something_left : (text rest : List ℕ) → (length rest ≡ 0 → ⊥) → notation_at rest ≡ None → IsWhole text ↔ IsWhole rest
    → IsNotation text → ⊥
something_left text rest some none same n = some (ap (λ (l : List ℕ). length l) (whole_end rest none (same.0 (n.bytes, n.reads))))
