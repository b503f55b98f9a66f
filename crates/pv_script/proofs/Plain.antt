-- Texts of plain bytes, which are written as they stand: numbers are, and a newline is no part of one.
use Rattle.std.proofs.Common.{◌≡◌, ℕ, ◌+◌, ◌%◌, ◌^◌, ◌<◌, ◌≤◌, Bool, true, false, cond, List, [], ◌∷◌, ◌++◌, refl, ap, ◌∙◌, arith}
use Rattle.std.specs.Prelude.{decimal, ◌==◌}
use Rattle.std.specs.List.{list_all}
use Rattle.std.proofs.lemmas.Bool.{and_parts, and_from}
use Rattle.std.proofs.lemmas.Bool.Decides.{nat_tests}
use Rattle.std.proofs.lemmas.Fmt.{decimal_by_steps}
use Rattle.std.proofs.lemmas.List.Folds.{list_all-append}
use Rattle.pv_cells.specs.Notation.{ReadsAs, is_plain}
use Rattle.pv_words.specs.Lines.{lines_of, before_first_line}
use Rattle.pv_network.specs.Replies.{is_not_line_end, HasNoLineEnd}

-- all bytes of the text are plain
abbrev pub IsPlainText : List ℕ → Type 0
IsPlainText text = list_all is_plain text ≡ true

-- two plain texts make one
pub plain-append : (a b : List ℕ) → IsPlainText a → IsPlainText b → IsPlainText (a ++ b)
plain-append a b p q = list_all-append is_plain a b ∙ and_from _ _ p q

-- a digit is plain
plain_digit : (d : ℕ) → d < 10 → is_plain (48 + d) ≡ true
plain_digit d small = grind (arith, nat_tests)

-- so a number is
pub plain-decimal : (n : ℕ) → n < 2 ^ 64 → IsPlainText (decimal n)
plain-decimal n fits = decimal_by_steps (λ n ds. IsPlainText ds) one more n fits
  where
    one : (n : ℕ) → n < 10 → IsPlainText ((48 + n) ∷ [])
    one n small = and_from _ _ (plain_digit n small) refl

    more : (n : ℕ) (ds : List ℕ) → 10 ≤ n → IsPlainText ds → IsPlainText (ds ++ ((48 + n % 10) ∷ []))
    more n ds big plain = plain-append ds _ plain (one (n % 10) (omega arith))

-- a plain text reads as itself
pub plain_reads : (text : List ℕ) → IsPlainText text → ReadsAs text text
plain_reads [] plain = refl
plain_reads (byte ∷ text) plain =
    let parts = and_parts (is_plain byte) _ plain in
    (text, rw parts.0 refl, plain_reads text parts.1)

-- ---- lines

-- a byte that is no newline
other : (byte : ℕ) → is_not_line_end byte ≡ true → (byte == 10) ≡ false
other byte differs = grind (arith, nat_tests)

-- such a line with its end is the first of the lines
pub unbroken_line : (line later : List ℕ) → HasNoLineEnd line → lines_of (line ++ 10 ∷ later) ≡ line ∷ lines_of later
unbroken_line [] later whole = refl
unbroken_line (byte ∷ line) later whole =
    let parts = and_parts (is_not_line_end byte) _ whole in
    let rest = lines_of (line ++ 10 ∷ later) in
    ap (λ (t : Bool). cond t ([] ∷ rest) (before_first_line byte rest)) (other byte parts.0)
    ∙ ap (before_first_line byte) (unbroken_line line later parts.1)

-- a plain text is one
unbroken-plain : (text : List ℕ) → IsPlainText text → HasNoLineEnd text
unbroken-plain [] plain = refl
unbroken-plain (byte ∷ text) plain =
    let parts = and_parts (is_plain byte) _ plain in
    and_from _ _ (by parts.0) (unbroken-plain text parts.1)
  where
    by : is_plain byte ≡ true → is_not_line_end byte ≡ true
    by plain = grind (arith, nat_tests)

-- a plain line with its end is the first of the lines
pub plain_line : (line later : List ℕ) → IsPlainText line → lines_of (line ++ 10 ∷ later) ≡ line ∷ lines_of later
plain_line line later plain = unbroken_line line later (unbroken-plain line plain)
