-- The canonical notation is read back, and can be printed.
use Rattle.std.proofs.lemmas.{Grind.common_steps, Bool.{and_parts, lt-ltb, Decides.nat_tests}}
use Rattle.std.proofs.lemmas.{List.Elements.{All-nil, All-cons, All-head, All-tail, All-append, All-weaker}, Str.digit_value-digit_char}
use Rattle.std.proofs.Common.{◌≡◌, ℕ, ◌/◌, ◌%◌, ◌<◌, ◌≤◌, ◌==◌, not, Bool, true, false, cond, List, [], ◌∷◌, ◌++◌, length, Option, Some, None, Ok, refl, sym, ap, subst, ◌∙◌, arith}
use Rattle.std.specs.{Char.digit_char, List.{All, AllPass}}
use Rattle.pv_fields.specs.Padded.{padded_list}
use Rattle.pv_cells.specs.{Notation.{IsByte, is_printable, is_plain, notation_of, notation_at, ReadsAs}, Row.{IsCell, row_of_text}}
use Rattle.pv_cells.{specs.declared.{reading.TheConstants.BLANK, writing.TheConstants.BACKSLASH}, proofs.Rows.row_again}

-- the notation of a byte, by whether it is written as itself
abbrev written : ℕ → Bool → List ℕ
written byte plain = cond plain (byte ∷ []) (BACKSLASH ∷ digit_char (byte / 16) ∷ digit_char (byte % 16) ∷ [])

-- either form is read as the byte
written_again : (byte : ℕ) (plain : Bool) (rest : List ℕ) → is_plain byte ≡ plain → IsByte byte
    → notation_at (written byte plain ++ rest) ≡ Some (byte, rest)
written_again byte true rest is small = rw is refl
written_again byte false rest is small = grind (arith, common_steps, digit_value-digit_char, lt-ltb)

-- the notation of bytes is read as the bytes
pub notation_reads : (bytes : List ℕ) → All IsByte bytes → ReadsAs (notation_of bytes) bytes
notation_reads [] small = refl
notation_reads (byte ∷ bytes) small = (
  notation_of bytes,
  written_again byte (is_plain byte) (notation_of bytes) refl (All-head IsByte byte bytes small),
  notation_reads bytes (All-tail IsByte byte bytes small),
)

-- that of cells that fit into a row is read as the row of these cells
pub row_reads : (width : ℕ) (cells : List ℕ) → length cells ≤ width → All IsCell cells
    → row_of_text width (notation_of cells) ≡ Ok (padded_list BLANK width cells)
row_reads width cells fits are_cells =
    row_again width (notation_of cells) (padded_list BLANK width cells) (record {
      cells = cells;
      reads = notation_reads cells (All-weaker IsCell IsByte (λ cell is. omega arith) cells are_cells);
      are_cells = are_cells;
      fits = fits;
      row_is = refl;
    })

-- no byte
abbrev none : Option (ℕ × List ℕ)
none = None

-- a text is read in one way
pub one_reading : (text one other : List ℕ) → ReadsAs text one → ReadsAs text other → one ≡ other
one_reading text [] [] p q = refl
one_reading text [] (b ∷ other) p (rest, is, q) = let never : none ≡ Some (b, rest) = ap notation_at (sym p) ∙ is in absurd cc
one_reading text (a ∷ one) [] (rest, is, p) q = let never : none ≡ Some (a, rest) = ap notation_at (sym q) ∙ is in absurd cc
one_reading text (a ∷ one) (b ∷ other) (rest, is, p) (rest', is', q) =
    let found : Some (a, rest) ≡ Some (b, rest') = sym is ∙ is' in
    let same : ◌≡◌ {A = ℕ × List ℕ} (a, rest) (b, rest') = cc in
    let others = one_reading rest' one other (subst (λ r. ReadsAs r one) (ap (λ x. x.1) same) p) q in
    ap (λ x. x ∷ one) (ap (λ x. x.0) same) ∙ ap (λ xs. b ∷ xs) others

-- different bytes have different notations
pub same_bytes : (one other : List ℕ) → All IsByte one → All IsByte other → notation_of one ≡ notation_of other → one ≡ other
same_bytes one other p q e = one_reading (notation_of one) one other (notation_reads one p) (rw e (notation_reads other q))

-- ---- what is written can be printed

-- the byte can be printed
abbrev Prints : ℕ → Type 0
Prints byte = is_printable byte ≡ true

-- a digit can be printed
digit_prints : (digit : ℕ) → digit < 16 → Prints (digit_char digit)
digit_prints digit small = grind (arith, nat_tests)

-- either form can be printed
written_prints : (byte : ℕ) (plain : Bool) → is_plain byte ≡ plain → IsByte byte → AllPass is_printable (written byte plain)
written_prints byte true is small = All-cons Prints byte [] (and_parts (is_printable byte) (not (byte == BACKSLASH)) is).0 (All-nil Prints)
written_prints byte false is small = grind (arith, common_steps, All-cons, All-nil, digit_prints)

-- each byte of a notation can be printed
pub notation_prints : (bytes : List ℕ) → All IsByte bytes → AllPass is_printable (notation_of bytes)
notation_prints [] small = All-nil Prints
notation_prints (byte ∷ bytes) small =
    grind (arith, nat_tests, All-append, All-head, All-tail, written_prints, notation_prints bytes (All-tail IsByte byte bytes small))
