-- The cells of letters: of the rows that are sent, and of the screen of a letter that waits.
use Rattle.std.proofs.Common.{◌≡◌, ℕ, suc, zero, ◌-◌, ◌*◌, Bool, true, decimal, List, [], ◌∷◌, ◌++◌, length, replicate, All, refl, ap, ◌∙◌, arith, lit≤, length-append}
use Rattle.std.specs.Prelude.{◌&&◌, flat_map, codes}
use Rattle.std.specs.List.{list_all}
use Rattle.std.proofs.lemmas.Bool.{and_parts, leb-true}
use Rattle.std.proofs.lemmas.Fmt.{IsAscii-decimal, length-decimal-le}
use Rattle.std.proofs.lemmas.List.{get_or_default, length-replicate}
use Rattle.std.proofs.lemmas.List.Concat.{flat_map-cons}
use Rattle.std.proofs.lemmas.List.Elements.{All-nil, All-append, All-replicate, All-head, All-tail}
use Rattle.std.proofs.lemmas.List.Folds.{list_all-append}
use Rattle.pv_cells.specs.Row.{IsCell}
use Rattle.pv_fields.proofs.CallerLemmas.{length-padded_list}
use Rattle.pv_page.specs.Names.{IsAccount, account_text}
use Rattle.pv_post.specs.Item.{is_text_cell, is_field_byte, IsFilled}
use Rattle.pv_screen.specs.Composing.{at_left, spaces}
use Rattle.pv_screen.specs.Grid.{IsRow}
use Rattle.pv_session.specs.Letters.{letter_heading, letter_body}

-- ---- the rows that are sent

-- a row has 40 cells
row_length : (text : List ℕ) → IsFilled text → length (at_left 40 text) ≡ 40
row_length text filled = length-padded_list 32 40 text filled.fits

-- so have all of them
pub rows_length : (rows : List (List ℕ)) → All IsFilled rows → length (flat_map (at_left 40) rows) ≡ 40 * length rows
rows_length [] filled = refl
rows_length (row ∷ rows) filled =
    let here = row_length row (All-head IsFilled row rows filled) in
    let rest = rows_length rows (All-tail IsFilled row rows filled) in
    let all = ap length (flat_map-cons (at_left 40) row rows) in
    omega (arith, all, length-append (at_left 40 row) (flat_map (at_left 40) rows), here, rest)

-- what a field takes may be shown
shown_of_field : (text : List ℕ) → list_all is_field_byte text ≡ true → list_all is_text_cell text ≡ true
shown_of_field [] all = refl
shown_of_field (byte ∷ text) all =
    let parts = and_parts (is_field_byte byte) (list_all is_field_byte text) all in
    let here = (and_parts (is_text_cell byte) _ parts.0).0 in
    ap (λ (b : Bool). b && list_all is_text_cell text) here ∙ shown_of_field text parts.1

-- and so may spaces
shown_spaces : (n : ℕ) → list_all is_text_cell (replicate n 32) ≡ true
shown_spaces zero = refl
shown_spaces (suc n) = shown_spaces n

shown_both : (xs ys : List ℕ) → list_all is_text_cell xs ≡ true → list_all is_text_cell ys ≡ true → list_all is_text_cell (xs ++ ys) ≡ true
shown_both xs ys one other =
    list_all-append is_text_cell xs ys ∙ ap (λ (b : Bool). b && list_all is_text_cell ys) one ∙ other

shown_left : (width : ℕ) (text : List ℕ) → list_all is_text_cell text ≡ true → list_all is_text_cell (at_left width text) ≡ true
shown_left width text shown = shown_both text (replicate (width - length text) 32) shown (shown_spaces (width - length text))

shown_rows : (rows : List (List ℕ)) → All IsFilled rows → list_all is_text_cell (flat_map (at_left 40) rows) ≡ true
shown_rows [] filled = refl
shown_rows (row ∷ rows) filled =
    let here = shown_of_field row (All-head IsFilled row rows filled).bytes in
    ap (list_all is_text_cell) (flat_map-cons (at_left 40) row rows)
    ∙ shown_both (at_left 40 row) (flat_map (at_left 40) rows) (shown_left 40 row here)
    (shown_rows rows (All-tail IsFilled row rows filled))

-- the text of a letter may be shown
pub shown_text : (rows : List (List ℕ)) → All IsFilled rows
    → list_all is_text_cell (at_left 240 (flat_map (at_left 40) rows)) ≡ true
shown_text rows filled = shown_left 240 (flat_map (at_left 40) rows) (shown_rows rows filled)

-- ---- the screen of a letter that waits

-- what may be shown is a cell
pub cells_of_text : (text : List ℕ) → list_all is_text_cell text ≡ true → All IsCell text
cells_of_text [] shown = All-nil IsCell
cells_of_text (cell ∷ text) shown =
    let parts = and_parts (is_text_cell cell) (list_all is_text_cell text) shown in
    let here : IsCell cell = omega (arith, leb-true cell 126 (and_parts _ _ parts.0).1) in
    All-append IsCell (cell ∷ []) text (All-replicate IsCell 1 cell here) (cells_of_text text parts.1)

blank_cells : (n : ℕ) → All IsCell (spaces n)
blank_cells n = All-replicate IsCell n 32 (lit≤ tt)

-- the body of a letter has cells
pub body_cells : (text : List ℕ) → list_all is_text_cell text ≡ true → All IsCell (letter_body text)
body_cells text shown =
    let after = All-append IsCell text (spaces 600) (cells_of_text text shown) (blank_cells 600) in
    All-append IsCell (spaces 40) (text ++ spaces 600) (blank_cells 40) after

-- so have the digits of an account
account_cells : (account : ℕ) → IsAccount account → All IsCell (account_text account)
account_cells account within =
    let text = decimal account in
    let digits : All IsCell text =
    λ k d inside. rw (get_or_default text k d 0 inside) (omega (arith, IsAscii-decimal account (omega arith) k)) in
    All-append IsCell (replicate (10 - length text) 48) text (All-replicate IsCell (10 - length text) 48 (lit≤ tt)) digits

account_length : (account : ℕ) → IsAccount account → length (account_text account) ≡ 10
account_length account within =
    let text = decimal account in
    omega (
      arith,
      length-append (replicate (10 - length text) 48) text,
      length-replicate {A = ℕ} (10 - length text) 48,
      length-decimal-le 10 account (omega arith) (omega arith) (omega arith),
    )

-- so the heading is a row
pub heading_is_row : (account : ℕ) → IsAccount account → IsRow (letter_heading account)
heading_is_row account within =
    let digits = account_text account in
    let len = account_length account within in
    let right = at_left 15 digits in record {
      width = omega (arith, length-append (at_left 25 (codes "MAIL")) right, length-padded_list 32 15 digits (omega (arith, len)));
      seven_bits =
          All-append IsCell (at_left 25 (codes "MAIL")) right (cells_of_text (at_left 25 (codes "MAIL")) refl)
          (All-append IsCell digits (replicate (15 - length digits) 32) (account_cells account within)
          (All-replicate IsCell (15 - length digits) 32 (lit≤ tt)));
    }
