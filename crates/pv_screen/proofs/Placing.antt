-- Lemmas on rows that are put together from texts and spaces, and on bodies cut into rows.
use Rattle.std.proofs.Common.{◌≡◌, ℕ, zero, suc, ◌+◌, ◌*◌, ◌-◌, ◌<◌, ◌≤◌, Bool, true, false, cond, eqb, ne_eqb, inl, inr, lit≤, lit<, decimal, List, [], ◌∷◌, ◌++◌, length, take, drop, All, refl, sym, ap, subst, ◌∙◌, append_assoc, arith}
use Rattle.std.proofs.Math.Seq.{take-append_seam}
use Rattle.std.proofs.lemmas.List.{nil_from_length, get_or_default, take_at, drop_at, length-append, length-drop, length-take-le, take-append-drop, length-replicate}
use Rattle.std.proofs.lemmas.List.Elements.{All-nil, All-cons, All-take, All-drop, All-append, All-replicate}
use Rattle.std.{proofs.lemmas.Fmt.{length-decimal-le, IsAscii-decimal}, specs.{List.concat, Simd.first_chunks}}
use Rattle.pv_screen.proofs.Vocabulary.{Name, IsName, name_text, IsCell, Content, IsFrame, HasRanges, spaces, at_left, at_right, price_text, heading, body_rows, composed_grid, IsRow, IsGrid}
use Rattle.pv_screen.proofs.Grids.{IsRow-blank}
use Rattle.pv_page.proofs.CallerLemmas.{length-name_text, bytes_of_name}

-- ---- bodies

-- cells cut into n rows are n rows
pub length-first_chunks : (width count : ℕ) (cells : List ℕ) → length (first_chunks width count cells) ≡ count
length-first_chunks width zero cells = refl
length-first_chunks width (suc count) cells = ap suc (length-first_chunks width count (drop width cells))

-- if the cells just fill the rows, the rows one after the other are the cells
concat-first_chunks : (width count : ℕ) (cells : List ℕ) → length cells ≡ count * width → concat (first_chunks width count cells) ≡ cells
concat-first_chunks width zero cells all = sym (nil_from_length cells (omega arith))
concat-first_chunks width (suc count) cells all =
    ap (λ l. take width cells ++ l) (concat-first_chunks width count (drop width cells) (omega (arith, length-drop width cells)))
    ∙ take-append-drop width cells

-- cells of 0 to 127 are cut into rows of the screen
pub rows-first_chunks : (count : ℕ) (cells : List ℕ) → count * 40 ≤ length cells → All IsCell cells
    → All IsRow (first_chunks 40 count cells)
rows-first_chunks zero cells all fits = All-nil IsRow
rows-first_chunks (suc count) cells all fits =
    All-cons IsRow (take 40 cells) (first_chunks 40 count (drop 40 cells))
    (record { width = length-take-le 40 cells (omega arith); seven_bits = All-take IsCell 40 cells fits })
    (rows-first_chunks count (drop 40 cells) (omega (arith, length-drop 40 cells)) (All-drop IsCell 40 cells fits))

-- ---- row 1

-- a price that is shown is its digits and a p
pub price_text_of : (price : ℕ) → 0 < price → price_text price ≡ decimal price ++ 112 ∷ []
price_text_of price some = ap (λ test. cond test [] (decimal price ++ 112 ∷ [])) (ne_eqb price 0 (omega arith))

-- a price of at most 99p takes at most three cells
pub length-price_text : (price : ℕ) → price ≤ 99 → length (price_text price) ≤ 3
length-price_text price few = by_cost (eqb price 0)
  where
    by_cost : (free : Bool) → length (cond free [] (decimal price ++ 112 ∷ [])) ≤ 3
    by_cost true = omega arith
    by_cost false = omega (arith, length-append (decimal price) (112 ∷ []), length-decimal-le 2 price (lit< tt) (omega arith) (omega arith))

-- its text is cells
fits_price : (price : ℕ) → price ≤ 99 → All IsCell (price_text price)
fits_price price few = by_cost (eqb price 0)
  where
    fits_digits : All IsCell (decimal price)
    fits_digits k d within = rw (get_or_default (decimal price) k d 0 within) (omega (arith, IsAscii-decimal price (omega arith) k))

    by_cost : (free : Bool) → All IsCell (cond free [] (decimal price ++ 112 ∷ []))
    by_cost true = All-nil IsCell
    by_cost false = All-append IsCell (decimal price) (112 ∷ []) fits_digits (All-cons IsCell 112 [] (lit≤ tt) (All-nil IsCell))

-- a frame's name is cells
fits_name : (name : Name) → IsName name → All IsCell (name_text name)
fits_name name is k d within = elim (bytes_of_name name is k d within) [ inl digit ↦ omega arith | inr letter ↦ omega arith ]

-- spaces are cells
fits_spaces : (count : ℕ) → All IsCell (spaces count)
fits_spaces count = All-replicate IsCell count 32 (lit≤ tt)

-- the heading of a frame within its ranges is a row of the screen
pub heading_is_row : (frame : Content) (name : Name) → HasRanges frame → IsFrame frame → IsName name → IsRow (heading frame name)
heading_is_row frame name ranges holds is =
    let price = price_text frame.price in
    let text = name_text name in
    let name-fits : length (decimal name.page) + 1 ≤ 10 =
    omega (arith, length-name_text name is, length-append (decimal name.page) (name.letter ∷ [])) in
    record {
      width = simp (length-append, length-replicate) (omega (arith, holds.title, name-fits, length-price_text frame.price ranges.price));
      seven_bits =
          All-append IsCell (frame.title ++ spaces 1 ++ at_left 11 text) (at_right 4 price)
          (All-append IsCell (frame.title ++ spaces 1) (at_left 11 text)
          (All-append IsCell frame.title (spaces 1) ranges.title (fits_spaces 1))
          (All-append IsCell text (spaces (11 - length text)) (fits_name name is) (fits_spaces (11 - length text))))
          (All-append IsCell (spaces (4 - length price)) price (fits_spaces (4 - length price)) (fits_price frame.price ranges.price));
    }

-- ---- where each cell stands

module _ (frame : Content) (name : Name) (ranges : HasRanges frame) (holds : IsFrame frame) (row : IsRow (heading frame name)) where
  -- the heading begins with the title
  pub title_stands : take 24 (heading frame name) ≡ frame.title
  title_stands =
      let text = name_text name in
      let price = price_text frame.price in
      let parts : heading frame name ≡ frame.title ++ (spaces 1 ++ (at_left 11 text ++ at_right 4 price)) =
      append_assoc (frame.title ++ spaces 1) (at_left 11 text) (at_right 4 price)
      ∙ append_assoc frame.title (spaces 1) (at_left 11 text ++ at_right 4 price) in
      ap (λ l. take 24 l) parts ∙ take_at frame.title (spaces 1 ++ (at_left 11 text ++ at_right 4 price)) 24 holds.title

  -- it has the name from column 25 on
  pub name_stands : take (length (name_text name)) (drop 25 (heading frame name)) ≡ name_text name
  name_stands =
      let text = name_text name in
      let price = price_text frame.price in
      let behind = spaces (11 - length text) ++ at_right 4 price in
      let parts : heading frame name ≡ frame.title ++ spaces 1 ++ (text ++ behind) =
      append_assoc (frame.title ++ spaces 1) (at_left 11 text) (at_right 4 price)
      ∙ ap (λ l. frame.title ++ spaces 1 ++ l) (append_assoc text (spaces (11 - length text)) (at_right 4 price)) in
      let far : length (frame.title ++ spaces 1) ≡ 25 = omega (arith, length-append frame.title (spaces 1), holds.title) in
      ap (λ l. take (length text) (drop 25 l)) parts
      ∙ ap (λ l. take (length text) l) (drop_at (frame.title ++ spaces 1) (text ++ behind) 25 far)
      ∙ take-append_seam text behind

  -- it ends with the price
  pub price_stands : drop (40 - length (price_text frame.price)) (heading frame name) ≡ price_text frame.price
  price_stands =
      let price = price_text frame.price in
      let front = frame.title ++ spaces 1 ++ at_left 11 (name_text name) in
      let before = front ++ spaces (4 - length price) in
      let parts : heading frame name ≡ before ++ price = sym (append_assoc front (spaces (4 - length price)) price) in
      let far : length before ≡ 40 - length price = omega (arith, row.width, ap length parts, length-append before price) in
      ap (λ l. drop (40 - length price) l) parts ∙ drop_at before price (40 - length price) far

  -- the rows between the first and the last are the body
  pub body_stands : concat (take 22 (drop 1 (composed_grid frame name))) ≡ frame.body
  body_stands =
      ap concat (take_at (body_rows frame.body) (spaces 40 ∷ []) 22 (length-first_chunks 40 22 frame.body))
      ∙ concat-first_chunks 40 22 frame.body holds.body

-- a heading, the rows of a body and a blank row are a grid
pub IsGrid-parts : (heading body : List ℕ) (rows : List (List ℕ)) → IsRow heading → length body ≡ 880 → All IsCell body
    → rows ≡ body_rows body → IsGrid (heading ∷ (rows ++ spaces 40 ∷ []))
IsGrid-parts heading body rows row size cells are =
    subst (λ rows. IsGrid (heading ∷ (rows ++ spaces 40 ∷ []))) (sym are)
    (record {
      height = refl;
      rows =
          All-cons IsRow heading (body_rows body ++ spaces 40 ∷ []) row
          (All-append IsRow (body_rows body) (spaces 40 ∷ []) (rows-first_chunks 22 body (omega (arith, size)) cells)
          (All-cons IsRow (spaces 40) [] IsRow-blank (All-nil IsRow)));
    })
