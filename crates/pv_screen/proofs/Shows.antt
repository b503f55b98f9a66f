-- What a terminal shows after the bytes of cells, rows and screens.
use Rattle.std.proofs.Common.{rules, ◌≡◌, ℕ, suc, ◌+◌, ◌-◌, ◌<◌, List, [], ◌∷◌, ◌++◌, length, get_or, take, drop, set, sym, ap, ◌∙◌, refl, cond, eqb, Bool, false, map, replicate, reverse, All, inl, inr, arith}
use Rattle.std.proofs.lemmas.Grind.{common_steps}
use Rattle.std.proofs.lemmas.Bool.{cases_lt, eqb-true, lt-ltb, le-ltb, le-leb, and_from, cond-true, cond-false, cond_both}
use Rattle.std.proofs.lemmas.Bool.Decides.{eqb_tells, nat_tests}
use Rattle.std.proofs.lemmas.List.{append-nil, append_assoc, length-append, take-append-drop, take_more, take_all, length-take-le, length-set, get_or-set_same, set-set, set-get_or, set_at, get_or-drop, get_or-reverse, get_or-replicate, length-drop, length-replicate, same_lists, replicate-append-replicate}
use Rattle.std.proofs.lemmas.{Simd.splat_is_map, List.Sums.{fold-append, suffix_len-le-length, prefix_len_passes}}
use Rattle.std.proofs.{lemmas.List.Elements.{All-head, All-tail, All-take, All-get_or, All-set}, Math.Nat.add-sub_cancel}
use Rattle.std.specs.{Prelude.IsFalse, List.{flat_map, suffix_len}}
use Rattle.pv_screen.proofs.Vocabulary.{IsCell, IsGrid, IsRow, cell_bytes, cells_bytes, shown_cells, row_bytes, line_end, line_bytes, painting_of, message_text, Display, IsReadyDisplay, new_display, row_below, with_cell, after_cell, after_byte, terminal_after}
use Rattle.pv_screen.proofs.{Grids.IsGrid-blank, Bytes.{line_end_short, line_end_full, length-shown-le}}

-- a display that waits for no second byte
abbrev at : List (List ℕ) → ℕ → ℕ → Display
at cells row column = record { cells = cells; row = row; column = column; waiting = false }

-- the cursor after the cells of a row: after the last one it is on the row below
abbrev behind : List (List ℕ) → ℕ → ℕ → Display
behind cells row column = cond (eqb column 40) (at cells (row_below row) 0) (at cells row column)

-- every display that does not wait is such a one
ready : (d : Display) → IsFalse d.waiting → d ≡ at d.cells d.row d.column
ready d is = ap (λ (w : Bool). let e : Display = record { cells = d.cells; row = d.row; column = d.column; waiting = w } in e) is

-- inside the row it is right after them
behind_inside : (cells : List (List ℕ)) (row column : ℕ) → column < 40 → behind cells row column ≡ at cells row column
behind_inside cells row column inside = grind (arith, common_steps, cond-false, eqb_tells, row_below)

-- after the last column it is at the start of the row below
behind_end : (cells : List (List ℕ)) (row column : ℕ) → column ≡ 40 → behind cells row column ≡ at cells (row_below row) 0
behind_end cells row column end = ap (behind cells row) end

-- a terminal that takes the bytes of a cell has written that cell
cell_shown : (cells : List (List ℕ)) (row column cell : ℕ) → IsCell cell
    → terminal_after (at cells row column) (cell_bytes cell) ≡ after_cell (at cells row column) cell
cell_shown cells row column cell fits =
    grind (arith, common_steps, add-sub_cancel, after_cell, and_from, cases_lt, cond-true, le-leb, le-ltb, lt-ltb, terminal_after)

module _ (base : List (List ℕ)) (row : ℕ) (within : row - 1 < length base) where
  -- to set a cell of a row of the screen is to put in its place the row with that cell
  with_cell_put : (cells : List ℕ) (column cell : ℕ)
      → with_cell (set base (row - 1) cells) row column cell ≡ set base (row - 1) (set cells column cell)
  with_cell_put cells column cell = grind (arith, common_steps, get_or-set_same, set-set)

  -- a cell that is written in a row is there, and the cursor after it
  written_put : (cells : List ℕ) (column cell : ℕ)
      → after_cell (at (set base (row - 1) cells) row column) cell ≡ behind (set base (row - 1) (set cells column cell)) row (column + 1)
  written_put cells column cell = grind (arith, common_steps, row_below, with_cell_put)

  -- the bytes of cells, taken where as many others stand, put them in the place of those
  cells_shown : (cells olds before after : List ℕ) → All IsCell cells → length olds ≡ length cells
      → length before + length cells + length after ≡ 40
      → terminal_after (behind (set base (row - 1) (before ++ (olds ++ after))) row (length before)) (cells_bytes cells)
      ≡ behind (set base (row - 1) (before ++ (cells ++ after))) row (length before + length cells)
  cells_shown [] [] before after fits same width = grind (arith, common_steps)
  cells_shown [] (old ∷ olds) before after fits same width = absurd (omega (arith, same))
  cells_shown (cell ∷ cells) [] before after fits same width = absurd (omega (arith, same))
  cells_shown (cell ∷ cells) (old ∷ olds) before after fits same width =
      let line = before ++ (old ∷ (olds ++ after)) in
      let next = before ++ cell ∷ [] in
      let here : length before < 40 = omega (arith, width) in
      let column : length before + 1 ≡ length next = omega (arith, length-append before (cell ∷ [])) in
      let changed : set line (length before) cell ≡ next ++ (olds ++ after) =
      set_at before old (olds ++ after) cell (length before) refl ∙ sym (append_assoc before (cell ∷ []) (olds ++ after)) in
      let more : length next + length cells ≡ length before + suc (length cells) = omega arith in
      let bytes = cells_bytes cells in
      ap (λ (d : Display). terminal_after d (cells_bytes (cell ∷ cells))) (behind_inside (set base (row - 1) line) row (length before) here)
      ∙ fold-append after_byte (at (set base (row - 1) line) row (length before)) (cell_bytes cell) bytes
      ∙ ap (λ (d : Display). terminal_after d bytes)
      (cell_shown (set base (row - 1) line) row (length before) cell (All-head IsCell cell cells fits)
      ∙ written_put line (length before) cell
      ∙ (λ i. behind (set base (row - 1) (changed i)) row (column i)))
      ∙ cells_shown cells olds next after (All-tail IsCell cell cells fits) (omega (arith, same)) (omega (arith, width, column))
      ∙ ap (λ l. behind (set base (row - 1) l) row (length next + length cells)) (append_assoc before (cell ∷ []) (cells ++ after))
      ∙ ap (behind (set base (row - 1) (before ++ (cell ∷ (cells ++ after)))) row) more

-- a row of spaces
abbrev blank_row : List ℕ
blank_row = replicate 40 32

-- whether a cell is a space
abbrev is_space : ℕ → Bool
is_space cell = eqb cell 32

-- the cells after those that are shown are spaces
spaces_after : (row : List ℕ) → drop (length row - suffix_len is_space row) row ≡ replicate (suffix_len is_space row) 32
spaces_after row =
    let count = suffix_len is_space row in
    let some = suffix_len-le-length is_space row in
    let spaces : List ℕ = replicate count 32 in
    let long : length (drop (length row - count) row) ≡ length spaces =
    omega (arith, length-drop (length row - count) row, length-replicate {A = ℕ} count 32) in
    same_lists (drop (length row - count) row) spaces long (λ k d inside.
    let space : k < count = omega (arith, length-drop (length row - count) row) in
    let back : count - 1 - k < count = omega arith in
    let place : length row - 1 - (count - 1 - k) ≡ length row - count + k = omega arith in
    get_or-drop (length row - count) row k d
    ∙ ap (λ n. get_or row n d) (sym place)
    ∙ sym (get_or-reverse row (count - 1 - k) d (omega arith))
    ∙ eqb-true (get_or (reverse row) (count - 1 - k) d) 32 (prefix_len_passes is_space (reverse row) (count - 1 - k) d back)
    ∙ sym (get_or-replicate count k 32 d space))

-- what is shown of a row, and spaces up to the last column, are the row
shown_and_spaces : (row : List ℕ) → length row ≡ 40 → shown_cells row ++ replicate (40 - length (shown_cells row)) 32 ≡ row
shown_and_spaces row width =
    let count = suffix_len is_space row in
    let some = suffix_len-le-length is_space row in
    let left : 40 - length (shown_cells row) ≡ count = omega (arith, length-take-le (length row - count) row (omega arith)) in
    ap (λ n. shown_cells row ++ replicate n 32) left
    ∙ ap (λ rest. shown_cells row ++ rest) (sym (spaces_after row))
    ∙ take-append-drop (length row - count) row

-- what is shown of a row is cells
fits_shown : (row : List ℕ) → IsRow row → All IsCell (shown_cells row)
fits_shown row is = All-take IsCell (length row - suffix_len is_space row) row is.seven_bits

module _ (base : List (List ℕ)) (row : ℕ) (within : row - 1 < length base) where
  -- the bytes of a row, taken at the start of a row of spaces, make it that row
  row_shown : (cells : List ℕ) → IsRow cells
      → terminal_after (at (set base (row - 1) blank_row) row 0) (row_bytes cells) ≡ behind (set base (row - 1) cells) row
      (0 + length (shown_cells cells))
  row_shown cells is =
      let shown = shown_cells cells in
      let few = length-shown-le cells in
      let rest : List ℕ = replicate (40 - length shown) 32 in
      let all : length shown + (40 - length shown) ≡ 40 = omega (arith, is.width) in
      let blank : blank_row ≡ replicate (length shown) 32 ++ rest =
      sym (replicate-append-replicate (length shown) (40 - length shown) 32 ∙ ap (λ n. replicate n 32) all) in
      ap (λ l. terminal_after (at (set base (row - 1) l) row 0) (row_bytes cells)) blank
      ∙ cells_shown base row within shown (replicate (length shown) 32) [] rest (fits_shown cells is) (length-replicate {A = ℕ} _ 32)
      (omega (arith, is.width, length-replicate {A = ℕ} (40 - length shown) 32))
      ∙ ap (λ l. behind (set base (row - 1) l) row (0 + length shown)) (shown_and_spaces cells is.width)

  -- so do the bytes of its line, and they leave the cursor at the start of the next row
  line_shown : (cells : List ℕ) → IsRow cells → row < 24
      → terminal_after (at (set base (row - 1) blank_row) row 0) (line_bytes cells) ≡ at (set base (row - 1) cells) (row + 1) 0
  line_shown cells is above =
      let end = line_end cells in
      let column = 0 + length (shown_cells cells) in
      let rows = set base (row - 1) cells in
      let below : row_below row ≡ row + 1 = grind (arith, nat_tests) in
      let whole =
      fold-append after_byte (at (set base (row - 1) blank_row) row 0) (row_bytes cells) end
      ∙ ap (λ (d : Display). terminal_after d end) (row_shown cells is)
      in
      elim (cases_lt (length (shown_cells cells)) 40) [
        | inl short ↦
            whole
            ∙ ap (terminal_after (behind rows row column)) (line_end_short cells short)
            ∙ ap (λ (d : Display). terminal_after d (13 ∷ 10 ∷ [])) (behind_inside rows row column (omega arith))
            ∙ ap (λ n. at rows n 0) below
        | inr full ↦
            whole
            ∙ ap (terminal_after (behind rows row column)) (line_end_full cells full)
            ∙ behind_end rows row column (omega (arith, length-shown-le cells, is.width))
            ∙ ap (λ n. at rows n 0) below
      ]

-- rows of spaces, as many as there are lines
abbrev blank_rows : List (List ℕ) → List (List ℕ)
blank_rows lines = map (λ _. blank_row) lines

-- lines, taken at the first of as many rows of spaces, stand in their place
lines_shown : (lines above rest : List (List ℕ)) → All IsRow lines → length above + length lines < 24
    → terminal_after (at (above ++ (blank_rows lines ++ rest)) (length above + 1) 0) (flat_map line_bytes lines) ≡ at
    (above ++ (lines ++ rest)) (length above + length lines + 1) 0
lines_shown [] above rest are room = grind (arith, common_steps)
lines_shown (line ∷ lines) above rest are room =
    let row = length above + 1 in
    let tail = blank_rows lines ++ rest in
    let base = above ++ blank_row ∷ tail in
    let next = above ++ line ∷ [] in
    let place : length above ≡ row - 1 = omega arith in
    let within : row - 1 < length base = omega (arith, length-append above (blank_row ∷ tail)) in
    let before : set base (row - 1) blank_row ≡ base = set_at above blank_row tail blank_row (row - 1) place in
    let after : set base (row - 1) line ≡ next ++ tail = set_at above blank_row tail line (row - 1) place
    ∙ sym (append_assoc above (line ∷ []) tail) in
    let height : length next ≡ row = omega (arith, length-append above (line ∷ [])) in
    let one = line_shown base row within line (All-head IsRow line lines are) (omega arith) in
    let others = lines_shown lines next rest (All-tail IsRow line lines are) (omega arith) in
    let down : length next + length lines + 1 ≡ length above + suc (length lines) + 1 = omega arith in
    fold-append after_byte (at base row 0) (line_bytes line) (flat_map line_bytes lines)
    ∙ ap (λ (d : Display). terminal_after d (flat_map line_bytes lines))
    (ap (λ l. terminal_after (at l row 0) (line_bytes line)) (sym before) ∙ one ∙ ap (λ l. at l (row + 1) 0) after
    ∙ ap (λ n. at (next ++ tail) (n + 1) 0) (sym height))
    ∙ others
    ∙ ap (λ l. at l (length next + length lines + 1) 0) (append_assoc above (line ∷ []) (lines ++ rest))
    ∙ ap (λ n. at (above ++ (line ∷ (lines ++ rest))) n 0) down

-- the cells are the same wherever the cursor is after a row
cells-behind : (rows : List (List ℕ)) (row column : ℕ) → (behind rows row column).cells ≡ rows
cells-behind rows row column = grind (arith, common_steps, cond_both, row_below)

-- where they are a grid, the terminal is ready for the next bytes
IsReadyDisplay-behind : (rows : List (List ℕ)) (row column : ℕ) → IsGrid rows → IsReadyDisplay (behind rows row column)
IsReadyDisplay-behind rows row column is = grind (arith, common_steps, cond_both, row_below)

-- after the bytes of a screen the terminal shows it, whatever it showed
painted_shown : (grid : List (List ℕ)) (d : Display) → IsGrid grid → IsFalse d.waiting
    → terminal_after d (painting_of grid) ≡ behind grid 24 (0 + length (shown_cells (get_or grid 23 [])))
painted_shown grid d is first =
    let above = take 23 grid in
    let last = get_or grid 23 [] in
    let base = above ++ blank_row ∷ [] in
    let column = 0 + length (shown_cells last) in
    let height : length above ≡ 23 = length-take-le 23 grid (omega (arith, is.height)) in
    let within : 24 - 1 < length base = omega (arith, length-append above (blank_row ∷ [])) in
    let whole : above ++ last ∷ [] ≡ grid = sym (take_more grid 23 [] (omega (arith, is.height)))
    ∙ take_all 24 grid (omega (arith, is.height)) in
    let blank_grid : replicate 24 blank_row ≡ blank_rows above ++ blank_row ∷ [] =
    ap (λ l. l ++ blank_row ∷ []) (splat_is_map above 23 blank_row height) in
    let bottom : 0 + length above + 1 ≡ 24 = omega arith in
    let before : set base 23 blank_row ≡ base = set_at above blank_row [] blank_row 23 height in
    let after : set base 23 last ≡ grid = set_at above blank_row [] last 23 height ∙ whole in
    ap (λ (e : Display). terminal_after e (painting_of grid)) (ready d first)
    ∙ fold-append after_byte (at (replicate 24 blank_row) 1 0) (flat_map line_bytes above) (row_bytes last)
    ∙ ap (λ rows. terminal_after (terminal_after (at rows 1 0) (flat_map line_bytes above)) (row_bytes last)) blank_grid
    ∙ ap (λ (e : Display). terminal_after e (row_bytes last))
    (lines_shown above [] (blank_row ∷ []) (All-take IsRow 23 grid is.rows) (omega arith))
    ∙ ap (λ n. terminal_after (at base n 0) (row_bytes last)) bottom
    ∙ ap (λ rows. terminal_after (at rows 24 0) (row_bytes last)) (sym before)
    ∙ row_shown base 24 within last (All-get_or IsRow grid 23 [] (omega (arith, is.height)) is.rows)
    ∙ ap (λ rows. behind rows 24 column) after

-- after a message's bytes row 24 has its cells, and the other rows are as they were
message_shown : (cells : List ℕ) (d : Display) → IsRow cells → IsGrid d.cells → IsFalse d.waiting
    → terminal_after d (message_text cells) ≡ behind (set d.cells 23 cells) 24 (0 + length cells)
message_shown cells d is grid first =
    let rows = d.cells in
    let old = get_or rows 23 [] in
    let within : 24 - 1 < length rows = omega (arith, grid.height) in
    let was : IsRow old = All-get_or IsRow rows 23 [] within grid.rows in
    let none : (l : List ℕ) → l ++ [] ≡ l = append-nil in
    ap (λ (e : Display). terminal_after e (message_text cells)) (ready d first)
    ∙ ap (λ l. terminal_after (at l 24 0) (cells_bytes cells)) (sym (set-get_or rows 23 []))
    ∙ ap (λ l. terminal_after (at (set rows 23 l) 24 0) (cells_bytes cells)) (sym (none old))
    ∙ cells_shown rows 24 within cells old [] [] is.seven_bits (was.width ∙ sym is.width) (omega (arith, is.width))
    ∙ ap (λ l. behind (set rows 23 l) 24 (0 + length cells)) (none cells)

-- a grid with another last row is a grid
IsGrid-last_row : (rows : List (List ℕ)) (cells : List ℕ) → IsGrid rows → IsRow cells → IsGrid (set rows 23 cells)
IsGrid-last_row rows cells grid is = grind (arith, common_steps, All-set, length-set)

-- what is the last row of a grid is a row
pub IsRow-last : (rows : List (List ℕ)) (cells : List ℕ) → length rows ≡ 24 → IsGrid (set rows 23 cells) → IsRow cells
IsRow-last rows cells height is = grind (arith, nat_tests, All-get_or, get_or-set_same)

-- a new terminal is ready
pub IsReadyDisplay-new : IsReadyDisplay new_display
IsReadyDisplay-new = record { cells = IsGrid-blank; first = refl }

module _ (grid : List (List ℕ)) (is : IsGrid grid) (d : Display) (first : IsFalse d.waiting) where
  -- a terminal that takes the bytes of a painted grid shows that grid
  pub painted_shows : (terminal_after d (painting_of grid)).cells ≡ grid
  painted_shows = grind (arith, common_steps, cells-behind, painted_shown, shown_cells)

  -- and is ready for the next bytes
  pub painted_ready : IsReadyDisplay (terminal_after d (painting_of grid))
  painted_ready = grind (arith, common_steps, IsReadyDisplay-behind, painted_shown, shown_cells)

module _ (cells : List ℕ) (is : IsRow cells) (d : Display) (before : IsReadyDisplay d) where
  -- a terminal that takes the bytes of a message shows it in row 24, and in the other rows what it showed
  pub message_shows : (terminal_after d (message_text cells)).cells ≡ set d.cells 23 cells
  message_shows =
      ap (λ (e : Display). e.cells) (message_shown cells d is before.cells before.first)
      ∙ cells-behind (set d.cells 23 cells) 24 (0 + length cells)

  -- and is ready for the next bytes
  pub message_ready : IsReadyDisplay (terminal_after d (message_text cells))
  message_ready = grind (arith, common_steps, IsGrid-last_row, IsReadyDisplay-behind, message_shown)

-- a message after a painted screen changes its row 24 alone
pub message_after_painted : (grid : List (List ℕ)) (cells : List ℕ) (d : Display) → IsGrid grid → IsRow cells → IsFalse d.waiting
    → (terminal_after d (painting_of grid ++ message_text cells)).cells ≡ set grid 23 cells
message_after_painted grid cells d is row first =
    search (rules, after_byte, fold-append, message_shows, message_text, painted_ready, painted_shows, painting_of, terminal_after)
