-- Lemmas on the bytes of cells, rows and screens, and on bytes written one after another.
use Rattle.std.proofs.Common.{◌≡◌, ℕ, ◌+◌, ◌*◌, ◌<◌, ◌≤◌, List, [], ◌∷◌, length, get_or, take, ap, cond, ltb, Bool, true, false, All, inl, inr, arith}
use Rattle.std.proofs.lemmas.{Bool.{cases_lt, lt-ltb, le-ltb}, List.{length-append, length-take, length-take-le}}
use Rattle.std.{proofs.lemmas.List.Elements.{All-head, All-tail, All-take, All-get_or}, specs.List.flat_map}
use Rattle.pv_screen.proofs.Vocabulary.{IsRow, IsGrid, cell_bytes, cells_bytes, shown_cells, row_bytes, line_end, line_bytes, painting_of}

-- a cell is sent as at most two bytes
length-cell_bytes-le : (cell : ℕ) → length (cell_bytes cell) ≤ 2
length-cell_bytes-le cell = by_test (ltb cell 32)
  where
    by_test : (b : Bool) → length (cond b (27 ∷ (cell + 64) ∷ []) (cell ∷ [])) ≤ 2
    by_test true = omega arith
    by_test false = omega arith

-- cells are sent as at most twice as many bytes
pub length-cells_bytes-le : (cells : List ℕ) → length (cells_bytes cells) ≤ 2 * length cells
length-cells_bytes-le [] = omega arith
length-cells_bytes-le (cell ∷ cells) =
    omega (arith, length-append (cell_bytes cell) (cells_bytes cells), length-cell_bytes-le cell, length-cells_bytes-le cells)

-- of a row no more cells are shown than it has
pub length-shown-le : (row : List ℕ) → length (shown_cells row) ≤ length row
length-shown-le row = simp length-take (omega arith)

-- a row that is shown short of the last column ends with a carriage return and a line feed
pub line_end_short : (row : List ℕ) → length (shown_cells row) < 40 → line_end row ≡ 13 ∷ 10 ∷ []
line_end_short row short = ap (λ test. cond test (13 ∷ 10 ∷ []) []) (lt-ltb (length (shown_cells row)) 40 short)

-- one that is shown up to the last column has no end
pub line_end_full : (row : List ℕ) → 40 ≤ length (shown_cells row) → line_end row ≡ []
line_end_full row full = ap (λ test. cond test (13 ∷ 10 ∷ []) []) (le-ltb (length (shown_cells row)) 40 full)

-- a row is sent as at most two bytes for each of its cells
pub length-row_bytes-le : (row : List ℕ) → length row ≡ 40 → length (row_bytes row) ≤ 80
length-row_bytes-le row width = omega (arith, length-cells_bytes-le (shown_cells row), length-shown-le row)

-- and so is a line: its end takes the place of the cells that are not shown
pub length-line_bytes-le : (row : List ℕ) → length row ≡ 40 → length (line_bytes row) ≤ 80
length-line_bytes-le row width =
    let parts = length-append (row_bytes row) (line_end row) in
    elim (cases_lt (length (shown_cells row)) 40) [
      | inl short ↦ omega (arith, parts, ap length (line_end_short row short), length-cells_bytes-le (shown_cells row))
      | inr full ↦ omega (arith, parts, ap length (line_end_full row full), length-row_bytes-le row width)
    ]

-- lines are sent as at most 80 bytes each
pub length-lines-le : (rows : List (List ℕ)) → All IsRow rows → length (flat_map line_bytes rows) ≤ 80 * length rows
length-lines-le [] are = omega arith
length-lines-le (row ∷ rows) are =
    omega (
      arith,
      length-append (line_bytes row) (flat_map line_bytes rows),
      length-line_bytes-le row (All-head IsRow row rows are).width,
      length-lines-le rows (All-tail IsRow row rows are),
    )

-- a screen is sent as at most 1,921 bytes
pub length-painting-le : (grid : List (List ℕ)) → IsGrid grid → length (painting_of grid) ≤ 1921
length-painting-le grid is =
    let lines = flat_map line_bytes (take 23 grid) in
    let last = get_or grid 23 [] in
    omega (
      arith,
      length-append lines (row_bytes last),
      length-lines-le (take 23 grid) (All-take IsRow 23 grid is.rows),
      length-take-le 23 grid (omega (arith, is.height)),
      length-row_bytes-le last (All-get_or IsRow grid 23 [] (omega (arith, is.height)) is.rows).width,
    )
