-- What every byte keeps: the cells are a grid, and the cursor is on it.
use Rattle.std.proofs.lemmas.{Grind.common_steps, List.{length-set, Elements.{All-set, All-get_or}}, Bool.Decides.nat_tests}
use Rattle.std.proofs.lemmas.Bool.{leb-true, and_parts, cond_both}
use Rattle.std.proofs.Common.{◌≡◌, ℕ, ◌≤◌, Bool, true, false, ◌&&◌, eqb, leb, List, [], ◌∷◌, arith, rules}
use Rattle.pv_screen.proofs.Vocabulary.{IsCell, IsGrid, Display, IsDisplay, down, up, row_start, home, forward, back, clear, with_cell, after_cell, after_first, after_second, after_byte, terminal_after}
use Rattle.pv_screen.proofs.Grids.{IsGrid-blank}

-- a number that passes the test of a range is at most its end
at_most : (low high n : ℕ) → (leb low n && leb n high) ≡ true → n ≤ high
at_most low high n test = leb-true n high (and_parts (leb low n) (leb n high) test).1

-- a grid in which one place got another cell is a grid
IsGrid-with_cell : (rows : List (List ℕ)) (row column cell : ℕ) → IsGrid rows → 1 ≤ row → row ≤ 24 → IsCell cell
    → IsGrid (with_cell rows row column cell)
IsGrid-with_cell rows row column cell grid from to fits = grind (arith, common_steps, All-get_or, All-set, length-set)

-- Where the cells are a grid and the cursor is on it, each move of the cursor keeps that.
module _ (d : Display) (is : IsDisplay d) where
  -- one row down, or from the last row to the first
  IsDisplay-down : IsDisplay (down d)
  IsDisplay-down = search (rules, nat_tests)

  -- one row up, or from the first row to the last
  IsDisplay-up : IsDisplay (up d)
  IsDisplay-up = search (rules, nat_tests)

  -- to the start of the row
  IsDisplay-row_start : IsDisplay (row_start d)
  IsDisplay-row_start = search rules

  -- to the start of the first row
  IsDisplay-home : IsDisplay (home d)
  IsDisplay-home = search rules

  -- whether the terminal waits for the byte after an escape does not matter
  IsDisplay-waits : (waiting : Bool) → IsDisplay (record d { waiting = waiting })
  IsDisplay-waits waiting = record { cells = is.cells; row_from = is.row_from; row_to = is.row_to; column = is.column }

  -- one column on, or to the start of the row below
  IsDisplay-forward : IsDisplay (forward d)
  IsDisplay-forward = grind (arith, common_steps, cond_both, down, row_start)

  -- one column back, or to the end of the row above
  IsDisplay-back : IsDisplay (back d)
  IsDisplay-back = grind (arith, common_steps, cond_both, up)

  -- a cleared screen is a grid, too
  IsDisplay-clear : IsDisplay (clear d)
  IsDisplay-clear = record { cells = IsGrid-blank; row_from = search rules; row_to = search rules; column = search rules }

-- a cell that is written, and the move after it, keep the grid and the cursor on it
IsDisplay-written : (d : Display) (cell : ℕ) → IsDisplay d → IsCell cell → IsDisplay (after_cell d cell)
IsDisplay-written d cell is fits = grind (arith, common_steps, IsDisplay-forward, IsGrid-with_cell, with_cell)

-- so does every byte that does not follow an escape
pub IsDisplay-first : (d : Display) (byte : ℕ) → IsDisplay d → IsDisplay (after_first d byte)
IsDisplay-first d byte is =
    let code = λ (n : ℕ) (x y : Display) (left : IsDisplay x) (right : IsDisplay y). cond_both (eqb byte n) x y IsDisplay (λ _. left)
    (λ _. right) in
    let to_home = code 30 (home d) d (IsDisplay-home d is) is in
    let to_start = code 13 (row_start d) _ (IsDisplay-row_start d is) to_home in
    let cleared = code 12 (clear d) _ (IsDisplay-clear d is) to_start in
    let to_above = code 11 (up d) _ (IsDisplay-up d is) cleared in
    let to_below = code 10 (down d) _ (IsDisplay-down d is) to_above in
    let onward = code 9 (forward d) _ (IsDisplay-forward d is) to_below in
    let backward = code 8 (back d) _ (IsDisplay-back d is) onward in
    let escaped = code 27 (record d { waiting = true }) _ (IsDisplay-waits d is true) backward in
    cond_both (leb 32 byte && leb byte 127) (after_cell d byte) _ IsDisplay
    (λ cell. IsDisplay-written d byte is (at_most 32 127 byte cell)) (λ _. escaped)

-- and every byte that does
IsDisplay-second : (d : Display) (byte : ℕ) → IsDisplay d → IsDisplay (after_second d byte)
IsDisplay-second d byte is = grind (arith, common_steps, IsDisplay-written, at_most, cond_both)

-- so does any byte at all
IsDisplay-after_byte : (d : Display) (byte : ℕ) → IsDisplay d → IsDisplay (after_byte d byte)
IsDisplay-after_byte d byte is =
    cond_both d.waiting (after_second (record d { waiting = false }) byte) (after_first d byte) IsDisplay
    (λ _. IsDisplay-second (record d { waiting = false }) byte (IsDisplay-waits d is false)) (λ _. IsDisplay-first d byte is)

-- after any bytes at all the cells are a grid, and the cursor is on it
pub IsDisplay-terminal_after : (bytes : List ℕ) (d : Display) → IsDisplay d → IsDisplay (terminal_after d bytes)
IsDisplay-terminal_after [] d is = is
IsDisplay-terminal_after (byte ∷ bytes) d is =
    IsDisplay-terminal_after bytes (after_byte d byte) (IsDisplay-after_byte d byte is)
