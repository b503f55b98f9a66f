-- What the rows of a screen are.
use Rattle.std.specs.Prelude.{◌≡◌, ℕ, List, length, replicate, All}
use Rattle.pv_cells.specs.Row.{IsCell}
use Rattle.pv_screen.specs.declared.grid.TheConstants.{ROWS, COLUMNS}
use Rattle.pv_screen.specs.declared.codes.TheConstants.{SPACE}

-- a row is 40 cells of 0 to 127
pub record IsRow (cells : List ℕ) : Type 0 where
  pub width : length cells ≡ COLUMNS
  pub seven_bits : All IsCell cells

-- a grid is 24 such rows
pub record IsGrid (grid : List (List ℕ)) : Type 0 where
  pub height : length grid ≡ ROWS
  pub rows : All IsRow grid

-- the grid of which every cell is a space
abbrev pub blank_grid : List (List ℕ)
blank_grid = replicate ROWS (replicate COLUMNS SPACE)
