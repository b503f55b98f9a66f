-- What screens do to what a terminal shows.
use Rattle.std.specs.Prelude.{ℕ, ◌-◌, List, All, slice_set}
use Rattle.pv_cells.specs.Row.{IsCell}
use Rattle.pv_screen.specs.Grid.{IsGrid, IsRow}
use Rattle.pv_screen.specs.declared.screen.Screen.{Screen}
use Rattle.pv_screen.specs.declared.screen.Screen.TheVariants.{Whole, Row}
use Rattle.pv_screen.specs.declared.grid.TheConstants.{ROWS}

-- a whole screen takes the place of what was shown, and a row takes the place of row 24 alone
abbrev pub shown_after : List (List ℕ) → Screen → List (List ℕ)
shown_after before (Whole grid) = grid
shown_after before (Row cells) = slice_set before (ROWS - 1) cells

-- the cells of a row that is sent alone are 0 to 127
abbrev pub HasCells : Screen → Type 0
HasCells (Whole grid) = Unit {0}
HasCells (Row cells) = All IsCell cells

-- a whole screen is a grid, and a row is one of its rows
abbrev pub IsShowable : Screen → Type 0
IsShowable (Whole grid) = IsGrid grid
IsShowable (Row cells) = IsRow cells
