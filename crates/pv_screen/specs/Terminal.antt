-- A viewdata terminal: what it holds, and what each byte does to it. It knows nothing of painting.
use Rattle.std.specs.Prelude.{ℕ, ◌+◌, ◌-◌, ◌≤◌, ◌<◌, Bool, true, false, IsFalse, ◌&&◌, List, [], fold, slice_set, slice_index_or, nat_le, ◌==◌, if◌then◌else◌}
use Rattle.pv_screen.specs.Grid.{IsGrid, blank_grid}
use Rattle.pv_screen.specs.declared.grid.TheConstants.{ROWS, COLUMNS}
use Rattle.pv_screen.specs.declared.codes.TheConstants.{BACK, FORWARD, DOWN, UP, CLEAR, RETURN, ESCAPE, HOME, SPACE, LAST_CELL, ATTRIBUTES, LAST_ATTRIBUTE}

-- the rows of cells, the cursor's row from 1 and column from 0, and whether an escape was the last byte
pub record Display : Type 0 where
  pub cells : List (List ℕ)
  pub row : ℕ
  pub column : ℕ
  pub waiting : Bool

-- the cells are a grid, and the cursor is on it
pub record IsDisplay (display : Display) : Type 0 where
  pub cells : IsGrid display.cells
  pub row_from : 1 ≤ display.row
  pub row_to : display.row ≤ ROWS
  pub column : display.column < COLUMNS

-- the cells are a grid, and the next byte does not follow an escape
pub record IsReadyDisplay (display : Display) : Type 0 where
  pub cells : IsGrid display.cells
  pub first : IsFalse display.waiting

-- the terminal as it is switched on
abbrev pub new_display : Display
new_display = record { cells = blank_grid; row = 1; column = 0; waiting = false }

-- the row below the last is the first
abbrev pub row_below : ℕ → ℕ
row_below row = if row == ROWS then 1 else row + 1

-- the row above the first is the last
abbrev pub row_above : ℕ → ℕ
row_above row = if row == 1 then ROWS else row - 1

-- the cursor one row down
abbrev pub down : Display → Display
down display = record display { row = row_below display.row }

-- the cursor one row up
abbrev pub up : Display → Display
up display = record display { row = row_above display.row }

-- the cursor at the start of its row
abbrev pub row_start : Display → Display
row_start display = record display { column = 0 }

-- the cursor at the start of the first row
abbrev pub home : Display → Display
home display = record display { row = 1; column = 0 }

-- the cursor one column on: after the last column comes the first of the row below
abbrev pub forward : Display → Display
forward display =
    if display.column == COLUMNS - 1 then row_start (down display) else record display { column = display.column + 1 }

-- the cursor one column back: before the first column is the last of the row above
abbrev pub back : Display → Display
back display =
    if display.column == 0 then record (up display) { column = COLUMNS - 1 } else record display { column = display.column - 1 }

-- every cell a space, and the cursor home
abbrev pub clear : Display → Display
clear display = home (record display { cells = blank_grid })

-- rows with another cell at one place
abbrev pub with_cell : List (List ℕ) → ℕ → ℕ → ℕ → List (List ℕ)
with_cell rows row column cell =
    slice_set rows (row - 1) (slice_set (slice_index_or rows (row - 1) []) column cell)

-- the cell at the cursor is written, and the cursor goes forward
abbrev pub after_cell : Display → ℕ → Display
after_cell display cell =
    forward (record display { cells = with_cell display.cells display.row display.column cell })

-- what a byte does that does not follow an escape
abbrev pub after_first : Display → ℕ → Display
after_first display byte =
    if nat_le SPACE byte && nat_le byte LAST_CELL then after_cell display byte
    else (if byte == ESCAPE then record display { waiting = true }
    else (if byte == BACK then back display
    else (if byte == FORWARD then forward display
    else (if byte == DOWN then down display
    else (if byte == UP then up display
    else (if byte == CLEAR then clear display
    else (if byte == RETURN then row_start display
    else (if byte == HOME then home display
    else display))))))))

-- what a byte does after an escape: 0x40 to 0x5F writes an attribute, and any other does nothing
abbrev pub after_second : Display → ℕ → Display
after_second display byte =
    if nat_le ATTRIBUTES byte && nat_le byte LAST_ATTRIBUTE then after_cell display (byte - ATTRIBUTES) else display

-- what a byte does; the byte after an escape is not read in any other way
abbrev pub after_byte : Display → ℕ → Display
after_byte display byte =
    if display.waiting then after_second (record display { waiting = false }) byte else after_first display byte

-- the terminal after these bytes, one after another
abbrev pub terminal_after : Display → List ℕ → Display
terminal_after display bytes = fold after_byte display bytes
