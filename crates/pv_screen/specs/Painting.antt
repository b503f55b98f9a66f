-- The bytes that show a screen, row by row.
use Rattle.std.specs.Prelude.{ℕ, ◌+◌, ◌-◌, List, [], ◌∷◌, ◌++◌, length, take, slice_index_or, Bool, nat_lt, nat_le, ◌==◌, if◌then◌else◌}
use Rattle.std.specs.List.{flat_map, suffix_len}
use Rattle.pv_screen.specs.declared.screen.Screen.{Screen}
use Rattle.pv_screen.specs.declared.screen.Screen.TheVariants.{Whole, Row}
use Rattle.pv_screen.specs.declared.grid.TheConstants.{ROWS, COLUMNS}
use Rattle.pv_screen.specs.declared.codes.TheConstants.{CLEAR, HOME, UP, RETURN, DOWN, ESCAPE, SPACE, ATTRIBUTES}

-- an attribute is an escape and its value plus 64, and any other cell is its own byte
abbrev pub cell_bytes : ℕ → List ℕ
cell_bytes cell = if nat_lt cell SPACE then ESCAPE ∷ (cell + ATTRIBUTES) ∷ [] else cell ∷ []

-- the bytes of cells, one after another
abbrev pub cells_bytes : List ℕ → List ℕ
cells_bytes cells = flat_map cell_bytes cells

-- a cell that is not an attribute
abbrev pub is_ordinary : ℕ → Bool
is_ordinary cell = nat_le SPACE cell

-- a cell is a space
abbrev pub is_space : ℕ → Bool
is_space cell = cell == SPACE

-- a row up to its last cell that is not a space
abbrev pub shown_cells : List ℕ → List ℕ
shown_cells row = take (length row - suffix_len is_space row) row

-- the bytes of a row, of which spaces at the end are not sent
abbrev pub row_bytes : List ℕ → List ℕ
row_bytes row = cells_bytes (shown_cells row)

-- a row that does not reach the last column ends with a carriage return and a line feed
abbrev pub line_end : List ℕ → List ℕ
line_end row = if nat_lt (length (shown_cells row)) COLUMNS then RETURN ∷ DOWN ∷ [] else []

-- a row with its end
abbrev pub line_bytes : List ℕ → List ℕ
line_bytes row = row_bytes row ++ line_end row

-- the screen is cleared, the rows above the last one are lines, and the last one has no end
abbrev pub painting_of : List (List ℕ) → List ℕ
painting_of grid = CLEAR ∷ flat_map line_bytes (take (ROWS - 1) grid) ++ row_bytes (slice_index_or grid (ROWS - 1) [])

-- the cursor goes home and up, which is to row 24, and all 40 cells are sent
abbrev pub message_text : List ℕ → List ℕ
message_text cells = HOME ∷ UP ∷ cells_bytes cells

-- what is sent for a screen
abbrev pub screen_bytes : Screen → List ℕ
screen_bytes (Whole grid) = painting_of grid
screen_bytes (Row cells) = message_text cells
