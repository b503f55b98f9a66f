-- Rows of cells, and the texts that they are read from.
use Rattle.std.specs.Prelude.{◌≡◌, ℕ, ◌-◌, ◌≤◌, ◌==◌, Bool, List, [], ◌∷◌, length, Option, Some, Result}
use Rattle.std.specs.List.{All}
use Rattle.pv_fields.specs.Padded.{padded_list}
use Rattle.pv_fields.specs.Reading.{Parser, at_most, many_at}
use Rattle.pv_fields.specs.Refusals.{first_of, some_if, unless}
use Rattle.pv_cells.specs.Notation.{notation_at, ReadsAs}
use Rattle.pv_cells.specs.declared.error.NotationError.{NotationError}
use Rattle.pv_cells.specs.declared.error.NotationError.TheVariants.{TooLong, BadEscape, BadByte}
use Rattle.pv_cells.specs.declared.writing.TheConstants.{BACKSLASH}
use Rattle.pv_cells.specs.declared.reading.TheConstants.{BLANK, LAST_CELL}

-- a cell: 0 to 31 are attributes, the others characters and mosaics
abbrev pub IsCell : ℕ → Type 0
IsCell cell = cell ≤ LAST_CELL

-- the cell that a text begins with
abbrev pub cell_at : Parser ℕ
cell_at = at_most LAST_CELL notation_at

-- the errors of a text of which a rest at some place was not read, in the order of their refusal
abbrev pub row_errors : Bool → ℕ → List ℕ → List (Option NotationError)
row_errors is_full at [] = []
row_errors is_full at (first ∷ rest) =
    some_if is_full TooLong ∷ some_if (first == BACKSLASH) (BadEscape at) ∷ Some (BadByte at) ∷ []

-- the row of a text: its cells and then blanks up to the width, or its first error
abbrev pub row_of_text : ℕ → List ℕ → Result (List ℕ) NotationError
row_of_text width text =
    let found = many_at cell_at width text in
    let errors = row_errors (length found.0 == width) (length text - length found.1) found.1 in
    unless (first_of errors) (padded_list BLANK width found.0)

-- the text is a notation of cells that fit into the width, and the row is these cells and then blanks
pub record SpellsCells (width : ℕ) (text row : List ℕ) : Type 0 where
  pub cells : List ℕ
  pub reads : ReadsAs text cells
  pub are_cells : All IsCell cells
  pub fits : length cells ≤ width
  pub row_is : row ≡ padded_list BLANK width cells
