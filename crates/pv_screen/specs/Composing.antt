-- The screen of a frame: which cell stands where.
use Rattle.std.specs.Prelude.{ℕ, ◌-◌, ◌==◌, List, [], ◌∷◌, ◌++◌, length, replicate, codes, decimal, if◌then◌else◌}
use Rattle.std.specs.Simd.{first_chunks}
use Rattle.pv_fields.specs.Padded.{padded_list}
use Rattle.pv_page.specs.Names.{Name, name_text}
use Rattle.pv_frame.specs.Content.{Content}
use Rattle.pv_frame.specs.declared.layout.TheConstants.{BODY_ROWS}
use Rattle.pv_screen.specs.declared.codes.TheConstants.{SPACE}
use Rattle.pv_screen.specs.declared.composing.TheConstants.{NAME_COLUMN, PRICE_COLUMN}
use Rattle.pv_screen.specs.declared.grid.TheConstants.{COLUMNS}

-- n spaces
abbrev pub spaces : ℕ → List ℕ
spaces count = replicate count SPACE

-- a text at the left of n cells, with spaces after it
abbrev pub at_left : ℕ → List ℕ → List ℕ
at_left width text = padded_list SPACE width text

-- a text at the right of n cells, with spaces before it
abbrev pub at_right : ℕ → List ℕ → List ℕ
at_right width text = spaces (width - length text) ++ text

-- a price is shown in decimal with a p after it, and nothing is shown if there is none
abbrev pub price_text : ℕ → List ℕ
price_text price = if price == 0 then [] else decimal price ++ codes "p"

-- row 1: the title, a space, the name at the left of its cells, and the price at the right of the last ones
abbrev pub heading : Content → Name → List ℕ
heading frame name =
    frame.title
    ++ spaces 1
    ++ at_left (PRICE_COLUMN - NAME_COLUMN) (name_text name)
    ++ at_right (COLUMNS - PRICE_COLUMN) (price_text frame.price)

-- a body cut into its rows
abbrev pub body_rows : List ℕ → List (List ℕ)
body_rows body = first_chunks COLUMNS BODY_ROWS body

-- row 1 is the heading, rows 2 to 23 are the body, and row 24 is blank
abbrev pub composed_grid : Content → Name → List (List ℕ)
composed_grid frame name = heading frame name ∷ body_rows frame.body ++ spaces COLUMNS ∷ []
