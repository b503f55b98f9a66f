-- The errors of a frame, and which one is reported: the first.
use Rattle.std.specs.Prelude.{◌≡◌, ℕ, ◌+◌, ◌≤◌, ◌<◌, min, max, Bool, true, false, not, ◌&&◌, List, [], ◌∷◌, length, Option, None, nat_lt, nat_le, ◌==◌, position, option_map, All}
use Rattle.std.specs.Int.{is_in_range}
use Rattle.std.specs.List.{list_all}
use Rattle.pv_cells.specs.declared.reading.TheConstants.{LAST_CELL, ROW_LENGTH}
use Rattle.pv_cells.specs.Row.{IsCell}
use Rattle.pv_frame.specs.declared.kind.Kind.{Kind}
use Rattle.pv_frame.specs.declared.kind.Kind.TheVariants.{Information, Response, Mail}
use Rattle.pv_frame.specs.declared.field.Field.{Field}
use Rattle.pv_frame.specs.declared.field.FieldKind.{FieldKind}
use Rattle.pv_frame.specs.declared.field.FieldKind.TheVariants.{Digits, Words}
use Rattle.pv_frame.specs.declared.frame_error.FrameError.{FrameError}
use Rattle.pv_frame.specs.declared.frame_error.FrameError.TheVariants.{Cell, Price, FieldRange, FieldsMeet, Shape, Code}
use Rattle.pv_frame.specs.declared.layout.TheConstants.{LAST_PRICE, FIRST_ROW, LAST_ROW, ACCOUNT_DIGITS, MAIL_TEXTS}
use Rattle.pv_frame.specs.Content.{Content}
use Rattle.pv_fields.specs.Refusals.{first_of, some_if}

-- a byte is a cell
abbrev pub is_cell : ℕ → Bool
is_cell cell = nat_le cell LAST_CELL

-- the column after a field's last cell
abbrev pub column_after : Field → ℕ
column_after field = field.column + field.length

-- a field has 1 to 40 cells in one row of the body
abbrev pub lies_in_body : Field → Bool
lies_in_body field =
    is_in_range FIRST_ROW LAST_ROW field.row
    && is_in_range 1 ROW_LENGTH field.length
    && nat_le (column_after field) ROW_LENGTH

-- two fields are in one row, and the later begins before the earlier ends
abbrev pub meets : Field → Field → Bool
meets a b = a.row == b.row && nat_lt (max a.column b.column) (min (column_after a) (column_after b))

-- a field has the cell at a row and a column
abbrev pub HasCell : Field → ℕ → ℕ → Type 0
HasCell field row column = (row ≡ field.row) × (field.column ≤ column) × (column < column_after field)

-- some cell lies in both fields
abbrev pub ShareCell : Field → Field → Type 0
ShareCell a b = (row : ℕ) × (column : ℕ) × HasCell a row column × HasCell b row column

-- the index, counted from i, of the first field that shares a cell with a later one, and that of the first such
abbrev pub first_meeting : ℕ → List Field → Option (ℕ × ℕ)
first_meeting i [] = None
first_meeting i (field ∷ others) =
    let here = option_map (λ k. (i, i + 1 + k)) (position (meets field) others) in
    first_of (here ∷ first_meeting (i + 1) others ∷ [])

-- a kind of field takes digits
abbrev pub is_digits : FieldKind → Bool
is_digits Digits = true
is_digits Words = false

-- a field is for the number of an account
abbrev pub takes_account : Field → Bool
takes_account field = is_digits field.kind && field.length == ACCOUNT_DIGITS

-- a field is for a text
abbrev pub takes_text : Field → Bool
takes_text field = not (is_digits field.kind)

-- the fields that a kind of frame has: none; or some; or one for an account and then one to six for texts
abbrev pub has_shape : Kind → List Field → Bool
has_shape Information fields = length fields == 0
has_shape Response fields = nat_lt 0 (length fields)
has_shape Mail [] = false
has_shape Mail (account ∷ texts) =
    takes_account account && is_in_range 1 MAIL_TEXTS (length texts) && list_all takes_text texts

-- a cell is over 127
abbrev pub cell_error : List ℕ → List ℕ → Option FrameError
cell_error title body = some_if (not (list_all is_cell title && list_all is_cell body)) Cell

-- the price is over 99
abbrev pub price_error : ℕ → Option FrameError
price_error price = some_if (nat_lt LAST_PRICE price) Price

-- a field lies outside the body: the first such field
abbrev pub range_error : List Field → Option FrameError
range_error fields = option_map FieldRange (position (λ field. not (lies_in_body field)) fields)

-- two fields meet: the first such pair
abbrev pub meeting_error : List Field → Option FrameError
meeting_error fields = option_map (λ pair. FieldsMeet pair.0 pair.1) (first_meeting 0 fields)

-- the fields are not those of the kind
abbrev pub shape_error : Kind → List Field → Option FrameError
shape_error kind fields = some_if (not (has_shape kind fields)) Shape

-- the errors of the fields of a kind of frame, in order
abbrev pub field_errors : Kind → List Field → List (Option FrameError)
field_errors kind fields = range_error fields ∷ meeting_error fields ∷ shape_error kind fields ∷ []

-- the error of these parts of a frame: the first that applies
abbrev pub parts_error : List ℕ → List ℕ → ℕ → Kind → List Field → Option FrameError
parts_error title body price kind fields = first_of (cell_error title body ∷ price_error price ∷ field_errors kind fields)

-- the error of a frame
abbrev pub error_of : Content → Option FrameError
error_of frame = parts_error frame.title frame.body frame.price frame.kind frame.fields

-- a frame is valid if it has no error
abbrev pub IsValid : Content → Type 0
IsValid frame = error_of frame ≡ None

-- the cells and the price are in range
pub record HasRanges (frame : Content) : Type 0 where
  pub title : All IsCell frame.title
  pub body : All IsCell frame.body
  pub price : frame.price ≤ LAST_PRICE

-- the number of an error
abbrev pub error_number : FrameError → ℕ
error_number Cell = 1
error_number Price = 2
error_number (FieldRange i) = 3
error_number (FieldsMeet i j) = 4
error_number Shape = 5
error_number (Code at) = 6
