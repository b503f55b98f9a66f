-- What each error says of a frame, and what a frame without error is.
use Rattle.std.specs.Prelude.{◌≡◌, ℕ, ◌<◌, ◌≤◌, ◌⊎◌, List, [], ◌∷◌, ◌++◌, length, Option, Some, None, All, Any, AllPairs, slice_index_or}
use Rattle.std.specs.Int.{IsInRange}
use Rattle.pv_cells.specs.declared.reading.TheConstants.{LAST_CELL, ROW_LENGTH}
use Rattle.pv_frame.specs.declared.kind.Kind.{Kind}
use Rattle.pv_frame.specs.declared.kind.Kind.TheVariants.{Information, Response, Mail}
use Rattle.pv_frame.specs.declared.field.Field.{Field}
use Rattle.pv_frame.specs.declared.field.FieldKind.TheVariants.{Digits, Words}
use Rattle.pv_frame.specs.declared.frame_error.FrameError.{FrameError}
use Rattle.pv_frame.specs.declared.frame_error.FrameError.TheVariants.{Cell, Price, FieldRange, FieldsMeet, Shape, Code}
use Rattle.pv_frame.specs.declared.layout.TheConstants.{LAST_PRICE, FIRST_ROW, LAST_ROW, ACCOUNT_DIGITS, MAIL_TEXTS}
use Rattle.pv_frame.specs.Content.{Content}
use Rattle.pv_frame.specs.Errors.{column_after, ShareCell, HasRanges}
use Rattle.pv_frame.specs.Memory.{no_field}

-- a field has 1 to 40 cells in one row of the body
abbrev pub LiesInBody : Field → Type 0
LiesInBody field =
    (IsInRange FIRST_ROW LAST_ROW field.row × IsInRange 1 ROW_LENGTH field.length) × (column_after field ≤ ROW_LENGTH)

-- the fields that a kind of frame has: none; or some; or one for the ten digits of an account and then one to six for words
abbrev pub HasShape : Kind → List Field → Type 0
HasShape Information fields = length fields ≡ 0
HasShape Response fields = 0 < length fields
HasShape Mail [] = ⊥
HasShape Mail (account ∷ texts) =
    (((account.kind ≡ Digits) × (account.length ≡ ACCOUNT_DIGITS)) × IsInRange 1 MAIL_TEXTS (length texts))
    × All (λ text. text.kind ≡ Words) texts

-- the fields lie in the body, share no cell, and are those of the frame's kind
pub record IsWellFormed (frame : Content) : Type 0 where
  pub ranges : HasRanges frame
  pub inside : All LiesInBody frame.fields
  pub apart : AllPairs (λ a b. ¬ ShareCell a b) frame.fields
  pub shape : HasShape frame.kind frame.fields

-- the field at an index
abbrev pub field_at : List Field → ℕ → Field
field_at fields i = slice_index_or fields i no_field

-- the field at i is the first that does not lie in the body
abbrev pub IsFirstOutside : List Field → ℕ → Type 0
IsFirstOutside fields i =
    (i < length fields) × (¬ LiesInBody (field_at fields i)) × ((k : ℕ) → k < i → LiesInBody (field_at fields k))

-- the pair at p and q comes before that at i and j
abbrev pub IsBefore : ℕ → ℕ → ℕ → ℕ → Type 0
IsBefore p q i j = (p < i) ⊎ ((p ≡ i) × (q < j))

-- the fields at i and j share a cell, and no pair before them does
abbrev pub IsFirstMeeting : List Field → ℕ → ℕ → Type 0
IsFirstMeeting fields i j =
    (i < j)
    × (j < length fields)
    × ShareCell (field_at fields i) (field_at fields j)
    × ((p q : ℕ) → p < q → q < length fields → IsBefore p q i j → ¬ ShareCell (field_at fields p) (field_at fields q))

-- what the error of a frame says, or that there is none
abbrev pub HasCause : Content → Option FrameError → Type 0
HasCause frame None = IsWellFormed frame
HasCause frame (Some Cell) = Any (λ cell. LAST_CELL < cell) (frame.title ++ frame.body)
HasCause frame (Some Price) = LAST_PRICE < frame.price
HasCause frame (Some (FieldRange i)) = HasRanges frame × IsFirstOutside frame.fields i
HasCause frame (Some (FieldsMeet i j)) = HasRanges frame × All LiesInBody frame.fields × IsFirstMeeting frame.fields i j
HasCause frame (Some Shape) =
    HasRanges frame
    × All LiesInBody frame.fields
    × AllPairs (λ a b. ¬ ShareCell a b) frame.fields
    × ¬ HasShape frame.kind frame.fields
HasCause frame (Some (Code at)) = ⊥
