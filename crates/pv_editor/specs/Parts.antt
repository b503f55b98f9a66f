-- The parts of an editor's lines, and what each of them stands for.
use Rattle.std.specs.Prelude.{◌≡◌, ℕ, ◌^◌, Bool, true, not, ◌&&◌, ◌||◌, ◌==◌, ◌⊎◌, ◌≢◌, List, [], ◌∷◌, length, codes, decimal, Option, Some, None, if◌then◌else◌}
use Rattle.std.specs.Int.{is_in_range}
use Rattle.std.specs.List.{list_all}
use Rattle.pv_words.specs.Numbers.{IsBelow}
use Rattle.pv_words.specs.Parts.{AreThree}
use Rattle.pv_words.specs.Split.{word_gap, IsSplit}
use Rattle.pv_page.specs.Names.{Name, IsName, IsPage, IsAccount, name_text, account_text}
use Rattle.pv_cells.specs.Row.{SpellsCells}
use Rattle.pv_cells.specs.declared.reading.TheConstants.{ROW_LENGTH}
use Rattle.pv_frame.specs.declared.kind.Kind.{Kind}
use Rattle.pv_frame.specs.declared.kind.Kind.TheVariants as kinds
use Rattle.pv_frame.specs.declared.field.Field.{Field}
use Rattle.pv_frame.specs.declared.field.FieldKind.{FieldKind}
use Rattle.pv_frame.specs.declared.field.FieldKind.TheVariants as field_kinds
use Rattle.pv_account.specs.declared.password.TheConstants.{PASSWORD_BYTES}
use Rattle.pv_editor.specs.Rows.{IsBodyRow}
use Rattle.pv_editor.specs.Words.{are_same}

-- ---- parts that are one word

-- the text is an account's number, in ten digits
abbrev pub IsAccountText : ℕ → List ℕ → Type 0
IsAccountText account text = IsAccount account × (text ≡ account_text account)

-- the text is a frame's name
abbrev pub IsNameText : Name → List ℕ → Type 0
IsNameText name text = IsName name × (text ≡ name_text name)

-- the text is a page's number
abbrev pub IsPageText : ℕ → List ℕ → Type 0
IsPageText page text = IsPage page × (text ≡ decimal page)

-- the text is the number of a row of the body
abbrev pub IsRowNumber : ℕ → List ℕ → Type 0
IsRowNumber row text = IsBodyRow row × (text ≡ decimal row)

-- a password may have the byte: it can be printed, and is no space and none of the keys * and # or its other code _
abbrev pub is_password_byte : ℕ → Bool
is_password_byte byte = is_in_range 33 126 byte && not (byte == 42 || byte == 35 || byte == 95)

-- the text is a password, as it stands
pub record IsPasswordText (password text : List ℕ) : Type 0 where
  pub same : text ≡ password
  pub size : length password ≡ PASSWORD_BYTES
  pub bytes : list_all is_password_byte password ≡ true

-- the kind of frame that a letter stands for
abbrev pub kind_of_text : List ℕ → Option Kind
kind_of_text text =
    if are_same text (codes "I") then Some kinds.Information else
    if are_same text (codes "R") then Some kinds.Response else
    if are_same text (codes "M") then Some kinds.Mail else
    None

-- the text is the letter of a kind of frame
abbrev pub IsKindText : Kind → List ℕ → Type 0
IsKindText kind text = kind_of_text text ≡ Some kind

-- the kind of field that a letter stands for
abbrev pub field_kind_of_text : List ℕ → Option FieldKind
field_kind_of_text text =
    if are_same text (codes "D") then Some field_kinds.Digits else
    if are_same text (codes "T") then Some field_kinds.Words else
    None

-- the text is the letter of a kind of field
abbrev pub IsFieldKindText : FieldKind → List ℕ → Type 0
IsFieldKindText kind text = field_kind_of_text text ≡ Some kind

-- a dash, which stands for none
abbrev pub dash : List ℕ
dash = codes "-"

-- a dash is none, and another text is such a part
abbrev pub IsDashOr : {A : Type 0} → (A → List ℕ → Type 0) → Option A → List ℕ → Type 0
IsDashOr Is None text = text ≡ dash
IsDashOr Is (Some a) text = (text ≢ dash) × Is a text

-- the text is a dash for none, or another text that is such a part
pub record IsOrDash {A : Type 0} (Is : A → List ℕ → Type 0) (value : Option A) (text : List ℕ) : Type 0 where
  pub is : IsDashOr Is value text

-- ---- cells

-- the tail is the notation of cells that fit into the width, after its space; without one, the cells are blank
pub record AreCells (width : ℕ) (tail cells : List ℕ) : Type 0 where
  pub text : List ℕ
  pub after : ((tail ≡ []) × (text ≡ [])) ⊎ (tail ≡ word_gap ∷ text)
  pub spells : SpellsCells width text cells

-- ---- parts of several words

-- the text is a word, and a tail that is such others
pub record IsWordAnd {A B : Type 0} (IsFirst : A → List ℕ → Type 0) (Are : List ℕ → B → Type 0)
    (parts : A × B) (text : List ℕ) : Type 0 where
  pub word : List ℕ
  pub later : List ℕ
  pub split : IsSplit text word later
  pub first : IsFirst parts.0 word
  pub others : Are later parts.1

-- the text is the number of a row, and its cells
abbrev pub IsRowCells : ℕ × List ℕ → List ℕ → Type 0
IsRowCells = IsWordAnd IsRowNumber (AreCells ROW_LENGTH)

-- the text is a field: its row, its column, its length and the letter of its kind
abbrev pub IsFieldText : Field → List ℕ → Type 0
IsFieldText field =
    IsWordAnd (IsBelow (2 ^ 8)) (AreThree (IsBelow (2 ^ 8)) (IsBelow (2 ^ 8)) IsFieldKindText)
    (field.row, (field.column, field.length, field.kind))
