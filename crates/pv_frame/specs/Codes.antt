-- What the codes in a frame's bytes mean.
use Rattle.std.specs.Prelude.{ℕ, zero, suc, ◌/◌, Bool, ◌||◌, List, [], ◌∷◌, length, Option, Some, None, is_some, nat_le, ◌==◌, if◌then◌else◌, slice_index, unwrap_or}
use Rattle.std.specs.Int.{w32, from_be_bytes, to_be_bytes}
use Rattle.std.specs.Simd.{first_chunks}
use Rattle.pv_page.specs.declared.page_no.TheConstants.{LAST_PAGE}
use Rattle.pv_frame.specs.declared.kind.Kind.{Kind}
use Rattle.pv_frame.specs.declared.kind.Kind.TheVariants.{Information, Response, Mail}
use Rattle.pv_frame.specs.declared.field.Field.{Field}
use Rattle.pv_frame.specs.declared.field.FieldKind.{FieldKind}
use Rattle.pv_frame.specs.declared.field.FieldKind.TheVariants.{Digits, Words}
use Rattle.pv_frame.specs.declared.layout.TheConstants.{NO_ROUTE}

-- bytes cut into groups of four
abbrev pub fours : List ℕ → List (List ℕ)
fours bytes = first_chunks 4 (length bytes / 4) bytes

-- the code of a kind of frame
abbrev pub kind_code : Kind → ℕ
kind_code Information = 0
kind_code Response = 1
kind_code Mail = 2

-- the kind of frame that a code names
abbrev pub kind_of : ℕ → Option Kind
kind_of zero = Some Information
kind_of (suc zero) = Some Response
kind_of (suc (suc zero)) = Some Mail
kind_of (suc (suc (suc code))) = None

-- the code of a kind of field
abbrev pub field_code : FieldKind → ℕ
field_code Digits = 0
field_code Words = 1

-- the kind of field that a code names
abbrev pub field_kind_of : ℕ → Option FieldKind
field_kind_of zero = Some Digits
field_kind_of (suc zero) = Some Words
field_kind_of (suc (suc code)) = None

-- a route is the number of a page, or all ones
abbrev pub route_bytes : Option ℕ → List ℕ
route_bytes (Some page) = to_be_bytes w32 page
route_bytes None = to_be_bytes w32 NO_ROUTE

-- a number is that of a page or of no route
abbrev pub is_route : ℕ → Bool
is_route number = nat_le number LAST_PAGE || number == NO_ROUTE

-- the page of a number, if the number is one of a page
abbrev pub page_of : ℕ → Option ℕ
page_of number = if nat_le number LAST_PAGE then Some number else None

-- four bytes are a route
abbrev pub spells_route : List ℕ → Bool
spells_route bytes = is_route (from_be_bytes w32 bytes)

-- the route that four bytes are
abbrev pub route_of : List ℕ → Option ℕ
route_of bytes = page_of (from_be_bytes w32 bytes)

-- a field is its row, its column, its length and its kind
abbrev pub field_bytes : Field → List ℕ
field_bytes field = field.row ∷ field.column ∷ field.length ∷ field_code field.kind ∷ []

-- four bytes are a field
abbrev pub spells_field : List ℕ → Bool
spells_field bytes = is_some (field_kind_of (slice_index bytes 3))

-- the field that four bytes are
abbrev pub field_of : List ℕ → Field
field_of bytes = record {
  row = slice_index bytes 0;
  column = slice_index bytes 1;
  length = slice_index bytes 2;
  kind = unwrap_or (field_kind_of (slice_index bytes 3)) Digits;
}
