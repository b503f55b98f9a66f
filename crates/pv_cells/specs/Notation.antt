-- The notation of bytes in text: the one form that is written, and the forms that are read.
use Rattle.std.specs.Prelude.{◌≡◌, ℕ, ◌+◌, ◌*◌, ◌/◌, ◌%◌, ◌<◌, ◌==◌, Bool, not, ◌&&◌, nat_lt, if◌then◌else◌, List, [], ◌∷◌, Some, None}
use Rattle.std.specs.Char.{digit_char, digit_value}
use Rattle.std.specs.Int.{is_in_range}
use Rattle.std.specs.List.{flat_map}
use Rattle.pv_fields.specs.Reading.{Parser}
use Rattle.pv_fields.specs.Refusals.{some_if}
use Rattle.pv_cells.specs.declared.writing.TheConstants.{BACKSLASH, FIRST_PRINTABLE, LAST_PRINTABLE}

-- the number is a byte, 0 to 255
abbrev pub IsByte : ℕ → Type 0
IsByte byte = byte < 256

-- the byte can be printed: it is one of the space to the tilde
abbrev pub is_printable : ℕ → Bool
is_printable byte = is_in_range FIRST_PRINTABLE LAST_PRINTABLE byte

-- the byte is written as itself: it can be printed, and is no backslash
abbrev pub is_plain : ℕ → Bool
is_plain byte = is_printable byte && not (byte == BACKSLASH)

-- the canonical notation of a byte: itself, or a backslash and its two hexadecimal digits in lower case
abbrev pub notation_of_byte : ℕ → List ℕ
notation_of_byte byte =
    if is_plain byte then byte ∷ [] else BACKSLASH ∷ digit_char (byte / 16) ∷ digit_char (byte % 16) ∷ []

-- the canonical notation of bytes: that of each, one after the other
abbrev pub notation_of : List ℕ → List ℕ
notation_of bytes = flat_map notation_of_byte bytes

-- the byte of two hexadecimal digits of either case
abbrev pub hexadecimal_at : Parser ℕ
hexadecimal_at [] = None
hexadecimal_at (high ∷ []) = None
hexadecimal_at (high ∷ low ∷ rest) =
    some_if (nat_lt (digit_value high) 16 && nat_lt (digit_value low) 16) (16 * digit_value high + digit_value low, rest)

-- the byte that a text begins with: itself, or a backslash and its two hexadecimal digits
abbrev pub notation_at : Parser ℕ
notation_at [] = None
notation_at (first ∷ rest) = if is_plain first then Some (first, rest) else if first == BACKSLASH then hexadecimal_at rest else None

-- the text is a notation of these bytes, canonical or not
abbrev pub ReadsAs : List ℕ → List ℕ → Type 0
ReadsAs text [] = text ≡ []
ReadsAs text (byte ∷ bytes) = (rest : List ℕ) × (notation_at text ≡ Some (byte, rest)) × ReadsAs rest bytes
