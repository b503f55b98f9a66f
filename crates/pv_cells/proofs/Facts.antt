-- Worked examples, computed from the definitions: each constant at the last value that fits, and the next.
use Rattle.std.proofs.Common.{◌≡◌, true, false, [], ◌∷◌, ◌++◌, codes, map, replicate, refl, Ok, Err, lit≤, arith}
use Rattle.std.specs.{Char.{digit_char, digit_value}, List.range_with_len}
use Rattle.pv_cells.specs.{Mosaic.{Block, IsMosaic}, Notation.{is_printable, notation_of, ReadsAs}, Row.{IsCell, row_of_text}}
use Rattle.pv_cells.specs.declared.{error.NotationError.TheVariants.{TooLong, BadEscape, BadByte}, reading.TheConstants.ROW_LENGTH}

-- ---- notation

-- hexadecimal digits are written in lower case, and read in upper case too
pub digits :
    (map digit_char (range_with_len 0 16) ≡ codes "0123456789abcdef") × (map digit_value (codes "0123456789ABCDEF") ≡ range_with_len 0 16)
digits = (refl, refl)

-- a space and a tilde can be printed, and the bytes before and after them cannot
pub printable : map is_printable (31 ∷ 32 ∷ 126 ∷ 127 ∷ []) ≡ false ∷ true ∷ true ∷ false ∷ []
printable = refl

-- attributes, the backslash and the bytes from 127 on are escaped
pub notation_of-row : notation_of (65 ∷ 3 ∷ 92 ∷ 32 ∷ 126 ∷ 127 ∷ 255 ∷ []) ≡ codes "A\\03\\5c ~\\7f\\ff"
notation_of-row = refl

-- any byte may be written as an escape, with digits of either case
pub reads-escapes : ReadsAs (codes "\\41\\fF") (65 ∷ 255 ∷ [])
reads-escapes = (codes "\\fF", refl, ([], refl, refl))

-- ---- rows

-- cells are 0 to 127
pub cells : IsCell 127 × ¬ IsCell 128
cells = (lit≤ tt, λ is. omega (arith, is))

-- forty cells are a row, and blanks fill it up; a 41st is too long, whatever it is
pub rows : (row_of_text ROW_LENGTH (replicate 40 65) ≡ Ok (replicate 40 65)) × (row_of_text 4 (codes "A\\03") ≡ Ok (65 ∷ 3 ∷ 32 ∷ 32 ∷ []))
    × (row_of_text ROW_LENGTH (replicate 41 65) ≡ Err TooLong) × (row_of_text 1 (65 ∷ 128 ∷ []) ≡ Err TooLong)
rows = (refl, refl, refl, refl)

-- a backslash before less than two digits, or before a number over 127, is a bad escape; what cannot be printed is a bad byte
pub bad-texts : (row_of_text 4 (codes "A\\8") ≡ Err (BadEscape 1)) × (row_of_text 4 (codes "\\41\\80") ≡ Err (BadEscape 3))
    × (row_of_text 4 (codes "A" ++ 31 ∷ []) ≡ Err (BadByte 1)) × (row_of_text 4 (127 ∷ []) ≡ Err (BadByte 0))
bad-texts = (refl, refl, refl, refl)

-- ---- mosaics

-- the block in which no square is lit
abbrev dark_block : Block
dark_block =
    record { top_left = false; top_right = false; middle_left = false; middle_right = false; bottom_left = false; bottom_right = false }

-- the dark mosaic is a space, and the bottom right square is the first after the capitals
pub mosaics : IsMosaic 0 0x20 × IsMosaic 64 0x60
mosaics = ((dark_block, (refl, refl)), (record dark_block { bottom_right = true }, (refl, refl)))
