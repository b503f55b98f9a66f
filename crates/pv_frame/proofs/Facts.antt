-- Frames and bytes worked out by hand, computed from the definitions. A constant is pinned by the last value that fits and the next.
use Rattle.std.proofs.Common.{◌≡◌, ℕ, true, false, [], ◌∷◌, ◌++◌, length, take, replicate, Some, None, Err, refl}
use Rattle.std.specs.Prelude.{slice_index}
use Rattle.pv_frame.proofs.Vocabulary.{Short, Version, Trailing, Invalid, Field, FieldKind, Digits, Words, Cell, Price, Code, Information, Response, Mail, blank_frame, with_row, is_route, page_of, route_bytes, field_bytes, is_cell, lies_in_body, meets, first_meeting, has_shape, error_of, raw_at, kind_error, route_error, count_error, field_error, decode_of, raw_of, spelling_of}

-- a blank frame is valid; the last cell is 127, and a frame may cost 99 pence
pub valid-frames : (error_of blank_frame ≡ None)
    × (is_cell 127 ≡ true) × (error_of (record blank_frame { title = 128 ∷ replicate 23 32 }) ≡ Some Cell)
    × (error_of (record blank_frame { price = 99 }) ≡ None) × (error_of (record blank_frame { price = 100 }) ≡ Some Price)
valid-frames = (refl, refl, refl, refl, refl)

-- row 2 is the first of the body, and row 23 the last
pub written-rows : (with_row 2 (replicate 40 65) (replicate 880 32) ≡ replicate 40 65 ++ replicate 840 32)
    × (with_row 23 (replicate 40 65) (replicate 880 32) ≡ replicate 840 32 ++ replicate 40 65)
written-rows = (refl, refl)

-- a field by its row, its first column and its length
abbrev field : FieldKind → ℕ → ℕ → ℕ → Field
field kind row column size = record { row = row; column = column; length = size; kind = kind }

-- a field may lie in rows 2 to 23, has at least one cell, and may end with the last column
pub lying-fields : (lies_in_body (field Words 2 0 40) ≡ true) × (lies_in_body (field Words 1 0 40) ≡ false)
    × (lies_in_body (field Words 23 0 40) ≡ true) × (lies_in_body (field Words 24 0 40) ≡ false)
    × (lies_in_body (field Words 5 31 1) ≡ true) × (lies_in_body (field Words 5 31 0) ≡ false)
    × (lies_in_body (field Words 5 30 10) ≡ true) × (lies_in_body (field Words 5 31 10) ≡ false)
lying-fields = (refl, refl, refl, refl, refl, refl, refl, refl)

-- a field meets one within it, and none that it touches or that is in another row
pub meeting-fields : (meets (field Words 5 0 40) (field Digits 5 39 1) ≡ true)
    × (meets (field Words 5 0 10) (field Words 5 10 10) ≡ false) × (meets (field Words 5 0 40) (field Words 6 0 40) ≡ false)
meeting-fields = (refl, refl, refl)

-- of three fields in a row the first and the last meet before the second and the last
pub first-pair : first_meeting 0 (field Words 5 0 10 ∷ field Words 5 10 10 ∷ field Words 5 9 2 ∷ []) ≡ Some (0, 2)
first-pair = refl

-- mail has one to six texts after an account of ten digits; a response has a field, and information has none
pub shapes : (has_shape Mail (field Digits 3 0 10 ∷ replicate 6 (field Words 5 0 40)) ≡ true)
    × (has_shape Mail (field Digits 3 0 10 ∷ replicate 7 (field Words 5 0 40)) ≡ false)
    × (has_shape Mail (field Digits 3 0 10 ∷ []) ≡ false)
    × (has_shape Mail (field Digits 3 0 9 ∷ field Words 5 0 40 ∷ []) ≡ false)
    × (has_shape Response [] ≡ false) × (has_shape Information (field Words 5 0 40 ∷ []) ≡ false)
shapes = (refl, refl, refl, refl, refl, refl)

-- a route is four bytes, the highest first; the last page is one, and all ones lead to no page
pub routes : (route_bytes (Some 12) ≡ 0 ∷ 0 ∷ 0 ∷ 12 ∷ []) × (route_bytes None ≡ 255 ∷ 255 ∷ 255 ∷ 255 ∷ [])
    × (is_route 999999999 ≡ true) × (is_route 1000000000 ≡ false)
    × (is_route 0xffffffff ≡ true) × (page_of 0xffffffff ≡ None)
routes = (refl, refl, refl, refl, refl, refl)

-- a field is four bytes, and a blank frame 950, the first of which is the version
pub sizes : (field_bytes (field Words 5 2 38) ≡ 5 ∷ 2 ∷ 38 ∷ 1 ∷ [])
    × (length (spelling_of blank_frame) ≡ 950) × (take 1 (spelling_of blank_frame) ≡ 1 ∷ [])
sizes = (refl, refl, refl)

-- the kind is byte 905, the routes begin at byte 906, the price is byte 946, the number of fields byte 949, the first field's kind byte 953
pub places : (slice_index (spelling_of (record blank_frame { kind = Mail })) 905 ≡ 2)
    × (slice_index (spelling_of (record blank_frame { routes = Some 12 ∷ replicate 9 None })) 909 ≡ 12)
    × (slice_index (spelling_of (record blank_frame { price = 99 })) 946 ≡ 99)
    × (slice_index (spelling_of (record blank_frame { fields = replicate 8 (field Words 5 0 40) })) 949 ≡ 8)
    × (slice_index (spelling_of (record blank_frame { fields = field Words 5 0 40 ∷ [] })) 953 ≡ 1)
places = (refl, refl, refl, refl, refl)

-- a code without a meaning is reported at its first byte, and a frame may have eight fields
pub code-errors : (kind_error (record (raw_of blank_frame) { kind = 3 }) ≡ Some (Invalid (Code 905)))
    × (route_error (record (raw_of blank_frame) { routes = 254 ∷ replicate 39 255 }) ≡ Some (Invalid (Code 906)))
    × (count_error (record (raw_of blank_frame) { count = 8 }) ≡ None)
    × (count_error (record (raw_of blank_frame) { count = 9 }) ≡ Some (Invalid (Code 949)))
    × (field_error (record (raw_of blank_frame) { count = 1; fields = 5 ∷ 0 ∷ 40 ∷ 2 ∷ [] }) ≡ Some (Invalid (Code 953)))
code-errors = (refl, refl, refl, refl, refl)

-- another version is reported before what is missing; 949 bytes are too short, and 951 too many
pub sizes-read : (decode_of [] ≡ Err Short) × (decode_of (2 ∷ []) ≡ Err Version)
    × (decode_of (take 949 (spelling_of blank_frame)) ≡ Err Short)
    × (decode_of (spelling_of blank_frame ++ 0 ∷ []) ≡ Err Trailing)
unfolding raw_at
sizes-read = (refl, refl, refl, refl)
