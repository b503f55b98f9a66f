-- What bytes are read as: a frame, or the first error of the bytes.
use Rattle.std.specs.Prelude.{ℕ, ◌+◌, ◌*◌, Bool, not, List, [], ◌∷◌, ◌++◌, length, map, take, Option, Some, None, Result, Err, is_none, nat_lt, ◌==◌, if◌then◌else◌, position, unwrap_or, option_map}
use Rattle.pv_fields.specs.Reading.{whole}
use Rattle.pv_frame.specs.declared.kind.Kind.TheVariants.{Information}
use Rattle.pv_frame.specs.declared.frame_error.FrameError.TheVariants.{Code}
use Rattle.pv_frame.specs.declared.codec_error.FrameCodecError.{FrameCodecError}
use Rattle.pv_frame.specs.declared.codec_error.FrameCodecError.TheVariants.{Short, Version, Invalid, Trailing}
use Rattle.pv_frame.specs.declared.layout.TheConstants.{VERSION, FIELDS, KIND_AT, ROUTES_AT, ROUTE_BYTES, COUNT_AT, FIELDS_AT, FIELD_BYTES}
use Rattle.pv_frame.specs.Content.{Content}
use Rattle.pv_frame.specs.Codes.{fours, kind_of, spells_route, route_of, spells_field, field_of}
use Rattle.pv_frame.specs.Errors.{error_of}
use Rattle.pv_fields.specs.Refusals.{first_of, some_if, unless}
use Rattle.pv_frame.specs.Raw.{Raw, raw_at}

-- the frame whose parts these are
abbrev pub frame_of : Raw → Content
frame_of raw = record {
  title = raw.title;
  body = raw.body;
  kind = unwrap_or (kind_of raw.kind) Information;
  routes = map route_of (fours raw.routes);
  price = raw.price;
  group = raw.group;
  fields = map field_of (fours raw.fields);
}

-- ---- the errors of a layout, each if it applies

-- a code at a place has no meaning
abbrev pub bad_code : ℕ → FrameCodecError
bad_code at = Invalid (Code at)

-- the first group of four bytes that fails a test
abbrev pub first_bad : (List ℕ → Bool) → List ℕ → Option ℕ
first_bad test bytes = position (λ four. not (test four)) (fours bytes)

-- how many bytes the fields take
abbrev pub field_size : Raw → ℕ
field_size raw = FIELD_BYTES * raw.count

-- the kind of the frame
abbrev pub kind_error : Raw → Option FrameCodecError
kind_error raw = some_if (is_none (kind_of raw.kind)) (bad_code KIND_AT)

-- the first route that has no meaning
abbrev pub route_error : Raw → Option FrameCodecError
route_error raw = option_map (λ digit. bad_code (ROUTES_AT + ROUTE_BYTES * digit)) (first_bad spells_route raw.routes)

-- more fields than a frame may have
abbrev pub count_error : Raw → Option FrameCodecError
count_error raw = some_if (nat_lt FIELDS raw.count) (bad_code COUNT_AT)

-- fewer bytes than the fields take
abbrev pub short_error : Raw → Option FrameCodecError
short_error raw = some_if (nat_lt (length raw.fields) (field_size raw)) Short

-- the kind of the first field whose kind has no meaning
abbrev pub field_error : Raw → Option FrameCodecError
field_error raw =
    option_map (λ i. bad_code (FIELDS_AT + FIELD_BYTES * i + 3)) (first_bad spells_field (take (field_size raw) raw.fields))

-- more bytes than the fields take
abbrev pub trailing_error : Raw → Option FrameCodecError
trailing_error raw = some_if (nat_lt (field_size raw) (length raw.fields)) Trailing

-- the errors before the fields, in order
abbrev pub head_errors : Raw → List (Option FrameCodecError)
head_errors raw = kind_error raw ∷ route_error raw ∷ count_error raw ∷ []

-- the errors of the fields, in order
abbrev pub tail_errors : Raw → List (Option FrameCodecError)
tail_errors raw = short_error raw ∷ field_error raw ∷ trailing_error raw ∷ []

-- the error of the frame
abbrev pub frame_error : Raw → Option FrameCodecError
frame_error raw = option_map Invalid (error_of (frame_of raw))

-- the error of a layout: the first that applies, the last of which is that of the frame
abbrev pub raw_error : Raw → Option FrameCodecError
raw_error raw = first_of (head_errors raw ++ (tail_errors raw ++ frame_error raw ∷ []))

-- what is read from the bytes after the version, if they are not too few
abbrev pub frame_read : Option Raw → Result Content FrameCodecError
frame_read None = Err Short
frame_read (Some raw) = unless (raw_error raw) (frame_of raw)

-- what is read from bytes
abbrev pub decode_of : List ℕ → Result Content FrameCodecError
decode_of [] = Err Short
decode_of (version ∷ bytes) = if version == VERSION then frame_read (whole raw_at bytes) else Err Version
