-- The definitions that the proofs of this crate speak of, under one name.
pub use Rattle.pv_cells.specs.Row.{IsCell}
pub use Rattle.pv_cells.specs.declared.reading.TheConstants.{LAST_CELL}
pub use Rattle.pv_fields.specs.Out.{Appends}
pub use Rattle.pv_fields.specs.Padded.{IsPadded, padded_list}
pub use Rattle.pv_fields.specs.Reading.{Reads, ReadsLast, run_at, whole, IsBytes, ReadsBack}
pub use Rattle.pv_fields.specs.Refusals.{first_of, some_if}
pub use Rattle.pv_frame.specs.Codes.{route_bytes, field_bytes, kind_code, kind_of, route_of, spells_route, field_of, spells_field, fours}
pub use Rattle.pv_frame.specs.Codes.{is_route, page_of, field_code, field_kind_of}
pub use Rattle.pv_frame.specs.Content.{Content, IsFrame, blank_frame, with_row}
unfoldable pub use Rattle.pv_frame.specs.Content.{frame_of_row}
unfoldable pub use Rattle.pv_frame.specs.Raw.{raw_at}
pub use Rattle.pv_frame.specs.Errors.{is_cell, column_after, lies_in_body, meets, ShareCell, first_meeting, is_digits, takes_text, has_shape}
pub use Rattle.pv_frame.specs.Errors.{price_error, meeting_error, shape_error, field_errors, error_of, IsValid, HasRanges}
pub use Rattle.pv_frame.specs.Meaning.{LiesInBody, HasShape, IsWellFormed, field_at, IsBefore, IsFirstMeeting, HasCause}
pub use Rattle.pv_frame.specs.Memory.{no_field}
pub use Rattle.pv_frame.specs.Raw.{IsRaw, raw_bytes, all_at, Raw}
pub use Rattle.pv_frame.specs.Reading.{frame_of, field_size, first_bad, head_errors, tail_errors, kind_error, route_error, count_error}
pub use Rattle.pv_frame.specs.Reading.{short_error, field_error, trailing_error, frame_error, raw_error, frame_read, decode_of}
pub use Rattle.pv_frame.specs.Spelling.{spelling_of, raw_of, HasSpelling}
pub use Rattle.pv_frame.specs.declared.codec_error.FrameCodecError.{FrameCodecError}
pub use Rattle.pv_frame.specs.declared.codec_error.FrameCodecError.TheVariants.{Short, Version, Invalid, Trailing}
pub use Rattle.pv_frame.specs.declared.field.Field.{Field}
pub use Rattle.pv_frame.specs.declared.field.FieldKind.{FieldKind}
pub use Rattle.pv_frame.specs.declared.field.FieldKind.TheVariants.{Digits, Words}
pub use Rattle.pv_frame.specs.declared.frame_error.FrameError.{FrameError}
pub use Rattle.pv_frame.specs.declared.frame_error.FrameError.TheVariants.{Cell, Price, FieldRange, FieldsMeet, Shape, Code}
pub use Rattle.pv_frame.specs.declared.kind.Kind.{Kind}
pub use Rattle.pv_frame.specs.declared.kind.Kind.TheVariants.{Information, Response, Mail}
pub use Rattle.pv_frame.specs.declared.layout.TheConstants.{LAST_PRICE, ACCOUNT_DIGITS, MAIL_TEXTS, FIELDS_AT, FIELD_BYTES, TITLE_CELLS}
pub use Rattle.pv_frame.specs.declared.layout.TheConstants.{BODY_CELLS, ROUTES, ROUTES_SIZE, FIELDS, VERSION}
pub use Rattle.pv_page.specs.Names.{IsPage}
