-- What proofs of other crates may cite of frames.

-- a valid frame has its cells and its price in range
pub use Rattle.pv_frame.proofs.Meaning.{HasRanges-valid}
-- a frame that is blank except for a row of cells is valid
pub use Rattle.pv_frame.proofs.Rows.{IsValid-frame_of_row}
-- what is spelled is read again, and what is read is spelled so
pub use Rattle.pv_frame.proofs.RoundTrip.{decode_of-spelling, is_found}
-- two spellings that begin the same bytes are of one frame
pub use Rattle.pv_frame.proofs.OneSpelling.{ReadsBack-frame}
