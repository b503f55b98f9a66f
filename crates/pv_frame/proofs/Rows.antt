-- A frame that is blank except for a row is valid.
use Rattle.std.proofs.lemmas.{Grind.common_steps, List.{drop-replicate, Elements.{All-append, All-replicate}}}
use Rattle.std.{proofs.Common.{◌≡◌, ℕ, ◌-◌, true, List, ◌++◌, length, drop, replicate, All, refl, arith}, specs.List.list_all}
use Rattle.pv_frame.proofs.{Vocabulary.{IsCell, blank_frame, frame_of_row, is_cell, IsValid}, Cells.Decides-cells}

-- the row in place of the first 40 blank cells
pub row_written : (row : List ℕ) → length row ≡ 40 → record blank_frame { body = row ++ drop 40 blank_frame.body } ≡ frame_of_row row
unfolding frame_of_row
row_written row width = grind (arith, common_steps, blank_frame, drop-replicate)

pub IsValid-frame_of_row : (row : List ℕ) → All IsCell row → IsValid (frame_of_row row)
unfolding frame_of_row
IsValid-frame_of_row row are_cells =
    let blanks = All-replicate IsCell (880 - length row) 32 (omega arith) in
    let body : list_all is_cell (row ++ replicate (880 - length row) 32) ≡ true =
    (Decides-cells (row ++ replicate (880 - length row) 32)).1 (All-append IsCell row (replicate (880 - length row) 32) are_cells blanks) in
    rw body refl

-- what is known of a frame that is blank except for a row
pub ruleset rows = (row_written, IsValid-frame_of_row)
