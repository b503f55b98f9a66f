use Rattle.std.proofs.Common.{length, take, ◌-◌, ◌≡◌}
use Rattle.pv_fields.{specs.{Padded.IsPadded, Reading.many_at}, proofs.Readings.prepend}
use Rattle.pv_cells.specs.{Row.cell_at, declared.reading.TheConstants.BLANK}
use Rattle.pv_cells.proofs.reading.fill.Given as goal

-- the cells so far and those that are still to be read are those of the text; the rest of the row is blank
abbrev pub invariant-loop-count : goal.invariant-loop-count
invariant-loop-count l =
    let width = length l.initial.row in
    record {
      padded : IsPadded BLANK width l.count l.row;
      so_far : prepend (take l.count l.row) (many_at cell_at (width - l.count) l.rest) ≡ many_at cell_at width l.text;
    }

abbrev pub decreases-loop-count : goal.decreases-loop-count
decreases-loop-count l = length l.initial.row - l.count
