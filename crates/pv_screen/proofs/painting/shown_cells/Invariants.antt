use Rattle.std.{proofs.Common.{◌≡◌, ◌+◌, ◌≤◌, take}, specs.List.suffix_len}
use Rattle.pv_screen.specs.Painting.{is_space}
use Rattle.pv_screen.proofs.painting.shown_cells.Given as goal

-- the cells that are passed are spaces
abbrev pub invariant-loop-count : goal.invariant-loop-count
invariant-loop-count l = record {
  within : l.count ≤ 40;
  passed : l.count + suffix_len is_space l.row ≡ 40 + suffix_len is_space (take l.count l.row);
}

abbrev pub decreases-loop-count : goal.decreases-loop-count
decreases-loop-count l = l.count

abbrev pub invariant-loop-count-2 : goal.invariant-loop-count-2
invariant-loop-count-2 l = record {
  within : l.count ≤ 40;
  passed : l.count + suffix_len is_space l.row ≡ 40 + suffix_len is_space (take l.count l.row);
}

abbrev pub decreases-loop-count-2 : goal.decreases-loop-count-2
decreases-loop-count-2 l = l.count
