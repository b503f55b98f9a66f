use Rattle.std.proofs.Common.{◌≡◌, ◌≤◌, length, take}
use Rattle.std.specs.Prelude.{option_map}
use Rattle.std.specs.List.{filter_map}
use Rattle.pv_network.specs.Charging.{line_in, line_at}
use Rattle.pv_network.proofs.bills.stored_lines.Given as goal

-- the lines of the items so far
abbrev pub invariant-loop-number : goal.invariant-loop-number
invariant-loop-number l = record {
  lines : l.lines ≡ filter_map (λ item. option_map (line_at l.centre) (line_in item)) (take l.number l.state.items);
  few : length l.lines ≤ l.number;
  end : l.number-end ≡ length l.state.items;
}
