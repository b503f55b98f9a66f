-- The blank grid is a grid.
use Rattle.std.proofs.{Common.{refl, lit≤, replicate}, lemmas.List.Elements.All-replicate}
use Rattle.pv_screen.proofs.Vocabulary.{IsCell, IsGrid, IsRow, blank_grid}

-- forty spaces are a row
pub IsRow-blank : IsRow (replicate 40 32)
IsRow-blank = record { width = refl; seven_bits = All-replicate IsCell 40 32 (lit≤ tt) }

-- twenty-four such rows are a grid
pub IsGrid-blank : IsGrid blank_grid
IsGrid-blank = record { height = refl; rows = All-replicate IsRow 24 (replicate 40 32) IsRow-blank }
