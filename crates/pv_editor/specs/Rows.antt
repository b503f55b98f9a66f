-- The rows of a frame's body.
use Rattle.std.specs.Prelude.{ℕ}
use Rattle.std.specs.Int.{IsInRange}
use Rattle.pv_frame.specs.declared.layout.TheConstants.{FIRST_ROW, LAST_ROW}

-- n is the number of a row of the body, counted from 1 at the top of the screen
abbrev pub IsBodyRow : ℕ → Type 0
IsBodyRow n = IsInRange FIRST_ROW LAST_ROW n
