-- The moment that a clock of the machine shows.
use Rattle.std.specs.Prelude.{ℕ, min, Option, None, Some}
use Rattle.pv_outside.specs.declared.clock.TheConstants.{CLOCK_END}

-- this many seconds after 1970 began, or the last moment of a clock; without an answer of the machine 0
abbrev pub moment_shown : Option ℕ → ℕ
moment_shown None = 0
moment_shown (Some seconds) = min seconds CLOCK_END
