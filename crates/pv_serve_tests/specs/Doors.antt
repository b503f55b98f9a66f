-- What a door of one line counts.
use Rattle.std.specs.Prelude.{ℕ, min, ◌+◌}
use Rattle.pv_outside.specs.declared.failed.TheConstants.{COUNT_END}

-- how many lines it has accepted: each was given back, or is out
abbrev pub accepted_by : ℕ → ℕ → ℕ
accepted_by given_back out = min (given_back + out) COUNT_END
