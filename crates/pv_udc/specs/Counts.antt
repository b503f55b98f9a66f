-- Counting on.
use Rattle.std.specs.Prelude.{ℕ, ◌+◌, Bool, if◌then◌else◌}

-- one more if the test holds
abbrev pub counted_on : Bool → ℕ → ℕ
counted_on test count = if test then count + 1 else count
