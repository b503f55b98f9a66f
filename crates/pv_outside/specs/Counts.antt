-- The counts that an object of the outside keeps: they never fall, and at the end of 64 bits they no longer rise.
use Rattle.std.specs.Prelude.{ℕ, ◌+◌, ◌≤◌, min, Result, Ok, Err, IsErr}
use Rattle.pv_outside.specs.declared.failed.TheConstants.{COUNT_END}

-- the count rose, or had come to its end before
abbrev pub Rose : ℕ → ℕ → Type 0
Rose before now = min (before + 1) COUNT_END ≤ now

-- one more, up to the end of the count
abbrev pub one_more : ℕ → ℕ
one_more n = min (n + 1) COUNT_END

-- a count of the calls that succeed, after one more call
abbrev pub successes_after : {T E : Type 0} → Result T E → ℕ → ℕ
successes_after (Ok value) n = one_more n
successes_after (Err failure) n = n

-- The account of a call: the count of faults never falls, and the call fails only if it rose.
pub record CountsFaults {T E : Type 0} (before now : ℕ) (result : Result T E) : Type 0 where
  pub counted : before ≤ now
  pub failed : IsErr result → Rose before now
