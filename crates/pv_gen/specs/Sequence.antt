-- The sequence that a number begins: a linear congruential generator, of whose states the high bits are put out.
use Rattle.std.specs.Prelude.{ℕ, zero, suc, ◌+◌, ◌*◌, ◌/◌, ◌%◌}
use Rattle.pv_gen.specs.declared.sequence.TheConstants.{MULTIPLIER, INCREMENT, MODULUS, DIVISOR}

-- the state after a state
abbrev pub next_state : ℕ → ℕ
next_state state = (MULTIPLIER * state + INCREMENT) % MODULUS

-- the state after n steps from the number
abbrev pub state_at : ℕ → ℕ → ℕ
state_at number zero = number
state_at number (suc steps) = next_state (state_at number steps)

-- the output of a state
abbrev pub output_of : ℕ → ℕ
output_of state = state / DIVISOR

-- the output after n steps
abbrev pub output_at : ℕ → ℕ → ℕ
output_at number steps = output_of (state_at number steps)
