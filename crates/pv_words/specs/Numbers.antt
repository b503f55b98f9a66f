-- Numbers as a line writes them: in decimal, without a sign or a leading zero.
use Rattle.std.specs.Prelude.{◌≡◌, ℕ, ◌^◌, ◌<◌, List, decimal}

-- the text is a number of 64 bits
abbrev pub IsNumber : ℕ → List ℕ → Type 0
IsNumber number text = (number < 2 ^ 64) × (text ≡ decimal number)

-- the text is a number below the end
abbrev pub IsBelow : ℕ → ℕ → List ℕ → Type 0
IsBelow end number text = (number < end) × (text ≡ decimal number)
