-- What one read does to what a source reports.
use Rattle.std.specs.Prelude.{◌≡◌, ℕ, Bool, ◌||◌, ◌&&◌, ◌==◌, nat_lt, List, take, Option, Result, MatchResult}
use Rattle.std.specs.Io.KnownBytes.{Appends, Consumes, Keeps}
use Rattle.pv_outside.specs.declared.failed.Failed.{Failed}

-- a read that has room and returns 0 has reached the end, and it stays reached
abbrev pub MarksEnd : Bool → Bool → Result ℕ Failed → ℕ → Type 0
MarksEnd before now answer room = MatchResult answer (λ n. now ≡ (before || (n == 0 && nat_lt 0 room))) (λ _. now ≡ before)

-- the bytes that were given join those read so far; a fault reads nothing
abbrev pub Takes : Option (List ℕ) → Option (List ℕ) → Result ℕ Failed → List ℕ → Type 0
Takes before now answer into = MatchResult answer (λ n. Appends before now (take n into)) (λ _. Keeps before now)

-- the bytes that were given are gone from those that are left; a fault leaves all
abbrev pub Leaves : Option (List ℕ) → Option (List ℕ) → Result ℕ Failed → List ℕ → Type 0
Leaves before now answer into = MatchResult answer (λ n. Consumes before now (take n into)) (λ _. Keeps before now)
