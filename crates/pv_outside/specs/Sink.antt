-- What one write does to what a sink reports.
use Rattle.std.specs.Prelude.{ℕ, List, take, Option, Result, MatchResult}
use Rattle.std.specs.Io.KnownBytes.{Appends}
use Rattle.pv_outside.specs.declared.failed.Failed.{Failed}

-- the bytes are appended; a fault appends a prefix of them, perhaps none or all
abbrev pub Writes : {T : Type 0} → Option (List ℕ) → Option (List ℕ) → Result T Failed → List ℕ → Type 0
Writes before now answer bytes = MatchResult answer (λ _. Appends before now bytes) (λ _. (n : ℕ) × Appends before now (take n bytes))
