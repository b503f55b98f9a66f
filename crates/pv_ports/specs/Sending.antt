-- What a port has made and not written yet, and what its writes do to a connection.
use Rattle.std.specs.Prelude.{◌≡◌, ℕ, List, ◌++◌, take, Option, Result, MatchResult}
use Rattle.std.specs.Io.KnownBytes.{Appends}

-- a prefix of these bytes was written, and the rest is queued
pub record IsSent (old new : Option (List ℕ)) (bytes queued : List ℕ) : Type 0 where
  pub written : List ℕ
  pub wrote : Appends old new written
  pub split : bytes ≡ written ++ queued

-- a prefix of these bytes was written, and the rest is queued; after a fault it is only a prefix that was written
abbrev pub Sends : {T E : Type 0} → Result T E → Option (List ℕ) → Option (List ℕ) → List ℕ → List ℕ → Type 0
Sends result old new bytes queued = MatchResult result (λ _. IsSent old new bytes queued) (λ _. (n : ℕ) × Appends old new (take n bytes))
