-- Rows of stands, each served by a thread of its own.
use Rattle.std.specs.Prelude.{◌≡◌, ℕ, ◌<◌, List, length, slice_index_or}

-- there are as many after it, and each became what its own work may make of it
pub record EachBecomes {T : Type 0} (Becomes : T → T → Type 0) (old new : List T) : Type 0 where
  pub count : length new ≡ length old
  pub each : (k : ℕ) (stand : T) → k < length old → Becomes (slice_index_or old k stand) (slice_index_or new k stand)
