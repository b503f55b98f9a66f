-- The index of the last record under each key.
use Rattle.std.specs.Prelude.{ℕ, ◌==◌, Bool, List, [], Option, is_some}
use Rattle.std.specs.Map.{lookup}

-- how many keys there is room for, and the keys with their indexes
pub record KeyIndexes : Type 0 where
  pub room : ℕ
  pub pairs : List (ℕ × ℕ)

-- no key has an index
abbrev pub no_indexes : ℕ → KeyIndexes
no_indexes room = record { room = room; pairs = [] }

-- the index of a key
abbrev pub index_under : List (ℕ × ℕ) → ℕ → Option ℕ
index_under pairs key = lookup (λ other. key == other) pairs

-- the key has an index
abbrev pub has_key : List (ℕ × ℕ) → ℕ → Bool
has_key pairs key = is_some (index_under pairs key)
