-- Worked examples, computed from the definitions.
use Rattle.std.proofs.Common.{◌≡◌, [], ◌∷◌, refl}
use Rattle.std.specs.Prelude.{Some, None}
use Rattle.pv_index.specs.Indexes.{index_under}

-- the index of a key is that of its first pair
pub first-pair : index_under ((12, 7) ∷ (13, 8) ∷ (12, 9) ∷ []) 12 ≡ Some 7
first-pair = refl

pub another-pair : index_under ((12, 7) ∷ (13, 8) ∷ []) 13 ≡ Some 8
another-pair = refl

-- another key has none
pub no-pair : index_under ((12, 7) ∷ (13, 8) ∷ []) 14 ≡ None
no-pair = refl
