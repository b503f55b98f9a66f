-- An item that was taken up from a centre, its spelling in bytes, and what is read as one.
use Rattle.std.specs.Prelude.{ℕ, ◌<◌, ◌≤◌, ◌^◌, List, [], ◌∷◌, ◌++◌}
use Rattle.std.specs.Int.{w64, to_be_bytes}
use Rattle.pv_fields.specs.Reading.{Parser, byte_at, number_at, within, ◌⊗◌, map_at}
use Rattle.pv_account.specs.declared.account.TheConstants.{LAST_CENTRE}
use Rattle.pv_post.specs.declared.item.Item.{Item}
use Rattle.pv_post.specs.Spelling.{IsItem, item_bytes, item_at}

-- n is the number of a centre
abbrev pub IsCentre : ℕ → Type 0
IsCentre n = n ≤ LAST_CENTRE

-- what was taken up: the centre, how many of its items came before, and the item
pub record TakenUp : Type 0 where
  pub centre : ℕ
  pub k : ℕ
  pub item : Item

-- each part is within its range
pub record IsTakenUp (taken : TakenUp) : Type 0 where
  pub centre : IsCentre taken.centre
  pub k : taken.k < 2 ^ 64
  pub item : IsItem taken.item

-- its spelling: part by part
unfoldable pub taken_bytes : TakenUp → List ℕ
taken_bytes taken = (taken.centre ∷ []) ++ to_be_bytes w64 taken.k ++ item_bytes taken.item

-- what was taken up, at the beginning of bytes
unfoldable pub taken_at : Parser TakenUp
taken_at =
    map_at (λ x. record { centre = x.0; k = x.1.0; item = x.1.1 }) (within 0 LAST_CENTRE byte_at ⊗ number_at w64 ⊗ item_at)
