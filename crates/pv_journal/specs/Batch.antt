-- Bodies that are appended at once.
use Rattle.std.specs.Prelude.{◌≡◌, ℕ, ◌+◌, ◌*◌, ◌<◌, ◌≤◌, List, [], ◌∷◌, ◌++◌, length, take, slice_index, All}
use Rattle.std.specs.List.{flat_map}
use Rattle.pv_journal.specs.Text.{IsBody, block}
use Rattle.pv_journal.specs.declared.block.TheConstants.{MAX_BLOCK, MAX_WRITE, HEAD_SIZE}

-- a batch: bytes, of which the first ones are blocks and then a closed gate; how many bytes the blocks have; and how many bodies
pub record Pack : Type 0 where
  pub bytes : List ℕ
  pub size : ℕ
  pub count : ℕ

-- the bodies have 1 to 2,048 bytes each, their blocks have at most 4,096, and a closed gate is after these
pub record IsPack (b : Pack) : Type 0 where
  pub within : b.size ≤ MAX_WRITE
  pub least : (HEAD_SIZE + 1) * b.count ≤ b.size
  pub most : b.size ≤ MAX_BLOCK * b.count
  pub ends : slice_index b.bytes b.size ≡ 0

-- the batch has these bodies
pub record HasPacked (b : Pack) (bodies : List (List ℕ)) : Type 0 where
  pub count : b.count ≡ length bodies
  pub size : b.size ≡ length (flat_map block bodies)
  pub text : take (b.size + 1) b.bytes ≡ flat_map block bodies ++ 0 ∷ []
  pub sizes : All IsBody bodies

-- with the block of this body the blocks would have over 4,096 bytes
abbrev pub HasNoRoomFor : Pack → List ℕ → Type 0
HasNoRoomFor b body = MAX_WRITE < b.size + length body + HEAD_SIZE
