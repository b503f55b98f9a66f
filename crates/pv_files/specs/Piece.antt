-- A piece of a file.
use Rattle.std.specs.Prelude.{ℕ, ◌+◌, Bool, ◌&&◌, nat_le, List, length}

-- the place where it begins, and its bytes
pub record Piece : Type 0 where
  pub at : ℕ
  pub bytes : List ℕ

-- it has the n bytes from this place on
abbrev pub has_range : Piece → ℕ → ℕ → Bool
has_range p at n = nat_le p.at at && nat_le (at + n) (p.at + length p.bytes)
