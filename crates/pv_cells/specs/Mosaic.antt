-- Mosaics: which squares of a block are lit, the sum of their weights, and the code.
use Rattle.std.specs.Prelude.{◌≡◌, ℕ, ◌+◌, Bool, if◌then◌else◌}
use Rattle.pv_cells.specs.declared.mosaics.TheConstants.{TOP_LEFT, TOP_RIGHT, MIDDLE_LEFT, MIDDLE_RIGHT, BOTTOM_LEFT, BOTTOM_RIGHT, DARK}

-- which of the six squares are lit
pub record Block : Type 0 where
  pub top_left : Bool
  pub top_right : Bool
  pub middle_left : Bool
  pub middle_right : Bool
  pub bottom_left : Bool
  pub bottom_right : Bool

-- a square's part in the sum: its weight if it is lit
abbrev pub part_of : Bool → ℕ → ℕ
part_of is_lit weight = if is_lit then weight else 0

-- the sum of the weights of the lit squares
abbrev pub weight_of : Block → ℕ
weight_of block =
    part_of block.top_left TOP_LEFT + part_of block.top_right TOP_RIGHT
    + part_of block.middle_left MIDDLE_LEFT + part_of block.middle_right MIDDLE_RIGHT
    + part_of block.bottom_left BOTTOM_LEFT + part_of block.bottom_right BOTTOM_RIGHT

-- some block has this sum of weights, and its code is that sum added to the code of the dark mosaic
abbrev pub IsMosaic : ℕ → ℕ → Type 0
IsMosaic weights code = (block : Block) × ((weights ≡ weight_of block) × (code ≡ DARK + weights))
