-- The squares of a block by the bits of their sum.
use Rattle.std.proofs.Common.{◌≡◌, ℕ, ◌+◌, ◌/◌, ◌%◌, ◌<◌, ◌≤◌, ◌⊎◌, ◌==◌, inl, inr, Bool, IsBitSet, sym, ap, ◌∙◌, arith}
use Rattle.std.proofs.lemmas.{Grind.common_steps, Nat.Bits.and_pow, Bool.{cases_lt, Decides.nat_tests}}
use Rattle.pv_cells.specs.{Mosaic.{Block, IsMosaic, weight_of}, declared.mosaics.TheConstants.DARK}

-- a block of six squares
abbrev block : Bool → Bool → Bool → Bool → Bool → Bool → Block
block a b c d e f = record { top_left = a; top_right = b; middle_left = c; middle_right = d; bottom_left = e; bottom_right = f }

-- the block whose lit squares are the bits of a number
abbrev block_of : ℕ → Block
block_of n = block (n % 2 == 1) (n / 2 % 2 == 1) (n / 4 % 2 == 1) (n / 8 % 2 == 1) (n / 16 % 2 == 1) (n / 64 % 2 == 1)

-- a number of 0 to 31 or 64 to 95 is the sum of the block of its bits
pub is_mosaic : (n code : ℕ) → code ≡ DARK + n → n < 96 → (n < 32) ⊎ (64 ≤ n) → IsMosaic n code
is_mosaic n code is small part = (block_of n, (grind (arith, nat_tests), is))

-- a byte outside 0 to 31 and 64 to 95 has bit 5 or bit 7, which are no square's
pub further_bit : (n : ℕ) → n < 256 → 32 ≤ n → (64 ≤ n → 96 ≤ n) → IsBitSet n 5 ⊎ IsBitSet n 7
further_bit n small not_low not_high = grind (arith, common_steps, cases_lt n 128, and_pow n 5, and_pow n 7)

-- a number of 0 to 31 or 64 to 95 has neither
pub no_further_bit : (n : ℕ) → n < 96 → (n < 32) ⊎ (64 ≤ n) → IsBitSet n 5 ⊎ IsBitSet n 7 → ⊥
no_further_bit n small part (inl five) = five (omega (arith, and_pow n 5, part))
no_further_bit n small part (inr seven) = seven (omega (arith, and_pow n 7, part))

-- the block of the bits of a block's sum is the block
block_of-weight_of : (a b c d e f : Bool) → block_of (weight_of (block a b c d e f)) ≡ block a b c d e f
block_of-weight_of a b c d e f =
    let n = weight_of (block a b c d e f) in
    let top : ((n % 2 == 1) ≡ a) × ((n / 2 % 2 == 1) ≡ b) = grind (arith, nat_tests) in
    let middle : ((n / 4 % 2 == 1) ≡ c) × ((n / 8 % 2 == 1) ≡ d) = grind (arith, nat_tests) in
    let bottom : ((n / 16 % 2 == 1) ≡ e) × ((n / 64 % 2 == 1) ≡ f) = grind (arith, nat_tests) in
    grind arith

-- blocks with the same sum of weights are the same
pub same_block : (one other : Block) → weight_of one ≡ weight_of other → one ≡ other
same_block one other same =
    let back : (x : Block) → block_of (weight_of x) ≡ x = λ x.
    block_of-weight_of x.top_left x.top_right x.middle_left x.middle_right x.bottom_left x.bottom_right in
    sym (back one) ∙ ap block_of same ∙ back other

-- what the mosaic of a number follows from
pub ruleset squares = (common_steps, is_mosaic, further_bit, no_further_bit)
