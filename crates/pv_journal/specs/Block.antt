-- What stands after the bodies that were read.
use Rattle.std.specs.Prelude.{◌≡◌, ℕ, ◌+◌, ◌≤◌, List, length, take, drop}
use Rattle.pv_journal.specs.Text.{HasNoOpenGate, HasBlock, HasBrokenBlock}
use Rattle.pv_journal.specs.declared.block.Block.{Block}
use Rattle.pv_journal.specs.declared.block.Block.TheVariants.{Closed, Whole, Broken}

-- a block is there, whose body has this size
pub record HasBlockOf (n : ℕ) (bytes : List ℕ) : Type 0 where
  pub block : HasBlock bytes (take n (drop 3 bytes))
  pub size : length (take n (drop 3 bytes)) ≡ n
  pub within : n + 3 ≤ length bytes

-- the bytes begin with this
abbrev pub BeginsWith : Block → List ℕ → Type 0
BeginsWith Closed bytes = HasNoOpenGate bytes
BeginsWith (Whole size) bytes = HasBlockOf size bytes
BeginsWith Broken bytes = HasBrokenBlock bytes
