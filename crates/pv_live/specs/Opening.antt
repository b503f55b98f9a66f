-- What a run is named by, and how many passes it may have.
use Rattle.std.specs.Prelude.{ℕ, ◌<◌, ◌≤◌}
use Rattle.pv_history.specs.History.{HistoryBook}
use Rattle.pv_live.specs.declared.live.TheConstants.{MAX_PASSES}

-- the book of its history, its two ledgers, and how many passes these are for
pub record RunName : Type 0 where
  pub book : HistoryBook
  pub told : ℕ
  pub failed : ℕ
  pub passes : ℕ

-- a node may be opened with this many passes
abbrev pub IsPassCount : ℕ → Type 0
IsPassCount count = (0 < count) × (count ≤ MAX_PASSES)
