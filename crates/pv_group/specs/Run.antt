-- What a run is named by whose records are stored in groups.
use Rattle.std.specs.Prelude.{ℕ}
use Rattle.pv_history.specs.History.{HistoryBook}

-- the book of its history, its ledgers of what asks reported as stored and of those that failed, how many passes these are for, and the
-- ledger of what was taken to be stored
pub record GroupName : Type 0 where
  pub book : HistoryBook
  pub told : ℕ
  pub failed : ℕ
  pub passes : ℕ
  pub taken : ℕ
