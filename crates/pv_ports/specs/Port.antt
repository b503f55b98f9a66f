-- What a contract sees of a port.
use Rattle.std.specs.Prelude.{ℕ, List}
use Rattle.pv_edits.specs.declared.record.Record.{Record}
use Rattle.pv_irc.specs.declared.record.CentreRecord.{CentreRecord}
use Rattle.pv_live.specs.Pass.{Standing}

-- a caller's: its pass, and the marks of its last call
pub record PortState : Type 0 where
  pub pass : Standing CentreRecord
  pub marks : List ℕ

-- an editor's: its pass, and the marks of its last session
pub record EditorPortState : Type 0 where
  pub pass : Standing Record
  pub marks : List ℕ
