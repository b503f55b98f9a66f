-- What a contract sees of the nodes of a network, and that what they know is on their disks.
use Rattle.std.specs.Prelude.{◌≡◌, ℕ, List, map, All, Option, Some, None}
use Rattle.pv_memory.specs.Medium.{Medium, moment_of, IsImage}
use Rattle.pv_journal.specs.Text.{Spells}
use Rattle.pv_edits.specs.Record.{IsRecord, record_bytes}
use Rattle.pv_edits.specs.declared.record.Record.{Record}
use Rattle.pv_udc.specs.EditList.{EditList, with_record}
use Rattle.pv_irc.specs.History.{CentreState, centre_state_of, with_centre_record}
use Rattle.pv_irc.specs.Record.{IsCentreRecord, centre_bytes}
use Rattle.pv_irc.specs.declared.record.CentreRecord.{CentreRecord}

-- what a node knows, and its disk
pub record OnDisk (State : Type 0) : Type 0 where
  pub state : State
  pub disk : Medium

-- each image that a crash of the disk may leave spells these bodies
abbrev pub EachSpells : Medium → List (List ℕ) → Type 0
EachSpells disk bodies = (image : List ℕ) → IsImage (moment_of disk) image → Spells image bodies

-- ---- the Update Centre

-- each image of its disk spells the records of its edit list
pub record UpdateIsOnDisk (node : OnDisk EditList) : Type 0 where
  pub each : All IsRecord node.state.records
  pub images : EachSpells node.disk (map record_bytes node.state.records)

-- its list with the record that is stored, if one is
abbrev pub list_with : EditList → Option Record → EditList
list_with list None = list
list_with list (Some edit) = with_record list edit

-- ---- a retrieval centre

-- what it knows is what its records make, and each image of its disk spells them
pub record CentreIsOnDisk (node : OnDisk CentreState) : Type 0 where
  pub records : List CentreRecord
  pub state : node.state ≡ centre_state_of node.state.centre node.state.limits records
  pub each : All IsCentreRecord records
  pub images : EachSpells node.disk (map centre_bytes records)

-- its state with the record that is stored, if one is
abbrev pub centre_with : CentreState → Option CentreRecord → CentreState
centre_with state None = state
centre_with state (Some rec) = with_centre_record state rec
