-- What a contract sees of a node.
use Rattle.std.specs.Prelude.{◌≡◌, [], ◌∷◌, Option, Some, None}
use Rattle.pv_journal.specs.Log.{Log, IsAtRest, HasInHand}
use Rattle.pv_node.specs.declared.rules.Rules as rules

-- a node: its journal, the state of its records, and the record that is in hand
pub record Parts (D State Rec : Type 0) : Type 0 where
  pub journal : Log D
  pub state : State
  pub hand : Option Rec

module _ {S State Request Rec Reply : Type 0} (r : rules.Ghosts S State Request Rec Reply) where
  -- nothing is in hand and the journal is at rest; or the journal has in hand the spelling of this record, for which the state has room
  abbrev pub IsInStep : {D : Type 0} → State → Option Rec → Log D → Type 0
  IsInStep state None log = IsAtRest log
  IsInStep state (Some rec) log = HasInHand log (r.spelling rec ∷ []) × r.is_record rec × r.fits state rec

  -- the journal and the state have one limit and one count of records, and the same in hand
  pub record IsNode {D : Type 0} (node : Parts D State Rec) : Type 0 where
    pub limit : node.journal.limit ≡ (r.limits_of node.state).records
    pub hand : IsInStep node.state node.hand node.journal
    pub count : node.journal.count ≡ r.count_of node.state
