-- What nodes have become that were brought what they lacked, and which of them are full.
use Rattle.std.specs.Prelude.{◌≡◌, ◌⊎◌, ℕ, ◌+◌, ◌==◌, ◌≤◌, Bool, true, false, if◌then◌else◌, IfSome, IsTrue, List, [], ◌∷◌, ◌++◌, length, Option, None, Some}
use Rattle.pv_outside.specs.declared.limits.Limits.{Limits}
use Rattle.pv_outside.specs.declared.reports.Reports as reports
use Rattle.pv_post.specs.declared.item.Item.{Item}
use Rattle.pv_edits.specs.Edits.{taken_of}
use Rattle.pv_edits.specs.declared.record.Record.{Record}
use Rattle.pv_node.specs.declared.rules.Rules as rules
use Rattle.pv_node.specs.Parts.{Parts}
use Rattle.pv_node.specs.Standing.{StandsFor}
use Rattle.pv_live.specs.Run.{IsMade}
use Rattle.pv_udc.specs.EditList.{EditList}
use Rattle.pv_irc.specs.Deciding.{centre_has_room}
use Rattle.pv_irc.specs.History.{CentreState}
use Rattle.pv_irc.specs.declared.record.CentreRecord.{CentreRecord}
use Rattle.pv_closing.specs.Lacking.{lacked_records}

-- the node stands for what it stood for, perhaps with more records after it, and has its limits
module _ {S State Request Rec Reply D : Type 0} (r : rules.Ghosts S State Request Rec Reply) (g : reports.Ghosts D) where
  pub record AddsRecords (old new : Parts D State Rec) : Type 0 where
    pub stands : (records : List Rec) → StandsFor r g old records → (more : List Rec) × StandsFor r g new (records ++ more)
    pub limits : r.limits_of new.state ≡ r.limits_of old.state

-- ---- a run goes on

module _ {S State Request Rec Reply : Type 0} (r : rules.Ghosts S State Request Rec Reply) (limits : Limits) where
  -- those records are a run after these: each is one that some request stores after all before it
  abbrev pub IsRunAfter : List Rec → List Rec → Type 0
  IsRunAfter records more = (before after : List Rec) (rec : Rec) → more ≡ before ++ rec ∷ after → IsMade r limits (records ++ before) rec

-- The node stands for these records, and for more that are a run after them. So is a record in hand, after all of those.
module _ {S State Request Rec Reply D : Type 0} (r : rules.Ghosts S State Request Rec Reply) (g : reports.Ghosts D) where
  pub record StandsOn (limits : Limits) (records : List Rec) (node : Parts D State Rec) : Type 0 where
    pub more : List Rec
    pub stands : StandsFor r g node (records ++ more)
    pub goes_on : IsRunAfter r limits records more
    pub hand : IfSome node.hand (IsMade r limits (records ++ more))

  -- whatever the node stood for, it stands for that and a run after it, if a record in hand was one
  abbrev pub AddsRun : Parts D State Rec → Parts D State Rec → Type 0
  AddsRun old new = (records : List Rec) → StandsFor r g old records → IfSome old.hand (IsMade r (r.limits_of old.state) records)
      → StandsOn (r.limits_of old.state) records new

-- ---- what is carried

-- The Update Centre has taken up all of these items of a centre; or it is full, and that is noted.
abbrev pub TakesItems : {D : Type 0} → Bool → ℕ → List Item → Parts D EditList Record → Type 0
TakesItems noted centre items update = (length items ≤ taken_of update.state.records centre)
    ⊎ ((noted ≡ true) × (update.journal.count ≡ update.state.limits.records))

-- what a centre lacks of the edit list begins with a record that has no room there
pub record NextHasNoRoom (edits : List Record) (state : CentreState) : Type 0 where
  pub next : CentreRecord
  pub later : List CentreRecord
  pub lacked : lacked_records edits state ≡ next ∷ later
  pub no_room : IsTrue (centre_has_room state next) → ⊥

-- A centre has applied the whole edit list; or it is full or has no room for the record that comes next, and that is noted.
abbrev pub AppliesList : {D : Type 0} → Bool → List Record → Parts D CentreState CentreRecord → Type 0
AppliesList noted edits centre = (length edits ≤ centre.state.applied)
    ⊎ ((noted ≡ true) × ((centre.journal.count ≡ centre.state.limits.records) ⊎ NextHasNoRoom edits centre.state))

-- whatever records the centre stood for, it has applied the edit list
module _ {S Request Reply D : Type 0} (r : rules.Ghosts S CentreState Request CentreRecord Reply) (g : reports.Ghosts D) where
  abbrev pub AppliesFrom : Bool → List Record → Parts D CentreState CentreRecord → Parts D CentreState CentreRecord → Type 0
  AppliesFrom noted edits old new = (records : List CentreRecord) → StandsFor r g old records → AppliesList noted edits new

-- Whatever records the Update Centre and a centre stood for, the one has taken up the centre's items, and the other has applied the edit
-- list that there is then.
module _ {T S UdcRequest UdcReply Request Reply D : Type 0} (u : rules.Ghosts T EditList UdcRequest Record UdcReply)
    (r : rules.Ghosts S CentreState Request CentreRecord Reply) (g : reports.Ghosts D) where
  abbrev pub AreCarried : Bool → ℕ → Parts D EditList Record → Parts D EditList Record → Parts D CentreState CentreRecord
      → Parts D CentreState CentreRecord → Type 0
  AreCarried noted centre update_old update_new old new = (edits : List Record) → StandsFor u g update_old edits
      → (records : List CentreRecord) → StandsFor r g old records
      → TakesItems noted centre old.state.items update_new × AppliesList noted update_new.state.records new

-- ---- full nodes

-- whether there is a count, and it is this
abbrev pub is_count : ℕ → Option ℕ → Bool
is_count limit None = false
is_count limit (Some count) = count == limit

-- of these counts, numbered from here, the first that is this
abbrev pub first_full : ℕ → ℕ → List (Option ℕ) → Option ℕ
first_full limit at [] = None
first_full limit at (count ∷ later) = if is_count limit count then Some at else first_full limit (at + 1) later
