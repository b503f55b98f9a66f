-- Each image that a crash of a node's disk may leave spells its records.
use Rattle.std.proofs.Common.{◌≡◌, ℕ, List, map, refl, ap, sym, subst, ◌∙◌}
use Rattle.std.specs.Prelude.{All}
use Rattle.pv_memory.specs.Medium.{Medium}
use Rattle.pv_node.specs.Parts.{Parts}
use Rattle.pv_node.specs.Standing.{StandsEither}
use Rattle.pv_node.specs.declared.rules.Rules as rules
use Rattle.pv_nodes.specs.Nodes.{IsMemNode}
use Rattle.pv_edits.specs.Record.{IsRecord, record_bytes}
use Rattle.pv_edits.specs.declared.record.Record.{Record}
use Rattle.pv_udc.specs.EditList.{EditList}
use Rattle.pv_irc.specs.History.{CentreState, centre_state_of}
use Rattle.pv_irc.specs.Record.{IsCentreRecord, centre_bytes}
use Rattle.pv_irc.specs.declared.record.CentreRecord.{CentreRecord}
use Rattle.pv_nodes.specs.AnyNode.{on_disk}
use Rattle.pv_nodes.specs.OnDisk.{EachSpells, UpdateIsOnDisk, CentreIsOnDisk}

module _ {S State Request Rec Reply : Type 0} where
  -- a node's records, for which its state stands and which its disk spells
  pub record HasSpelled (r : rules.Ghosts S State Request Rec Reply) (node : Parts Medium State Rec) : Type 0 where
    pub records : List Rec
    pub stands : r.stands node.state records
    pub each : All r.is_record records
    pub images : EachSpells node.journal.disk (map r.spelling records)

  -- a node has them
  pub spelled : (r : rules.Ghosts S State Request Rec Reply) (node : Parts Medium State Rec) → IsMemNode r node → HasSpelled r node
  spelled r node is = record {
    records = is.stands.0;
    stands = is.stands.1.state;
    each = is.stands.1.each;
    images = λ image left. (subst (λ hand. StandsEither r is.stands.0 hand image) is.hand (is.stands.1.images refl image left)).text;
  }

-- so the Update Centre's list is on its disk
pub update_on_disk : (node : Parts Medium EditList Record) (records : List Record) → node.state.records ≡ records → All IsRecord records
    → EachSpells node.journal.disk (map record_bytes records) → UpdateIsOnDisk (on_disk node)
update_on_disk node records is each images = record {
  each = subst (All IsRecord) (sym is) each;
  images = subst (λ (l : List Record). EachSpells node.journal.disk (map record_bytes l)) (sym is) images;
}

-- and what a centre knows is on its own
pub centre_on_disk : (number : ℕ) (node : Parts Medium CentreState CentreRecord) (records : List CentreRecord)
    → node.state ≡ centre_state_of number node.state.limits records → All IsCentreRecord records
    → EachSpells node.journal.disk (map centre_bytes records) → CentreIsOnDisk (on_disk node)
centre_on_disk number node records is each images = record {
  records = records;
  state = is ∙ ap (λ n. centre_state_of n node.state.limits records) (sym (ap (λ (state : CentreState). state.centre) is));
  each = each;
  images = images;
}
