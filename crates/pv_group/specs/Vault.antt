-- What a contract sees of the vault, which stores what was decided.
use Rattle.std.specs.Prelude.{◌≡◌, ◌⊎◌, ℕ, ◌+◌, ◌<◌, ◌≤◌, List, ◌++◌, length, map}
use Rattle.pv_outside.specs.declared.limits.Limits.{Limits}
use Rattle.pv_outside.specs.declared.reports.Reports as reports
use Rattle.pv_journal.specs.Log.{Log}
use Rattle.pv_journal.specs.Text.{Spells}
use Rattle.pv_journal.specs.Batch.{Pack, HasPacked}
use Rattle.pv_journal.specs.Journal.{Holds, HoldsInHand, LeavesOnly}
use Rattle.pv_node.specs.declared.rules.Rules as rules
use Rattle.pv_live.specs.declared.entry.Entry.{Entry}
use Rattle.pv_live.specs.Entries.{with_opening}
use Rattle.pv_group.specs.Desk.{bodies_of}

-- The journal; the bodies of the entries that are being stored; the entries after the opening that are stored; and those that were taken
-- to be stored.
pub record Shelf (D Rec : Type 0) : Type 0 where
  pub journal : Log D
  pub batch : Pack
  pub stored : List (Entry Rec)
  pub taken : List (Entry Rec)

module _ {S State Request Rec Reply : Type 0} (r : rules.Ghosts S State Request Rec Reply) (opening : List Rec) where
  -- the spellings of the opening's records and of the records of these entries
  abbrev pub all_bodies : List (Entry Rec) → List (List ℕ)
  all_bodies log = map r.spelling (with_opening opening log)

  -- the bytes spell these
  abbrev pub SpellsLog : List (Entry Rec) → List ℕ → Type 0
  SpellsLog log image = Spells image (all_bodies log)

module _ {S State Request Rec Reply D : Type 0} (r : rules.Ghosts S State Request Rec Reply) (d : reports.Ghosts D) (opening : List Rec) where
  -- the journal holds these entries, or it holds them and has a group of others in hand
  abbrev pub HoldsStored : Log D → List (Entry Rec) → List (Entry Rec) → Type 0
  HoldsStored journal stored group = Holds d journal (all_bodies r opening stored)
      ⊎ ((0 < length group) × HoldsInHand d journal (all_bodies r opening stored) (bodies_of r group))

  -- What was taken is what is stored and then a group, whose bodies the batch has. With it the records are within the limit.
  pub record IsShelf (limits : Limits) (shelf : Shelf D Rec) : Type 0 where
    pub group : List (Entry Rec)
    pub taken_is : shelf.taken ≡ shelf.stored ++ group
    pub packed : HasPacked shelf.batch (bodies_of r group)
    pub limit : shelf.journal.limit ≡ limits.records
    pub within : length opening + length shelf.taken ≤ limits.records
    pub kept : HoldsStored shelf.journal shelf.stored group

  -- Some calls of the disk, at any moment of which a crash leaves one of three lists: what was stored before them, all that was taken by
  -- then, or all that is taken by their end. So a group is there whole, or nothing of it is.
  abbrev pub LeavesGroups : Shelf D Rec → Shelf D Rec → Type 0
  LeavesGroups old new = LeavesOnly d old.journal.disk new.journal.disk (λ image. SpellsLog r opening old.stored image
      ⊎ (SpellsLog r opening old.taken image ⊎ SpellsLog r opening new.taken image))
