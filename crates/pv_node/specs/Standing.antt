-- Which records an image, a disk and a node stand for.
use Rattle.std.specs.Prelude.{◌≡◌, ◌⊎◌, ℕ, ◌≤◌, List, [], ◌∷◌, ◌++◌, length, map, All, Option, Some, None}
use Rattle.pv_outside.specs.declared.reports.Reports as reports
use Rattle.pv_outside.specs.declared.limits.Limits.{Limits}
use Rattle.pv_journal.specs.Text.{Spells}
use Rattle.pv_journal.specs.Log.{Log}
use Rattle.pv_journal.specs.Journal.{EachImage, Holds, HoldsInHand}
use Rattle.pv_node.specs.declared.rules.Rules as rules
use Rattle.pv_node.specs.Parts.{Parts}

module _ {S State Request Rec Reply : Type 0} (r : rules.Ghosts S State Request Rec Reply) where
  -- The image stands for these records: it spells bodies that are their spellings, in order.
  pub record Stands (image : List ℕ) (records : List Rec) : Type 0 where
    pub text : Spells image (map r.spelling records)
    pub each : All r.is_record records

  -- the image stands for these records, or, if one is in hand, for these with it
  abbrev pub StandsEither : List Rec → Option Rec → List ℕ → Type 0
  StandsEither records None image = Stands image records
  StandsEither records (Some rec) image = Stands image records ⊎ Stands image (records ++ rec ∷ [])

  -- each record has room in a state of these limits that stands for those before it
  abbrev pub EachHasRoom : Limits → List Rec → Type 0
  EachHasRoom limits records = (before after : List Rec) (rec : Rec) (state : State) → records ≡ before ++ rec ∷ after
      → r.stands state before → r.limits_of state ≡ limits → r.fits state rec

  -- The records meet these limits: there are no more than these, and each had room.
  pub record Meets (limits : Limits) (records : List Rec) : Type 0 where
    pub count : length records ≤ limits.records
    pub room : EachHasRoom limits records

  -- the records meet these limits, also with the one that is in hand
  abbrev pub MeetsBoth : Limits → List Rec → Option Rec → Type 0
  MeetsBoth limits records None = Meets limits records
  MeetsBoth limits records (Some rec) = Meets limits records × Meets limits (records ++ rec ∷ [])

module _ {S State Request Rec Reply D : Type 0} (r : rules.Ghosts S State Request Rec Reply) (g : reports.Ghosts D) where
  -- the disk reports what it reads, and that stands for these records
  abbrev pub DiskStands : D → List Rec → Type 0
  DiskStands d records = (text : List ℕ) × (g.reads d ≡ Some text) × Stands r text records

  -- the journal holds the spellings of these records, and has that of the one in hand in hand
  abbrev pub Keeps : Log D → List Rec → Option Rec → Type 0
  Keeps log records None = Holds g log (map r.spelling records)
  Keeps log records (Some rec) = HoldsInHand g log (map r.spelling records) (r.spelling rec ∷ [])

  -- The node stands for these records: its state and its journal do, and so does each image that a crash may leave of its
  -- disk, perhaps with the record in hand.
  pub record StandsFor (node : Parts D State Rec) (records : List Rec) : Type 0 where
    pub state : r.stands node.state records
    pub count : node.journal.count ≡ length records
    pub each : All r.is_record records
    pub meets : MeetsBoth r (r.limits_of node.state) records node.hand
    pub journal : Keeps node.journal records node.hand
    pub images : EachImage g node.journal.disk (StandsEither r records node.hand)

  -- whatever the node stood for, it stands for still
  abbrev pub KeepsAll : Parts D State Rec → Parts D State Rec → Type 0
  KeepsAll old new = (records : List Rec) → StandsFor old records → StandsFor new records

  -- whatever the node stood for, it now stands for that and then this record
  abbrev pub Gains : Parts D State Rec → Parts D State Rec → Rec → Type 0
  Gains old new rec = (records : List Rec) → StandsFor old records → StandsFor new (records ++ rec ∷ [])
