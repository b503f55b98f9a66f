-- The law of the one edit list: what it holds of the edits that were acknowledged, and what the centres have of it.
use Rattle.std.specs.Prelude.{◌≡◌, ℕ, ◌+◌, ◌≤◌, ◌==◌, All, IsTrue, List, length, take, Option, Some, None, slice_get, slice_index_or, if◌then◌else◌}
use Rattle.std.specs.List.{count_by, filter_map}
use Rattle.pv_post.specs.declared.item.Item.{Item}
use Rattle.pv_edits.specs.declared.record.Record.{Record}
use Rattle.pv_edits.specs.declared.record.Record.TheVariants.{Put, Drop, Account, Lease, Taken}
use Rattle.pv_edits.specs.Edits.{is_edit_of, number_in, taken_of}
use Rattle.pv_udc.specs.EditList.{EditList}
use Rattle.pv_network.specs.Centre.{Centre, new_centre}
use Rattle.pv_network.specs.Run.{EachFollows, IsEditRun}
use Rattle.pv_network.specs.World.{World, Receipt}

-- the number of an edit is one more than how many edits of its editor come before it
abbrev pub IsNextOfEditor : List Record → Record → Type 0
IsNextOfEditor before edit = (editor : ℕ) → IsTrue (is_edit_of editor edit)
    → number_in edit ≡ Some (count_by (is_edit_of editor) before + 1)

-- so the edits of each editor have the numbers 1, 2, 3 and on, in order
abbrev pub HasNumbersInOrder : List Record → Type 0
HasNumbersInOrder edits = EachFollows IsNextOfEditor edits

-- the edit of an editor under a number stands at this place
pub record StandsAt (edits : List Record) (editor number place : ℕ) : Type 0 where
  pub edit : Record
  pub there : slice_get edits place ≡ Some edit
  pub by : IsTrue (is_edit_of editor edit)
  pub numbered : number_in edit ≡ Some number

-- an editor and a number have one place at most
abbrev pub HasOnePlaceEach : List Record → Type 0
HasOnePlaceEach edits = (editor number one other : ℕ)
    → StandsAt edits editor number one → StandsAt edits editor number other → one ≡ other

-- the edit that was acknowledged stands at the place of its receipt
abbrev pub MatchesReceipt : List Record → Receipt → Type 0
MatchesReceipt edits receipt = StandsAt edits receipt.editor receipt.number receipt.place

-- the item of a centre that the record took up, if it took one up
abbrev pub item_from : ℕ → Record → Option Item
item_from c (Put editor q name frame) = None
item_from c (Drop editor q name) = None
item_from c (Account editor q profile) = None
item_from c (Lease editor q root account) = None
item_from c (Taken taken) = if taken.centre == c then Some taken.item else None

-- the items of a centre that were taken up, in the order of the list
abbrev pub taken_items : List Record → ℕ → List Item
taken_items edits c = filter_map (item_from c) edits

-- The edit list is a run from nothing within the limits. It holds every acknowledged edit once, in order: an editor and a
-- number have one place, an editor's numbers are 1, 2, 3 and on, and each acknowledged edit stands at the place of its
-- receipt. Each centre has applied a prefix of the list. The items that were taken up from a centre are the first of its
-- items, each once and in order.
pub record IsOneList (u : EditList) (centres : List Centre) (receipts : List Receipt) : Type 0 where
  pub run : IsEditRun u.limits u.records
  pub one_place : HasOnePlaceEach u.records
  pub numbered : HasNumbersInOrder u.records
  pub kept : All (MatchesReceipt u.records) receipts
  pub prefixes : (c : ℕ) → (slice_index_or centres c new_centre).applied ≤ length u.records
  pub taken : (c : ℕ) → taken_items u.records c ≡ take (taken_of u.records c) (slice_index_or centres c new_centre).calls.items

-- the law of a world
abbrev pub OneList : World → Type 0
OneList w = IsOneList w.update w.centres w.receipts
