-- What is kept beside some records: room, and the index of the last record about each subject.
use Rattle.std.specs.Prelude.{◌≡◌, ℕ, ◌≤◌, length, is_some, IsTrue}
use Rattle.std.specs.Vec.{vec_capacity}
use Rattle.pv_page.specs.Names.{IsPage}
use Rattle.pv_edits.specs.declared.records.Records.TheInside.{Inside}
use Rattle.pv_edits.specs.declared.subject.Subject.{Subject}
use Rattle.pv_edits.specs.Edits.{is_about, last_index}
use Rattle.pv_edits.specs.Indexed.{IsSubject, AreReserved, index_about}
use Rattle.pv_edits.specs.Owner.{lot_at}

-- there is room, each index is that of the last record, and each leased root is a page
pub record AreIndexed (records : Inside) : Type 0 where
  pub fit : records.room ≤ vec_capacity records.items
  pub reserved : AreReserved records.last records.room (length records.items.items)
  pub lasts : (subject : Subject) → IsSubject subject → index_about records.last subject ≡ last_index (is_about subject) records.items.items
  pub pages : (root : ℕ) → IsTrue (is_some (lot_at records.items.items root)) → IsPage root
