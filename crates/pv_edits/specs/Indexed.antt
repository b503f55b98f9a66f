-- The records of a base, and the index of the last one about each subject, which is found under a key of its own.
use Rattle.std.specs.Prelude.{ℕ, ◌+◌, ◌*◌, ◌≤◌, List, [], ◌∷◌, ◌++◌, length, Option}
use Rattle.pv_page.specs.Names.{Name, IsName}
use Rattle.pv_index.specs.Indexes.{KeyIndexes, no_indexes, index_under}
use Rattle.pv_edits.specs.declared.last_about.LastAbout.{LastAbout}
use Rattle.pv_edits.specs.declared.last_about.TheConstants.{LETTERS}
use Rattle.pv_edits.specs.declared.record.Record.{Record}
use Rattle.pv_edits.specs.declared.subject.Subject.{Subject}
use Rattle.pv_edits.specs.declared.subject.Subject.TheVariants as about

-- how many records there is room for, and the records, oldest first
pub record RecordList : Type 0 where
  pub room : ℕ
  pub items : List Record

-- there is no record
abbrev pub no_records : ℕ → RecordList
no_records room = record { room = room; items = [] }

-- with one record more
abbrev pub with_one_more : RecordList → Record → RecordList
with_one_more records edit = record records { items = records.items ++ edit ∷ [] }

-- ---- the keys of subjects

-- a number for a name
abbrev pub name_key : Name → ℕ
name_key name = name.page * LETTERS + name.letter

-- the subject has a key of its own: a name's parts are within their ranges
abbrev pub IsSubject : Subject → Type 0
IsSubject (about.Name name) = IsName name
IsSubject (about.Account number) = Unit {0}
IsSubject (about.Root page) = Unit {0}
IsSubject (about.Editor account) = Unit {0}

-- ---- the index under each

-- no subject has an index
abbrev pub none_about : ℕ → LastAbout
none_about room = record {
  names = no_indexes room;
  accounts = no_indexes room;
  roots = no_indexes room;
  editors = no_indexes room;
}

-- the index of a subject
abbrev pub index_about : LastAbout → Subject → Option ℕ
index_about last (about.Name name) = index_under last.names.pairs (name_key name)
index_about last (about.Account number) = index_under last.accounts.pairs number
index_about last (about.Root page) = index_under last.roots.pairs page
index_about last (about.Editor account) = index_under last.editors.pairs account

-- there is room for the keys of all records that may come, and the records so far have at most one key each
abbrev pub HasReserve : KeyIndexes → ℕ → ℕ → Type 0
HasReserve indexes room count = (room ≤ indexes.room) × (length indexes.pairs ≤ count)

-- each of the four is reserved
pub record AreReserved (last : LastAbout) (room count : ℕ) : Type 0 where
  pub names : HasReserve last.names room count
  pub accounts : HasReserve last.accounts room count
  pub roots : HasReserve last.roots room count
  pub editors : HasReserve last.editors room count
