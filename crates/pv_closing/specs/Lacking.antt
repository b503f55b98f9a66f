-- What the nodes of a network lack of each other.
use Rattle.std.specs.Prelude.{ℕ, List, map, drop}
use Rattle.std.specs.List.{enumerate_from}
use Rattle.pv_post.specs.declared.item.Item.{Item}
use Rattle.pv_edits.specs.Edits.{taken_of}
use Rattle.pv_edits.specs.declared.record.Record.{Record}
use Rattle.pv_edits.specs.declared.record.Record.TheVariants.{Taken}
use Rattle.pv_udc.specs.EditList.{EditList}
use Rattle.pv_udc.specs.Replies.{down_of}
use Rattle.pv_irc.specs.History.{CentreState}
use Rattle.pv_irc.specs.declared.record.CentreRecord.{CentreRecord}
use Rattle.pv_irc.specs.declared.record.CentreRecord.TheVariants.{Applied}

-- ---- the Update Centre

-- the record by which it takes up an item of a centre under a number
abbrev pub take_record : ℕ → ℕ → Item → Record
take_record centre k item = Taken (record { centre = centre; k = k; item = item })

-- those by which it takes up all items of a centre, each under its number
abbrev pub take_records : ℕ → List Item → List Record
take_records centre items = map (λ (x : ℕ × Item). take_record centre x.0 x.1) (enumerate_from 0 items)

-- what it lacks of a centre's items: all but those that it has taken up, which came first
abbrev pub lacked_items : ℕ → List Item → EditList → List Record
lacked_items centre items list = drop (taken_of list.records centre) (take_records centre items)

-- ---- a centre

-- the record by which it applies that of a place of the edit list
abbrev pub apply_record : ℕ → Record → CentreRecord
apply_record n edit = Applied n (down_of edit)

-- those by which it applies the whole edit list, each at its place
abbrev pub apply_records : List Record → List CentreRecord
apply_records edits = map (λ (x : ℕ × Record). apply_record x.0 x.1) (enumerate_from 0 edits)

-- what it lacks of an edit list: all but the records that it has applied, which came first
abbrev pub lacked_records : List Record → CentreState → List CentreRecord
lacked_records edits state = drop state.applied (apply_records edits)
