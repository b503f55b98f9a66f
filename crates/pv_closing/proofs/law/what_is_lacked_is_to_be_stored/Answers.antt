use Rattle.pv_closing.proofs.Laws.{item_to_store, record_to_store}
use Rattle.pv_closing.proofs.law.what_is_lacked_is_to_be_stored.Goals as goal

pub returns-clause-items : goal.returns-clause-items
returns-clause-items c = λ centre items list before after next is valid. item_to_store centre items before list after next is valid

pub returns-clause-records : goal.returns-clause-records
returns-clause-records c = λ centre limits edits records before after next is valid room.
    record_to_store edits centre limits before records after next is valid room
