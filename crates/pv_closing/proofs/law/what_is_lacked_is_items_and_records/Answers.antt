use Rattle.pv_edits.specs.Edits.{taken_of}
use Rattle.pv_closing.specs.Lacking.{take_record, apply_record}
use Rattle.pv_closing.proofs.Laws.{lacked_at}
use Rattle.pv_closing.proofs.law.what_is_lacked_is_items_and_records.Goals as goal

pub returns-clause-items : goal.returns-clause-items
returns-clause-items c = λ centre index items list rec is.
    lacked_at (take_record centre) items (taken_of list.records centre) index rec is

pub returns-clause-records : goal.returns-clause-records
returns-clause-records c = λ index edits state rec is. lacked_at apply_record edits state.applied index rec is
