use Rattle.pv_edits.proofs.OneSpelling.{ReadsBack-down}
use Rattle.pv_edits.proofs.law.no_down_record_begins_another.Goals as goal

pub returns : goal.returns
returns c = ReadsBack-down
