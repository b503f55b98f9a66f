use Rattle.pv_edits.proofs.OneSpelling.{ReadsBack-record}
use Rattle.pv_edits.proofs.law.no_record_begins_another.Goals as goal

pub returns : goal.returns
returns c = ReadsBack-record
