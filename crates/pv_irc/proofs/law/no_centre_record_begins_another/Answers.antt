use Rattle.pv_irc.proofs.OneSpelling.{ReadsBack-centre}
use Rattle.pv_irc.proofs.law.no_centre_record_begins_another.Goals as goal

pub returns : goal.returns
returns c = ReadsBack-centre c.no_record_begins_another.ensures c.no_item_begins_another.ensures
