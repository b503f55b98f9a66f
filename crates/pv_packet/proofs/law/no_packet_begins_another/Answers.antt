use Rattle.pv_packet.proofs.OneSpelling.{ReadsBack-packet}
use Rattle.pv_packet.proofs.law.no_packet_begins_another.Goals as goal

pub returns : goal.returns
returns c = ReadsBack-packet c.no_down_record_begins_another.ensures c.no_item_begins_another.ensures
