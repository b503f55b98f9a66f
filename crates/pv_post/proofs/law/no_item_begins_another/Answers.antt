use Rattle.pv_fields.proofs.Readings.{Reads-back}
use Rattle.pv_post.specs.Spelling.{IsItem, item_bytes, item_at}
use Rattle.pv_post.proofs.CallerLemmas.{Reads-item}
use Rattle.pv_post.proofs.law.no_item_begins_another.Goals as goal

pub returns : goal.returns
returns c = Reads-back IsItem item_bytes item_at Reads-item
