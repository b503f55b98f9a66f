use Rattle.pv_fields.proofs.CallerLemmas.{puts_then}
use Rattle.pv_edits.specs.Record.{lease_bytes}
use Rattle.pv_edits.proofs.parts.put_lease.Goals as goal

pub returns : goal.returns
unfolding lease_bytes
returns c = puts_then _ _ _ c.in_ok-put_editor.ensures (puts_then _ _ _ c.in_ok-put.ensures c.put-2.ensures)
