use Rattle.pv_fields.proofs.CallerLemmas.{puts_then}
use Rattle.pv_edits.proofs.parts.put_editor.Goals as goal

pub returns : goal.returns
returns c = puts_then _ _ _ c.in_ok-put.ensures c.u32.ensures.puts
