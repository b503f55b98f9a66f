use Rattle.pv_fields.proofs.CallerLemmas.{puts_then}
use Rattle.pv_edits.specs.Record.{account_edit_bytes}
use Rattle.pv_edits.proofs.parts.put_account.Goals as goal

pub returns : goal.returns
unfolding account_edit_bytes
returns c = puts_then _ _ _ c.in_ok-put_editor.ensures c.encode.ensures
