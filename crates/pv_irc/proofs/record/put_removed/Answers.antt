use Rattle.pv_fields.proofs.CallerLemmas.{puts_then}
use Rattle.pv_irc.specs.Record.{removed_bytes}
use Rattle.pv_irc.proofs.record.put_removed.Goals as goal

-- the parts are appended one after the other
pub returns : goal.returns
unfolding removed_bytes
returns c = puts_then _ _ _ c.in_ok-put.ensures c.u64.ensures.puts
