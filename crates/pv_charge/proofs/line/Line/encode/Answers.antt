use Rattle.pv_fields.proofs.CallerLemmas.{puts_then}
use Rattle.pv_charge.specs.Line.{charge_bytes}
use Rattle.pv_charge.proofs.line.Line.encode.Goals as goal

-- the parts are appended one after the other
pub returns : goal.returns
unfolding charge_bytes
returns c =
    rw (← c.self.view_is) (
    puts_then _ _ _ c.in_ok-u64.ensures.ok (puts_then _ _ _ c.in_ok-u32.ensures.ok (puts_then _ _ _ c.in_ok-put.ensures
    (puts_then _ _ _ c.in_ok-put-2.ensures (puts_then _ _ _ c.in_ok-u16.ensures.ok c.u32-2.ensures.puts)))))
