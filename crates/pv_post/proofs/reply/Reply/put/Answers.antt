use Rattle.pv_fields.proofs.CallerLemmas.{puts_then}
use Rattle.pv_post.specs.Item.{response_bytes}
use Rattle.pv_post.proofs.reply.Reply.put.Goals as goal

-- the parts are appended one after the other
pub returns : goal.returns
unfolding response_bytes
returns c =
    rw (← c.self.view_is) (
    puts_then _ _ _ c.in_ok-put.ensures (puts_then _ _ _ c.in_ok-put-2.ensures (puts_then _ _ _ c.in_ok-u32.ensures.ok c.put-3.ensures)))
