use Rattle.pv_fields.proofs.CallerLemmas.{puts_then}
use Rattle.pv_account.specs.Profile.{profile_bytes}
use Rattle.pv_account.proofs.account.Account.encode.Goals as goal

-- the parts are appended one after the other
pub returns : goal.returns
unfolding profile_bytes
returns c =
    rw (← c.self.view_is) (
    puts_then _ _ _ c.in_ok-put.ensures (puts_then _ _ _ c.in_ok-run.ensures.ok (puts_then _ _ _ c.in_ok-u8.ensures.ok c.put-2.ensures)))
