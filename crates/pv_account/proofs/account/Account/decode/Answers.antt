use Rattle.std.proofs.Common.{◌≡◌, Some, ◌∙◌, rules}
use Rattle.pv_account.specs.Profile.{profile_at}
use Rattle.pv_account.proofs.CallerLemmas.{Reads-profile}
use Rattle.pv_account.proofs.account.Account.decode.Goals as goal

-- bytes that begin with a spelling are read
pub returns-in-Err-clause-missing : goal.returns-in-Err-clause-missing
returns-in-Err-clause-missing c none account rest is begins =
    let found : profile_at c.fork-ahead.result ≡ Some (account, rest) = rw (c.fork-ahead.ensures.same ∙ begins) (Reads-profile.again
    account rest tt is) in
    absurd (search rules)

-- what is read is spelled at the beginning of the bytes
pub returns-in-Ok-clause-found : goal.returns-in-Ok-clause-found
returns-in-Ok-clause-found c =
    rw (← c.fork-ahead.ensures.same) (Reads-profile.found c.fork-ahead.result c.in-Ok.account c.read.new.bytes
    c.fork-ahead.ensures.bytes c.in-Ok.ensures)
