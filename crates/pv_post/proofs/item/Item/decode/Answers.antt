use Rattle.std.proofs.Common.{◌≡◌, Some, ◌∙◌, rules}
use Rattle.pv_post.specs.Spelling.{item_at}
use Rattle.pv_post.proofs.CallerLemmas.{Reads-item}
use Rattle.pv_post.proofs.item.Item.decode.Goals as goal

-- bytes that begin with a spelling are read
pub returns-in-Err-clause-missing : goal.returns-in-Err-clause-missing
returns-in-Err-clause-missing c none item rest is begins =
    let found : item_at c.fork-ahead.result ≡ Some (item, rest) = rw (c.fork-ahead.ensures.same ∙ begins) (Reads-item.again item
    rest tt is) in
    absurd (search rules)

-- what is read is spelled at the beginning of the bytes
pub returns-in-Ok-clause-found : goal.returns-in-Ok-clause-found
returns-in-Ok-clause-found c =
    rw (← c.fork-ahead.ensures.same) (Reads-item.found c.fork-ahead.result c.in-Ok.item c.read.new.bytes c.fork-ahead.ensures.bytes
    c.in-Ok.ensures)
