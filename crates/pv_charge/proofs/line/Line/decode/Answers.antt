use Rattle.std.proofs.Common.{◌≡◌, Some, ◌∙◌, rules}
use Rattle.pv_charge.specs.Line.{charge_at}
use Rattle.pv_charge.proofs.CallerLemmas.{Reads-charge}
use Rattle.pv_charge.proofs.line.Line.decode.Goals as goal

-- bytes that begin with a spelling are read
pub returns-in-Err-clause-missing : goal.returns-in-Err-clause-missing
returns-in-Err-clause-missing c none line rest is begins =
    let found : charge_at c.fork-ahead.result ≡ Some (line, rest) = rw (c.fork-ahead.ensures.same ∙ begins) (Reads-charge.again line
    rest tt is) in
    absurd (search rules)

-- what is read is spelled at the beginning of the bytes
pub returns-in-Ok-clause-found : goal.returns-in-Ok-clause-found
returns-in-Ok-clause-found c =
    rw (← c.fork-ahead.ensures.same) (Reads-charge.found c.fork-ahead.result c.in-Ok.line c.read.new.bytes
    c.fork-ahead.ensures.bytes c.in-Ok.ensures)
