use Rattle.std.proofs.Common.{arith, refl}
use Rattle.pv_irc.specs.Reading.{down_is_read, down_missing}
use Rattle.pv_irc.proofs.record.read_down.Goals as goal

-- what is decoded is read
pub returns-in-Some : goal.returns-in-Some
returns-in-Some c = let found = c.in-Some.ensures.found in down_is_read c.args.bytes.now c.in-Some.rec found.0 found.1

-- what is not, is not
pub returns-in-None : goal.returns-in-None
returns-in-None c = down_missing c.args.bytes.now (λ i. omega (arith, c.type_inv.bytes i)) (c.in-None.ensures.missing refl)
