use Rattle.std.proofs.Common.{rules}
use Rattle.pv_network.proofs.centre.Centre.apply.Goals as goal

-- what is asked is within its ranges
pub ask-requires : goal.ask-requires
ask-requires c = (search rules, c.within.ensures)
