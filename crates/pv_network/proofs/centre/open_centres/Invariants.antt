use Rattle.pv_network.specs.Centre.{AreNew}
use Rattle.pv_network.proofs.centre.open_centres.Given as goal

-- as many as were counted are new
abbrev pub invariant-loop-number : goal.invariant-loop-number
invariant-loop-number l = AreNew l.limits l.number l.centres.items
