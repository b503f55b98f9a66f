use Rattle.pv_network.specs.declared.event.Event.TheVariants.{Crash}
use Rattle.pv_script.proofs.grammar.asked_event.Goals as goal

-- the node that the part names
pub returns-in-Crash : goal.returns-in-Crash
returns-in-Crash c = rw c.in-Crash.is (c.one_as-in-Crash.ensures (λ node. Crash node) (λ node made is. cc))
