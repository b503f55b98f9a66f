use Rattle.std.proofs.Common.{◌≡◌, ◌-◌, length}
use Rattle.pv_edits.specs.Edits.{taken_of}
use Rattle.pv_udc.specs.contracts.rules.UdcRulesRules.TheImpl as udc
use Rattle.pv_closing.specs.Lacking.{lacked_items}
use Rattle.pv_closing.proofs.Bringing.{IsGoing}
use Rattle.pv_closing.proofs.items.take_rest.Given as goal

-- how far the Update Centre is: what it lacks now is still to come
abbrev pub invariant-loop-item : goal.invariant-loop-item
invariant-loop-item g l = record {
  going : IsGoing udc.ghosts g.D.Reports l.fn.udc (lacked_items l.number l.centre.items l.fn.udc.state) l.udc
      (lacked_items l.number l.centre.items l.udc.state);
  limits : l.udc.state.limits ≡ l.fn.udc.state.limits;
}

abbrev pub decreases-loop-item : goal.decreases-loop-item
decreases-loop-item g l = length l.centre.items - taken_of l.udc.state.records l.number
