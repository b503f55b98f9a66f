use Rattle.std.proofs.Common.{◌≡◌, ◌-◌, length}
use denote.Param.{number}
use Rattle.pv_irc.specs.contracts.rules.IrcRulesRules.TheImpl as irc
use Rattle.pv_closing.specs.Lacking.{lacked_records}
use Rattle.pv_closing.proofs.Bringing.{IsGoing}
use Rattle.pv_closing.proofs.records.apply_rest.Given as goal

-- how far the centre is: what it lacks now is still to come
abbrev pub invariant-loop-edit : goal.invariant-loop-edit
invariant-loop-edit g l = record {
  going : IsGoing (irc.ghosts (number g.row.C)) g.D.Reports l.fn.centre (lacked_records l.list.records l.fn.centre.state) l.centre
      (lacked_records l.list.records l.centre.state);
  limits : l.centre.state.limits ≡ l.fn.centre.state.limits;
}

abbrev pub decreases-loop-edit : goal.decreases-loop-edit
decreases-loop-edit g l = length l.list.records - l.centre.state.applied
