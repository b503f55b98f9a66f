use Rattle.std.proofs.Common.{None, subst}
use denote.Param.{number}
use Rattle.pv_udc.specs.EditList.{EditList}
use Rattle.pv_irc.specs.contracts.rules.IrcRulesRules.TheImpl as irc
use Rattle.pv_closing.specs.Bringing.{IsBroughtTo, LeavesFirst}
use Rattle.pv_closing.specs.Lacking.{lacked_records}
use Rattle.pv_closing.proofs.Bringing.{bringing_ends, bringing_leaves, settling_leaves, stands_kept, ends_stand}
use Rattle.pv_closing.proofs.records.apply_records.Goals as goal

-- the node was settled
pub returns-in-Ok-clause-ends : goal.returns-in-Ok-clause-ends
returns-in-Ok-clause-ends g c =
    bringing_ends (irc.ghosts (number g.row.C)) g.D.Reports c.args.centre.now c.settle.new.self
    (lacked_records c.args.udc.now.state.records) c.apply_rest.new.centre c.in-Ok.field-0 c.in-Ok.ensures.settled
    c.settle.ensures.reads_only.spends.counted c.apply_rest.result
    (subst (λ (s : EditList). IsBroughtTo (irc.ghosts (number g.row.C)) g.D.Reports c.settle.new.self c.apply_rest.new.centre None
    (lacked_records s.records c.settle.new.self.state) c.apply_rest.result) c.state.ensures c.apply_rest.ensures.ends)

pub returns-in-Ok-clause-stands : goal.returns-in-Ok-clause-stands
returns-in-Ok-clause-stands g c =
    ends_stand (irc.ghosts (number g.row.C)) g.D.Reports c.args.centre.now c.apply_rest.new.centre
    (lacked_records c.args.udc.now.state.records) c.apply_rest.result (returns-in-Ok-clause-ends g c)

pub returns-in-Ok-clause-moments : goal.returns-in-Ok-clause-moments
returns-in-Ok-clause-moments g c =
    bringing_leaves (irc.ghosts (number g.row.C)) g.D.Reports c.args.centre.now c.settle.new.self
    (lacked_records c.args.udc.now.state.records) c.apply_rest.new.centre c.in-Ok.field-0 c.in-Ok.ensures.settled c.settle.ensures.moments
    (subst (λ (s : EditList). LeavesFirst (irc.ghosts (number g.row.C)) g.D.Reports c.settle.new.self c.apply_rest.new.centre
    (lacked_records s.records c.settle.new.self.state)) c.state.ensures c.apply_rest.ensures.moments)

-- a call of the disk failed
pub returns-in-Err-clause-stands : goal.returns-in-Err-clause-stands
returns-in-Err-clause-stands g c =
    stands_kept (irc.ghosts (number g.row.C)) g.D.Reports c.args.centre.now c.settle.new.self
    (lacked_records c.args.udc.now.state.records) c.in-Err.ensures.unsettled.records

pub returns-in-Err-clause-moments : goal.returns-in-Err-clause-moments
returns-in-Err-clause-moments g c =
    settling_leaves (irc.ghosts (number g.row.C)) g.D.Reports c.args.centre.now c.settle.new.self
    (lacked_records c.args.udc.now.state.records) c.settle.ensures.moments
