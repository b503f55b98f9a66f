use Rattle.std.proofs.Common.{None, subst}
use Rattle.pv_udc.specs.contracts.rules.UdcRulesRules.TheImpl as udc
use Rattle.pv_irc.specs.History.{CentreState}
use Rattle.pv_closing.specs.Bringing.{IsBroughtTo, LeavesFirst}
use Rattle.pv_closing.specs.Lacking.{lacked_items}
use Rattle.pv_closing.proofs.Bringing.{bringing_ends, bringing_leaves, settling_leaves, stands_kept, ends_stand}
use Rattle.pv_closing.proofs.items.take_items.Goals as goal

-- the node was settled
pub returns-in-Ok-clause-ends : goal.returns-in-Ok-clause-ends
returns-in-Ok-clause-ends g c =
    bringing_ends udc.ghosts g.D.Reports c.args.udc.now c.settle.new.self (lacked_items g.row.C c.args.centre.now.state.items)
    c.take_rest.new.udc c.in-Ok.field-0 c.in-Ok.ensures.settled c.settle.ensures.reads_only.spends.counted c.take_rest.result
    (subst (λ (s : CentreState). IsBroughtTo udc.ghosts g.D.Reports c.settle.new.self c.take_rest.new.udc None
    (lacked_items g.row.C s.items c.settle.new.self.state) c.take_rest.result) c.state.ensures c.take_rest.ensures.ends)

pub returns-in-Ok-clause-stands : goal.returns-in-Ok-clause-stands
returns-in-Ok-clause-stands g c =
    ends_stand udc.ghosts g.D.Reports c.args.udc.now c.take_rest.new.udc (lacked_items g.row.C c.args.centre.now.state.items)
    c.take_rest.result (returns-in-Ok-clause-ends g c)

pub returns-in-Ok-clause-moments : goal.returns-in-Ok-clause-moments
returns-in-Ok-clause-moments g c =
    bringing_leaves udc.ghosts g.D.Reports c.args.udc.now c.settle.new.self (lacked_items g.row.C c.args.centre.now.state.items)
    c.take_rest.new.udc c.in-Ok.field-0 c.in-Ok.ensures.settled c.settle.ensures.moments
    (subst (λ (s : CentreState). LeavesFirst udc.ghosts g.D.Reports c.settle.new.self c.take_rest.new.udc
    (lacked_items g.row.C s.items c.settle.new.self.state)) c.state.ensures c.take_rest.ensures.moments)

-- a call of the disk failed
pub returns-in-Err-clause-stands : goal.returns-in-Err-clause-stands
returns-in-Err-clause-stands g c =
    stands_kept udc.ghosts g.D.Reports c.args.udc.now c.settle.new.self (lacked_items g.row.C c.args.centre.now.state.items)
    c.in-Err.ensures.unsettled.records

pub returns-in-Err-clause-moments : goal.returns-in-Err-clause-moments
returns-in-Err-clause-moments g c =
    settling_leaves udc.ghosts g.D.Reports c.args.udc.now c.settle.new.self (lacked_items g.row.C c.args.centre.now.state.items)
    c.settle.ensures.moments
