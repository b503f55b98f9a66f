use Rattle.std.proofs.Common.{refl, inl}
use Rattle.pv_udc.specs.contracts.rules.UdcRulesRules.TheImpl as udc
use Rattle.pv_tape.proofs.AfterRun.{stays, goes_on}
use Rattle.pv_tape.proofs.Settled.{account_settled, settled_end, run_ends, run_leaves, settling_leaves}
use Rattle.pv_tape.proofs.running.run_edits.Goals as goal

-- the node was settled
pub returns-in-Ok-clause-ends : goal.returns-in-Ok-clause-ends
returns-in-Ok-clause-ends g c = λ edits is.
    run_ends udc.ghosts g.D.Reports (λ state records stands. stands) (λ state edit place. refl) c.args.head.now edits c.args.node.now
    c.settle.new.self c.load.new.node c.in-Ok.field-0 c.in-Ok.ensures.settled c.settle.ensures.reads_only.spends.counted c.load.result
    (c.load.ensures.ends edits is)
    (c.load.ensures.ahead edits is (account_settled udc.ghosts g.D.Reports (λ state records stands. stands) (λ state edit place. refl)
    c.args.head.now edits c.args.node.now c.settle.new.self c.in-Ok.field-0 c.in-Ok.ensures.settled c.requires.known))

pub returns-in-Ok-clause-after : goal.returns-in-Ok-clause-after
returns-in-Ok-clause-after g c = λ edits is.
    let settled = settled_end udc.ghosts g.D.Reports (λ state records stands. stands) (λ state edit place. refl) c.args.head.now edits
    c.args.node.now c.settle.new.self c.load.new.node c.in-Ok.field-0 c.in-Ok.ensures.settled
    c.settle.ensures.reads_only.spends.counted c.load.result (c.load.ensures.ends edits is)
    (c.load.ensures.ahead edits is (account_settled udc.ghosts g.D.Reports (λ state records stands. stands) (λ state edit place. refl)
    c.args.head.now edits c.args.node.now c.settle.new.self c.in-Ok.field-0 c.in-Ok.ensures.settled c.requires.known)) in
    goes_on udc.ghosts g.D.Reports (λ state records stands. stands) c.args.head.now edits c.args.node.now c.load.new.node settled.0
    settled.1 c.load.result settled.2

pub returns-in-Ok-clause-moments : goal.returns-in-Ok-clause-moments
returns-in-Ok-clause-moments g c = λ edits is.
    run_leaves udc.ghosts g.D.Reports (λ state records stands. stands) (λ state edit place. refl) c.args.head.now edits c.args.node.now
    c.settle.new.self c.load.new.node c.in-Ok.field-0 c.in-Ok.ensures.settled c.settle.ensures.moments (c.load.ensures.moments edits is)

-- a call of the disk failed
pub returns-in-Err-clause-after : goal.returns-in-Err-clause-after
returns-in-Err-clause-after g c = λ edits is.
    stays udc.ghosts g.D.Reports (λ state records stands. stands) c.args.head.now edits c.args.node.now c.settle.new.self
    c.in-Err.ensures.unsettled.records c.in-Err.ensures.unsettled.hand

pub returns-in-Err-clause-ends : goal.returns-in-Err-clause-ends
returns-in-Err-clause-ends g c = λ edits is. inl (c.in-Err.ensures.unsettled, c.in-Err.ensures.reads_only.spends.failed refl)

pub returns-in-Err-clause-moments : goal.returns-in-Err-clause-moments
returns-in-Err-clause-moments g c = λ edits is.
    settling_leaves udc.ghosts g.D.Reports (λ state records stands. stands) (λ state edit place. refl) c.args.head.now edits
    c.args.node.now c.settle.new.self c.settle.ensures.moments
