use Rattle.std.proofs.Common.{refl, ap, ◌∙◌}
use Rattle.pv_node.specs.declared.decision.Decision.TheVariants.{Answer}
use Rattle.pv_udc.specs.contracts.rules.UdcRulesRules.TheImpl as udc
use Rattle.pv_tape.proofs.AskedEdit.{was_stored, was_answered, was_full, was_taken, only_refused, asked_leaves}
use Rattle.pv_tape.proofs.asking.ask_edit.Goals as goal

-- it was stored
pub returns-in-Stored-clause-stored : goal.returns-in-Stored-clause-stored
returns-in-Stored-clause-stored g c =
    (was_stored udc.ghosts g.D.Reports c.args.node.now c.ask.new.self c.args.editor c.args.q c.args.wish (λ state. refl)
    (λ state edit place. refl) g.row.D-Failure.Denot _ c.in-Ok.told c.in-Stored.field-0 refl
    (c.in-Ok.ensures.answers c.requires.hand) c.in-Stored.is).gains

pub returns-in-Stored-clause-last : goal.returns-in-Stored-clause-last
returns-in-Stored-clause-last g c =
    (was_stored udc.ghosts g.D.Reports c.args.node.now c.ask.new.self c.args.editor c.args.q c.args.wish (λ state. refl)
    (λ state edit place. refl) g.row.D-Failure.Denot _ c.in-Ok.told c.in-Stored.field-0 refl
    (c.in-Ok.ensures.answers c.requires.hand) c.in-Stored.is).last

pub returns-in-Stored-clause-judged : goal.returns-in-Stored-clause-judged
returns-in-Stored-clause-judged g c =
    (was_stored udc.ghosts g.D.Reports c.args.node.now c.ask.new.self c.args.editor c.args.q c.args.wish (λ state. refl)
    (λ state edit place. refl) g.row.D-Failure.Denot _ c.in-Ok.told c.in-Stored.field-0 refl
    (c.in-Ok.ensures.answers c.requires.hand) c.in-Stored.is).to_store

pub returns-in-Stored-clause-moments : goal.returns-in-Stored-clause-moments
returns-in-Stored-clause-moments g c =
    asked_leaves udc.ghosts g.D.Reports c.args.node.now c.ask.new.self c.args.editor c.args.q c.args.wish (λ state. refl)
    (λ state edit place. refl) c.requires.hand c.ask.ensures.moments

-- it was refused
pub returns-in-Refused-clause-stopped : goal.returns-in-Refused-clause-stopped
returns-in-Refused-clause-stopped g c =
    let was = was_answered udc.ghosts g.D.Reports c.args.node.now c.ask.new.self c.args.editor c.args.q c.args.wish (λ state. refl)
    (λ state edit place. refl) g.row.D-Failure.Denot _ c.in-Ok.told refl (c.in-Ok.ensures.answers c.requires.hand)
    (λ stored. let is = c.in-Refused.is in absurd cc) in
    (was.0, refl, rw c.in-Refused.is (was.1 ∙ ap Answer c.in-Refused.is))

pub returns-in-Refused-clause-moments : goal.returns-in-Refused-clause-moments
returns-in-Refused-clause-moments g c =
    asked_leaves udc.ghosts g.D.Reports c.args.node.now c.ask.new.self c.args.editor c.args.q c.args.wish (λ state. refl)
    (λ state edit place. refl) c.requires.hand c.ask.ensures.moments

-- nothing else is answered
pub returns-in_default : goal.returns-in_default
returns-in_default g c =
    let was = was_answered udc.ghosts g.D.Reports c.args.node.now c.ask.new.self c.args.editor c.args.q c.args.wish (λ state. refl)
    (λ state edit place. refl) g.row.D-Failure.Denot _ c.in-Ok.told refl (c.in-Ok.ensures.answers c.requires.hand)
    (λ stored. c.in_default.not-Stored _ stored) in
    absurd (only_refused udc.ghosts g.D.Reports c.args.node.now c.ask.new.self c.args.editor c.args.q c.args.wish (λ state. refl)
    (λ state edit place. refl) c.requires.above c.in-Ok.told.reply was.1 c.in_default.not-Refused)

-- there was no room
pub returns-in-Err-Full-clause-stopped : goal.returns-in-Err-Full-clause-stopped
returns-in-Err-Full-clause-stopped g c =
    was_full udc.ghosts g.D.Reports c.args.node.now c.ask.new.self c.args.editor c.args.q c.args.wish (λ state. refl)
    (λ state edit place. refl) g.row.D-Failure.Denot (λ state. refl) _ c.in-Err-Full.count refl
    (rw c.in-Err-Full.field-0-is at (c.in-Err-Full.ensures.answers c.requires.hand))

pub returns-in-Err-Full-clause-moments : goal.returns-in-Err-Full-clause-moments
returns-in-Err-Full-clause-moments g c =
    asked_leaves udc.ghosts g.D.Reports c.args.node.now c.ask.new.self c.args.editor c.args.q c.args.wish (λ state. refl)
    (λ state edit place. refl) c.requires.hand c.ask.ensures.moments

-- a call of the disk failed
pub returns-in-Err-Disk-clause-stopped : goal.returns-in-Err-Disk-clause-stopped
returns-in-Err-Disk-clause-stopped g c =
    let was = was_taken udc.ghosts g.D.Reports c.args.node.now c.ask.new.self c.args.editor c.args.q c.args.wish (λ state. refl)
    (λ state edit place. refl) _ c.in-Err-Disk.failure refl
    (rw c.in-Err-Disk.field-0-is at (c.in-Err-Disk.ensures.answers c.requires.hand)) in
    let spends = rw c.in-Err-Disk.field-0-is at c.in-Err-Disk.ensures.spends in
    (was.0, was.1, spends.spends.failed tt, was.2)

pub returns-in-Err-Disk-clause-moments : goal.returns-in-Err-Disk-clause-moments
returns-in-Err-Disk-clause-moments g c =
    asked_leaves udc.ghosts g.D.Reports c.args.node.now c.ask.new.self c.args.editor c.args.q c.args.wish (λ state. refl)
    (λ state edit place. refl) c.requires.hand c.ask.ensures.moments
