use Rattle.std.proofs.Common.{refl}
use Rattle.pv_udc.specs.contracts.rules.UdcRulesRules.TheImpl as udc
use Rattle.pv_udc.specs.declared.reply.UdcReply.TheVariants.{Stored}
use Rattle.pv_udc.specs.declared.request.UdcRequest.TheVariants.{TakeUp}
use Rattle.pv_closing.proofs.Asked.{asked_leaves, was_stored, was_taken}
use Rattle.pv_closing.proofs.Lacking.{item_judged}
use Rattle.pv_closing.proofs.items.take_item.Goals as goal

-- it is stored
pub returns-in-Ok-clause-stored : goal.returns-in-Ok-clause-stored
returns-in-Ok-clause-stored g c =
    was_stored udc.ghosts g.D.Reports c.args.udc.now c.ask.new.self _ g.row.D-Failure.Denot _ (Stored _) c.in-Ok.field-0
    (item_judged c.args.number c.taken.result c.args.udc.now.state c.state.result.now c.args.item.now c.state.ensures c.taken.ensures)
    (c.in-Ok.ensures.answers c.requires.hand)

pub returns-in-Ok-clause-moments : goal.returns-in-Ok-clause-moments
returns-in-Ok-clause-moments g c =
    asked_leaves udc.ghosts g.D.Reports c.args.udc.now c.ask.new.self (TakeUp c.args.number c.taken.result c.args.item.now) _ _
    (item_judged c.args.number c.taken.result c.args.udc.now.state c.state.result.now c.args.item.now c.state.ensures c.taken.ensures)
    c.requires.hand refl c.ask.ensures.moments

-- there was no room
pub returns-in-Err-Full-clause-moments : goal.returns-in-Err-Full-clause-moments
returns-in-Err-Full-clause-moments g c =
    asked_leaves udc.ghosts g.D.Reports c.args.udc.now c.ask.new.self (TakeUp c.args.number c.taken.result c.args.item.now) _ _
    (item_judged c.args.number c.taken.result c.args.udc.now.state c.state.result.now c.args.item.now c.state.ensures c.taken.ensures)
    c.requires.hand refl c.ask.ensures.moments

-- a call of the disk failed
pub returns-in-Err-Disk-clause-stopped : goal.returns-in-Err-Disk-clause-stopped
returns-in-Err-Disk-clause-stopped g c =
    let spends = rw c.in-Err-Disk.field-0-is at c.in-Err-Disk.ensures.spends in (
      was_taken udc.ghosts g.D.Reports c.args.udc.now c.ask.new.self _ _ (Stored _) c.in-Err-Disk.failure
          (item_judged c.args.number c.taken.result c.args.udc.now.state c.state.result.now c.args.item.now c.state.ensures c.taken.ensures)
          (rw c.in-Err-Disk.field-0-is at (c.in-Err-Disk.ensures.answers c.requires.hand)),
      spends.spends.failed tt,
    )

pub returns-in-Err-Disk-clause-moments : goal.returns-in-Err-Disk-clause-moments
returns-in-Err-Disk-clause-moments g c =
    asked_leaves udc.ghosts g.D.Reports c.args.udc.now c.ask.new.self (TakeUp c.args.number c.taken.result c.args.item.now) _ _
    (item_judged c.args.number c.taken.result c.args.udc.now.state c.state.result.now c.args.item.now c.state.ensures c.taken.ensures)
    c.requires.hand refl c.ask.ensures.moments
