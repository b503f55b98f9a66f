use denote.Param.{number}
use Rattle.pv_irc.specs.contracts.rules.IrcRulesRules.TheImpl as irc
use Rattle.pv_irc.specs.declared.request.IrcRequest.TheVariants.{Apply}
use Rattle.pv_closing.proofs.Applying.{record_stored, record_in_hand, record_leaves}
use Rattle.pv_closing.proofs.Lacking.{record_judged}
use Rattle.pv_closing.proofs.records.apply_record.Goals as goal

-- it is stored
pub returns-in_default-clause-stored : goal.returns-in_default-clause-stored
returns-in_default-clause-stored g c =
    record_stored (irc.ghosts (number g.row.C)) g.D.Reports c.args.centre.now c.ask.new.self c.args.edit.now
    (Apply c.applied-n.result c.down-rec.result)
    (record_judged c.applied-n.result c.args.centre.now.state c.state.result.now c.args.edit.now c.down-rec.result c.state.ensures
    c.applied-n.ensures c.down-rec.ensures)
    g.row.D-Failure.Denot c.in-Ok.told (c.in-Ok.ensures.answers c.requires.hand) c.in_default.not-NoRoom

pub returns-in_default-clause-moments : goal.returns-in_default-clause-moments
returns-in_default-clause-moments g c =
    record_leaves (irc.ghosts (number g.row.C)) g.D.Reports c.args.centre.now c.ask.new.self c.args.edit.now
    (Apply c.applied-n.result c.down-rec.result)
    (record_judged c.applied-n.result c.args.centre.now.state c.state.result.now c.args.edit.now c.down-rec.result c.state.ensures
    c.applied-n.ensures c.down-rec.ensures)
    c.requires.hand c.ask.ensures.moments

-- a call of the disk failed
pub returns-in-Err-Disk-clause-stopped : goal.returns-in-Err-Disk-clause-stopped
returns-in-Err-Disk-clause-stopped g c =
    let spends = rw c.in-Err-Disk.field-0-is at c.in-Err-Disk.ensures.spends in (
      record_in_hand (irc.ghosts (number g.row.C)) g.D.Reports c.args.centre.now c.ask.new.self c.args.edit.now
          (Apply c.applied-n.result c.down-rec.result)
          (record_judged c.applied-n.result c.args.centre.now.state c.state.result.now c.args.edit.now c.down-rec.result c.state.ensures
          c.applied-n.ensures c.down-rec.ensures)
          c.in-Err-Disk.failure (rw c.in-Err-Disk.field-0-is at (c.in-Err-Disk.ensures.answers c.requires.hand)),
      spends.spends.failed tt,
    )
