use Rattle.std.proofs.Common.{ap, ◌∙◌}
use Rattle.pv_nodes.specs.OnDisk.{list_with}
use Rattle.pv_udc.specs.Judgement.{judge}
use Rattle.pv_network.proofs.Verdicts.{reply_to, told_reply, stored_same}
use Rattle.pv_network.proofs.verdict.store.Goals as goal

-- the reply is that of what the node answers
pub returns-in-Ok-clause-reply : goal.returns-in-Ok-clause-reply
returns-in-Ok-clause-reply c =
    let u = c.args.update.now.state in
    c.view_of.ensures ∙ ap reply_to c.in-Ok.ensures.told ∙ told_reply u (judge u.limits u.records c.args.request.now)

pub returns-in-Err-clause-reply : goal.returns-in-Err-clause-reply
returns-in-Err-clause-reply c =
    let u = c.args.update.now.state in
    c.full.ensures ∙ ap reply_to c.in-Err.ensures.told ∙ told_reply u (judge u.limits u.records c.args.request.now)

-- the record is that of the verdict
pub returns-in-Ok-clause-stored : goal.returns-in-Ok-clause-stored
returns-in-Ok-clause-stored c =
    let u = c.args.update.now.state in
    c.in-Ok.ensures.state ∙ ap (list_with u) (stored_same u (judge u.limits u.records c.args.request.now))

pub returns-in-Err-clause-stored : goal.returns-in-Err-clause-stored
returns-in-Err-clause-stored c =
    let u = c.args.update.now.state in
    c.in-Err.ensures.state ∙ ap (list_with u) (stored_same u (judge u.limits u.records c.args.request.now))
