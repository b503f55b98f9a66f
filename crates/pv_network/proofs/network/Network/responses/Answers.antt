use Rattle.std.proofs.Common.{ap, ◌∙◌}
use Rattle.pv_udc.specs.EditList.{EditList}
use Rattle.pv_editor.specs.Replies.{responses_reply}
use Rattle.pv_network.specs.declared.outcome.Outcome.TheVariants.{Reply}
use Rattle.pv_verdicts.specs.Search.{first_reply}
use Rattle.pv_network.proofs.network.Network.responses.Goals as goal

pub returns : goal.returns
returns c = λ port w stands.
    let here = rw (← c.self.view_is) at stands in (
      stands,
      ap Reply (c.responses.ensures ∙ ap
          (λ (u : EditList). responses_reply (first_reply u.records c.args.editor c.args.from)) (c.state.ensures ∙ here.update)),
    )
