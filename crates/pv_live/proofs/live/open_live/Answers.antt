use Rattle.std.proofs.Common.{ap, ◌∙◌}
use Rattle.pv_live.specs.Pass.{told_count, failed_count}
use Rattle.pv_live.proofs.Passes.{none_told, none_failed}
use Rattle.pv_live.proofs.live.open_live.Goals as goal

-- the passes are new
pub returns-clause-unasked : goal.returns-clause-unasked
returns-clause-unasked g c =
    let new = c.in_ok-all.ensures.passes in (
      ap told_count new ∙ none_told g.row.R-Rec.Denot c.args.passes,
      ap failed_count new ∙ none_failed g.row.R-Rec.Denot c.args.passes,
    )
