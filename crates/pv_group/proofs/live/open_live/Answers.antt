use Rattle.std.proofs.Common.{[], refl, ap, ◌∙◌, rules}
use Rattle.pv_live.specs.Pass.{told_count, failed_count}
use Rattle.pv_live.proofs.Passes.{none_told, none_failed}
use Rattle.pv_group.proofs.Aheads.{ahead_opening}
use Rattle.pv_group.proofs.Shelves.{staged_none}
use Rattle.pv_group.proofs.live.open_live.Goals as goal

pub invariant_of-desk : goal.invariant_of-desk
invariant_of-desk g c =
    let state = ap (λ n. n.state) c.into_parts-state.ensures.parts in (
      rw (← state, c.opening-known.ensures, c.open-told.ensures.total, c.open-failed.ensures.total)
          (ahead_opening g.R.Rules g.N.Run.limits g.N.Run.opening g.D.Reports c.args.node c.requires.stands c.requires.at_rest
          c.requires.limits),
      rw c.opening-known.ensures (staged_none g.R.Rules [] _ c.new.result c.open-taken.ensures.total c.new.ensures),
      rw (c.in_ok-writer.ensures.0, c.in_ok-writer.ensures.1, c.new-2.ensures.items, c.opening-known.ensures) refl,
      search (rules, state, c.requires.limits),
      search rules,
      c.empty-no_told.ensures.parts,
      c.empty-no_told.ensures.amount,
      c.empty-no_failed.ensures.parts,
      c.empty-no_failed.ensures.amount,
    )

-- the passes are new
pub returns-clause-unasked : goal.returns-clause-unasked
returns-clause-unasked g c =
    let new = c.in_ok-all.ensures.passes in (
      ap told_count new ∙ none_told g.row.R-Rec.Denot c.args.passes,
      ap failed_count new ∙ none_failed g.row.R-Rec.Denot c.args.passes,
    )
