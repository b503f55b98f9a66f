use Rattle.std.proofs.Common.{Option, inr, subst}
use Rattle.pv_journal.specs.Journal.{EachImage}
use Rattle.pv_journal.proofs.CallerLemmas.{spends_none}
use Rattle.pv_journal.proofs.Moments.{only_none}
use Rattle.pv_node.specs.Standing.{StandsEither}
use Rattle.pv_node.proofs.node.Node.carry_out.Goals as goal

pub returns-in-Answer-clause-spends : goal.returns-in-Answer-clause-spends
returns-in-Answer-clause-spends g c = record {
  spends = spends_none g.D.Reports _ (λ fails. fails);
  passes = λ none records stands has fails. fails;
  early = λ none records stands. inr (only_none g.D.Reports g.met.D.Disk.only_now g.met.D.Disk.now_is_known _ _
      (subst (λ (hand : Option g.row.R-Rec.Denot). EachImage g.D.Reports c.args.self.now.journal.disk (StandsEither g.R.Rules records hand)) none stands.images));
}
