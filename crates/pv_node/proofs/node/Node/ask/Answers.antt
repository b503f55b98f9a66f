use Rattle.std.proofs.Common.{rules, inl, inr, ◌∙◌, ap, subst}
use Rattle.pv_node.specs.Asking.{CarriesOut, AskLeaves, to_store, records_with}
use Rattle.pv_node.specs.Standing.{StandsEither}
use Rattle.pv_journal.proofs.Moments.{only_weaker, only_then}
use Rattle.pv_node.proofs.Spending.{few_calls, spends_settled, never_fails, stands_then}
use Rattle.pv_node.proofs.node.Node.ask.Goals as goal

pub returns-in-Ok-clause-asked : goal.returns-in-Ok-clause-asked
returns-in-Ok-clause-asked g c =
    let judged = c.decide-decision.ensures ∙ ap (λ v. g.R.Rules.judgement v.state c.args.request.now) c.self.view_is in
    inr (
      c.settle.new.self,
      c.in-Ok.field-0,
      c.in-Ok.ensures.settled,
      subst (λ decision. CarriesOut g.R.Rules g.D.Reports decision c.settle.new.self c.carry_out.new.self c.carry_out.result) judged c.carry_out.ensures.carried_out,
    )

pub returns-in-Ok-clause-spends : goal.returns-in-Ok-clause-spends
returns-in-Ok-clause-spends g c =
    spends_settled g.R.Rules g.D.Reports _ c.settle.new.self _ c.in-Ok.field-0 _ c.in-Ok.ensures.settled c.settle.ensures.reads_only c.carry_out.ensures.spends

pub returns-in-Ok-clause-never_fails : goal.returns-in-Ok-clause-never_fails
returns-in-Ok-clause-never_fails g c =
    never_fails g.R.Rules g.D.Reports _ c.settle.new.self _ c.in-Ok.field-0 _ c.in-Ok.ensures.settled c.settle.ensures.reads_only c.settle.ensures.limits c.carry_out.ensures.spends

pub returns-in-Err-clause-never_fails : goal.returns-in-Err-clause-never_fails
returns-in-Err-clause-never_fails g c = λ records stands endless is.
    c.settle.ensures.reads_only.passes _ endless (search rules)

pub returns-in-Ok-clause-moments : goal.returns-in-Ok-clause-moments
returns-in-Ok-clause-moments g c = λ records stands.
    let judged = c.decide-decision.ensures ∙ ap (λ v. g.R.Rules.judgement v.state c.args.request.now) c.self.view_is in
    let settling = only_weaker g.D.Reports {old = c.args.self.now.journal.disk} {new = c.settle.new.self.journal.disk} {P = StandsEither g.R.Rules records c.args.self.now.hand} {Q = AskLeaves g.R.Rules g.D.Reports c.args.request.now c.args.self.now records} (λ told image either. inl either) (c.settle.ensures.moments records stands) in
    let carried = only_weaker g.D.Reports {old = c.settle.new.self.journal.disk} {new = c.carry_out.new.self.journal.disk} {Q = AskLeaves g.R.Rules g.D.Reports c.args.request.now c.args.self.now records} (λ told image either. inr (c.settle.new.self, c.in-Ok.field-0, c.in-Ok.ensures.settled, subst (λ decision. StandsEither g.R.Rules (records_with records c.in-Ok.field-0) (to_store decision) image) judged either))
    (c.carry_out.ensures.moments (records_with records c.in-Ok.field-0) (stands_then g.R.Rules g.D.Reports c.args.self.now c.settle.new.self c.in-Ok.field-0 c.in-Ok.ensures.settled records stands)) in
    only_then g.D.Reports {first = c.args.self.now.journal.disk} {second = c.settle.new.self.journal.disk} {third = c.carry_out.new.self.journal.disk} settling carried.time carried.now

pub returns-in-Err-clause-moments : goal.returns-in-Err-clause-moments
returns-in-Err-clause-moments g c =
    λ records stands. only_weaker g.D.Reports (λ told image either. inl either) (c.settle.ensures.moments records stands)

pub returns-in-Ok-clause-few : goal.returns-in-Ok-clause-few
returns-in-Ok-clause-few g c =
    few_calls g.R.Rules g.D.Reports _ c.settle.new.self _ c.in-Ok.field-0 _ c.in-Ok.ensures.settled c.in-Ok.ensures.both_calls c.carry_out.ensures.spends
