use Rattle.std.proofs.Common.{rules, ◌≡◌, Option, Some, None, refl, sym, ◌∙◌, subst}
use Rattle.pv_journal.proofs.CallerLemmas.{reads_none}
use Rattle.pv_node.specs.Parts.{Parts, IsInStep}
use Rattle.std.proofs.lemmas.Option.{none-some}
use Rattle.pv_node.specs.Asking.{IsUnsettled, IsNotStored}
use Rattle.pv_node.proofs.Standing.{still, holds_in_hand, stands_at_rest, meets_alone}
use Rattle.pv_node.proofs.node.Node.settle.Goals as goal

pub returns-in_default-clause-reads_only : goal.returns-in_default-clause-reads_only
returns-in_default-clause-reads_only g c = reads_none g.D.Reports _ (search rules)

-- a failure of the disk leaves the record in hand
pub returns-in_err-stored-clause-unsettled : goal.returns-in_err-stored-clause-unsettled
returns-in_err-stored-clause-unsettled g c =
    let was : c.self.inside.hand ≡ Some c.in-Some.rec = c.in-Some.is in
    let step = subst (λ (h : Option g.row.R-Rec.Denot). IsInStep g.R.Rules c.self.inside.state h c.self.inside.journal) was c.self.invariant.hand in
    let old : Parts g.row.D.Denot g.row.R-State.Denot g.row.R-Rec.Denot = record { journal = c.self.inside.journal; state = c.self.inside.state; hand = c.self.inside.hand } in
    let unsettled : IsUnsettled g.R.Rules g.D.Reports old (record old { journal = c.settle.new.self }) = record {
      was = λ none. none-some c.in-Some.rec (sym none ∙ was);
      hand = refl;
      state = refl;
      journal = search rules;
      records = λ records stands. still g.R.Rules g.D.Reports old c.settle.new.self c.in-Some.rec records was stands (search rules)
          (search rules) step.1;
    } in
    let now = subst (λ v. IsUnsettled g.R.Rules g.D.Reports v (record old { journal = c.settle.new.self })) c.self.view_is unsettled in
    search rules

-- if it is not stored, the node stands for what it stood for, and nothing is in hand
pub returns-in-Some-false-clause-settled : goal.returns-in-Some-false-clause-settled
returns-in-Some-false-clause-settled g c =
    let was : c.self.inside.hand ≡ Some c.in-Some.rec = c.in-Some.is in
    let old : Parts g.row.D.Denot g.row.R-State.Denot g.row.R-Rec.Denot = record { journal = c.self.inside.journal; state = c.self.inside.state; hand = c.self.inside.hand } in
    let new : Parts g.row.D.Denot g.row.R-State.Denot g.row.R-Rec.Denot = record { journal = c.settle.new.self; state = c.self.inside.state; hand = None } in
    let dropped : IsNotStored g.R.Rules g.D.Reports old new = record {
      hand = refl;
      state = refl;
      count = search rules;
      records = λ records stands. stands_at_rest g.R.Rules g.D.Reports c.settle.new.self c.self.inside.state records
          (c.settle.ensures.dropped (search rules) _ _ _ (holds_in_hand g.R.Rules g.D.Reports old records c.in-Some.rec stands was))
          stands.each (meets_alone g.R.Rules g.D.Reports _ records _ stands.meets) stands.state;
      same = λ none. absurd (none-some c.in-Some.rec (sym none ∙ was));
    } in
    subst (λ v. IsNotStored g.R.Rules g.D.Reports v new) c.self.view_is dropped
