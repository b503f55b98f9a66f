use Rattle.std.proofs.Common.{◌≡◌, ℕ, ◌<◌, List, [], ◌∷◌, ◌++◌, map, Option, None, Some, Result, Ok, Err, inl, inr, refl, sym, ◌∙◌, ap, subst, arith, rules}
use Rattle.pv_outside.specs.Disk.{HasCalls}
use Rattle.pv_journal.specs.Journal.{LeavesOnly, HasMade, Holds, HoldsInHand}
use Rattle.pv_journal.specs.Log.{longest}
use Rattle.pv_journal.specs.Faults.{FailsOnDisk as AppendFails}
use Rattle.pv_journal.proofs.CallerLemmas.{spends_most}
use Rattle.pv_journal.specs.Text.{SpellsEither}
use Rattle.pv_journal.proofs.Moments.{only_weaker}
use Rattle.pv_node.specs.declared.fault.AskFault.{AskFault}
use Rattle.pv_node.specs.declared.fault.AskFault.TheVariants.{Disk, Full}
use Rattle.pv_node.specs.Asking.{AskFailsOnDisk, SpendsOnAsk}
use Rattle.pv_node.specs.Parts.{Parts}
use Rattle.pv_node.specs.Standing.{StandsEither, StandsFor}
use Rattle.pv_node.proofs.Standing.{either, gained, holds_at_rest, only_stand, taken}
use Rattle.pv_node.proofs.node.Node.store.Given.{Over}
use Rattle.pv_node.proofs.node.Node.store.Goals as goal
use Rattle.pv_node.proofs.node.Node.store.Goals.{After-append}

-- the node before the call, as contracts see it
seen : (g : Over) → After-append g → Parts g.row.D.Denot g.row.R-State.Denot g.row.R-Rec.Denot
seen g c = record { journal = c.self.inside.journal; state = c.self.inside.state; hand = c.self.inside.hand }

-- what the append takes of the disk, whatever the node keeps of it and returns
spent : (g : Over) (c : After-append g) (state : g.row.R-State.Denot) (hand : Option g.row.R-Rec.Denot) (result : Result ℕ (AskFault g.row.D.Denot g.row.D-Failure.Denot))
    → (AskFailsOnDisk result → AppendFails c.append.result)
    → ((bodies : List (List ℕ)) → Holds g.D.Reports c.self.inside.journal bodies → HasCalls 4 (longest c.self.inside.journal.limit) (g.D.Reports.budget c.self.inside.journal.disk) → AskFailsOnDisk result → ⊥)
    → SpendsOnAsk g.R.Rules g.D.Reports 4 c.args.self.now (record { journal = c.append.new.self; state = state; hand = hand }) result
unfolding seen
spent g c state hand result fails passes =
    let none : c.self.inside.hand ≡ None = ap (λ v. v.hand) c.self.view_is ∙ c.requires.at_rest in
    subst (λ v. SpendsOnAsk g.R.Rules g.D.Reports 4 v (record {
      journal = c.append.new.self;
      state = state;
      hand = hand;
    }) result) c.self.view_is
    (let spends : SpendsOnAsk g.R.Rules g.D.Reports 4 (seen g c) (record {
      journal = c.append.new.self;
      state = state;
      hand = hand;
    }) result = record {
      spends = spends_most g.D.Reports (omega arith) fails c.append.ensures.spends;
      passes =
          λ _ records stands has. passes (map g.R.Rules.spelling records)
          (holds_at_rest g.R.Rules g.D.Reports (seen g c) records stands none)
          (subst (λ (n : ℕ). HasCalls 4 (longest n) (g.D.Reports.budget c.self.inside.journal.disk)) (sym c.self.invariant.limit) has);
      early = λ _ records stands.
          elim (c.append.ensures.early (map g.R.Rules.spelling records) (holds_at_rest g.R.Rules g.D.Reports (seen g c) records stands none)) [
            | inl made ↦ inl made
            | inr leaves ↦ inr (only_stand g.R.Rules g.D.Reports records stands.each leaves)
          ];
    } in spends)

-- what a crash at some moment of the append leaves, stands for the records, with the new one or without it
moments : (g : Over) (c : After-append g) (records : List g.row.R-Rec.Denot) → StandsFor g.R.Rules g.D.Reports c.args.self.now records
    → LeavesOnly g.D.Reports c.args.self.now.journal.disk c.append.new.self.disk (StandsEither g.R.Rules records (Some c.args.rec.now))
unfolding seen
moments g c records stands_now =
    let none : c.self.inside.hand ≡ None = ap (λ v. v.hand) c.self.view_is ∙ c.requires.at_rest in
    let stands = subst (λ v. StandsFor g.R.Rules g.D.Reports v records) (sym c.self.view_is) stands_now in
    let only = c.append.ensures.moments (map g.R.Rules.spelling records) (holds_at_rest g.R.Rules g.D.Reports (seen g c) records stands none) in
    subst (λ v. LeavesOnly g.D.Reports v.journal.disk c.append.new.self.disk (StandsEither g.R.Rules records (Some c.args.rec.now))) c.self.view_is
    (only_weaker g.D.Reports (λ told. either g.R.Rules g.D.Reports records c.args.rec.now stands.each c.requires.spelled)
    (subst (λ (b : List ℕ). LeavesOnly g.D.Reports c.self.inside.journal.disk c.append.new.self.disk (SpellsEither (map g.R.Rules.spelling records) (b ∷ []))) c.spell-size.ensures.spelled only))

pub returns-in-Ok-clause-moments : goal.returns-in-Ok-clause-moments
returns-in-Ok-clause-moments g c = moments g (goal.at.returns-in-Ok-clause-moments g c).After-append

pub returns-in-Err-Disk-clause-moments : goal.returns-in-Err-Disk-clause-moments
returns-in-Err-Disk-clause-moments g c = moments g (goal.at.returns-in-Err-Disk-clause-moments g c).After-append

pub returns-in-Ok-clause-stored : goal.returns-in-Ok-clause-stored
returns-in-Ok-clause-stored g c =
    let appended = c.in-Ok.ensures.appended in
    let none : c.self.inside.hand ≡ None = ap (λ v. v.hand) c.self.view_is ∙ c.requires.at_rest in
    let absorbed : c.absorb.new.state ≡ g.R.Rules.after c.self.inside.state c.args.rec.now c.self.inside.journal.count =
    subst (λ (place : ℕ). c.absorb.new.state ≡ g.R.Rules.after c.self.inside.state c.args.rec.now place) appended.at_end c.absorb.ensures in
    let room : c.self.inside.journal.count < (g.R.Rules.limits_of c.self.inside.state).records = omega (arith, appended.room, c.self.invariant.limit) in
    record {
      room = subst (λ v. v.journal.count < (g.R.Rules.limits_of v.state).records) c.self.view_is room;
      hand = none;
      made = subst (λ v. HasMade g.D.Reports 4 v.journal.disk c.append.new.self.disk) c.self.view_is c.in-Ok.ensures.all_four;
      state = subst (λ v. c.absorb.new.state ≡ g.R.Rules.after v.state c.args.rec.now v.journal.count) c.self.view_is absorbed;
      records = λ records stands_now.
          let stands = subst (λ v. StandsFor g.R.Rules g.D.Reports v records) (sym c.self.view_is) stands_now in
          let holds = appended.stored (map g.R.Rules.spelling records) (holds_at_rest g.R.Rules g.D.Reports _ records stands none) in
          gained g.R.Rules g.D.Reports g.met.R.Rules.grows g.met.R.Rules.same_room g.met.R.Rules.limits_stay _ c.append.new.self c.absorb.new.state c.self.inside.hand c.args.rec.now records none stands
          (subst (λ (b : List ℕ). Holds g.D.Reports c.append.new.self (map g.R.Rules.spelling records ++ b ∷ [])) c.spell-size.ensures.spelled holds)
          c.requires.spelled (subst (λ v. g.R.Rules.fits v.state c.args.rec.now) (sym c.self.view_is) c.requires.room) absorbed room;
    }

pub returns-in-Err-Disk-clause-refused : goal.returns-in-Err-Disk-clause-refused
returns-in-Err-Disk-clause-refused g c =
    let none : c.self.inside.hand ≡ None = ap (λ v. v.hand) c.self.view_is ∙ c.requires.at_rest in
    let at = rw c.in-Err-Disk.field-0-is at c.in-Err-Disk.ensures in
    let room : c.self.inside.journal.count < (g.R.Rules.limits_of c.self.inside.state).records = omega (arith, at.refused.room, c.self.invariant.limit) in
    record {
      room = subst (λ v. v.journal.count < (g.R.Rules.limits_of v.state).records) c.self.view_is room;
      hand = refl;
      state = ap (λ v. v.state) c.self.view_is;
      count = at.refused.same_count ∙ ap (λ v. v.journal.count) c.self.view_is;
      records = λ records stands_now.
          let stands = subst (λ v. StandsFor g.R.Rules g.D.Reports v records) (sym c.self.view_is) stands_now in
          let holds = at.refused.holds (map g.R.Rules.spelling records) (holds_at_rest g.R.Rules g.D.Reports _ records stands none) in
          taken g.R.Rules g.D.Reports g.met.R.Rules.same_room _ c.append.new.self c.args.rec.now records stands
          (subst (λ (b : List ℕ). HoldsInHand g.D.Reports c.append.new.self (map g.R.Rules.spelling records) (b ∷ [])) c.spell-size.ensures.spelled holds)
          c.requires.spelled (subst (λ v. g.R.Rules.fits v.state c.args.rec.now) (sym c.self.view_is) c.requires.room) room;
    }

pub returns-in-Ok-clause-spends : goal.returns-in-Ok-clause-spends
returns-in-Ok-clause-spends g c =
    spent g (goal.at.returns-in-Ok-clause-spends g c).After-append c.absorb.new.state c.self.inside.hand (Ok c.in-Ok.number) (λ fails. absurd fails) (λ bodies holds has fails. fails)

pub returns-in-Err-Full-clause-spends : goal.returns-in-Err-Full-clause-spends
returns-in-Err-Full-clause-spends g c =
    spent g (goal.at.returns-in-Err-Full-clause-spends g c).After-append c.self.inside.state c.self.inside.hand (Err (Full c.in-Err-Full.count)) (λ fails. absurd fails) (λ bodies holds has fails. fails)

pub returns-in-Err-Disk-clause-spends : goal.returns-in-Err-Disk-clause-spends
returns-in-Err-Disk-clause-spends g c =
    let at = rw c.in-Err-Disk.field-0-is at c.in-Err-Disk.ensures in
    spent g (goal.at.returns-in-Err-Disk-clause-spends g c).After-append c.self.inside.state (Some c.args.rec.now) (Err (Disk c.in-Err-Disk.failure)) (search rules) (λ bodies holds has fails. at.passes bodies holds has tt)
