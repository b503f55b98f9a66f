use Rattle.std.proofs.Common.{◌⊎◌, inr, ℕ, ◌+◌, ◌<◌, List, length, [], ◌∷◌, ◌++◌, refl, sym, ◌∙◌, ap, subst, arith, rules}
use Rattle.std.specs.Option.{option_map}
use Rattle.pv_outside.specs.Disk.{text_after_write}
use Rattle.pv_journal.specs.Log.{Log}
use Rattle.pv_journal.specs.declared.journal.Phase.TheVariants.{Resting, InHand}
use Rattle.pv_journal.specs.Appending.{IsAppended, IsTakenInHand}
use Rattle.pv_journal.specs.Journal.{HasLeft, HasMade, LeavesOnly, Holds, Spends}
use Rattle.pv_journal.specs.Text.{block, Spells, SpellsEither}
use Rattle.pv_journal.proofs.Counted.{counted_more, one_sized}
use Rattle.pv_journal.proofs.Crash.{one_behind}
use Rattle.pv_journal.proofs.CallerLemmas.{count_within, spends_most, too_few}
use Rattle.pv_journal.proofs.Moments.{only_none}
use Rattle.pv_journal.proofs.journal.Journal.append.Goals as goal
use Rattle.pv_journal.proofs.journal.Journal.append.Goals.{After-store}
use Rattle.pv_journal.proofs.journal.Journal.append.Given.{Over}

pub returns-clause-appended : goal.returns-clause-appended
returns-clause-appended g c =
    let within = count_within c.self.inside.phase _ _ c.self.invariant.counted in
    let room : c.self.inside.count < c.self.inside.limit = omega (arith, within) in
    let inside = c.self.inside in
    let old : Log g.row.D.Denot =
    record { disk = inside.disk; limit = inside.limit; count = inside.count; gate = inside.gate; phase = inside.phase } in
    let new : Log g.row.D.Denot =
    record old { disk = c.store.new.disk; count = inside.count + 1; gate = inside.gate + (length c.args.body.now + 3); phase = Resting } in
    let appended : IsAppended g.D.Reports old new c.args.body.now c.self.inside.count = record {
      at_end = refl;
      room = room;
      one_more = refl;
      at_rest = refl;
      stored = λ bodies held. record {
        phase = refl;
        counted = counted_more g.D.Reports old new bodies c.args.body.now held.counted c.requires.size refl (omega arith);
        images =
            c.in_default.ensures.stored bodies c.args.body.now [] held.counted.gate
            (c.spell-length.ensures.bytes ∙ sym (one_behind c.args.body.now)) (one_sized c.args.body.now c.requires.size) held.images;
        synced = c.in_default.ensures.synced;
      };
      written =
          λ bodies held. c.in_default.ensures.written
          ∙ ap (λ (l : List ℕ). option_map (text_after_write c.self.inside.gate (1 ∷ l)) (g.D.Reports.reads c.self.inside.disk))
          c.spell-length.ensures.bytes
          ∙ ap (λ (n : ℕ). option_map (text_after_write n (block c.args.body.now ++ 0 ∷ [])) (g.D.Reports.reads c.self.inside.disk))
          held.counted.gate;
    } in
    subst (λ v. IsAppended g.D.Reports v new c.args.body.now c.self.inside.count) c.self.view_is appended

pub returns-in-Err-clause-spends : goal.returns-in-Err-clause-spends
returns-in-Err-clause-spends g c =
    subst (λ v. Spends g.D.Reports 4 _ v.disk c.store.new.disk) c.self.view_is
    (spends_most g.D.Reports (omega arith) (search rules) c.store.ensures.spends)

pub returns-clause-spends : goal.returns-clause-spends
returns-clause-spends g c =
    subst (λ v. Spends g.D.Reports 4 _ v.disk c.store.new.disk) c.self.view_is
    (spends_most g.D.Reports (omega arith) (search rules) c.store.ensures.spends)

-- a full journal leaves the disk as it is
pub returns-then-place-self-clause-early : goal.returns-then-place-self-clause-early
returns-then-place-self-clause-early g c = λ bodies held.
    inr (only_none g.D.Reports g.met.D.Disk.only_now g.met.D.Disk.now_is_known _ _ held.images)

pub returns-in-Err-clause-early : goal.returns-in-Err-clause-early
returns-in-Err-clause-early g c = λ bodies held_now.
    let held = subst (λ v. Holds g.D.Reports v bodies) (sym c.self.view_is) held_now in
    subst (λ v. HasMade g.D.Reports 2 v.disk c.store.new.disk ⊎ LeavesOnly g.D.Reports v.disk c.store.new.disk (λ image. Spells image bodies))
    c.self.view_is (c.store.ensures.early bodies held.counted.gate held.images)

pub returns-clause-early : goal.returns-clause-early
returns-clause-early g c = λ bodies held_now.
    let held = subst (λ v. Holds g.D.Reports v bodies) (sym c.self.view_is) held_now in
    subst (λ v. HasMade g.D.Reports 2 v.disk c.store.new.disk ⊎ LeavesOnly g.D.Reports v.disk c.store.new.disk (λ image. Spells image bodies))
    c.self.view_is (c.store.ensures.early bodies held.counted.gate held.images)

pub returns-in-Err-clause-few : goal.returns-in-Err-clause-few
returns-in-Err-clause-few g c = λ bodies n held_now has few.
    let held = subst (λ v. Holds g.D.Reports v bodies) (sym c.self.view_is) held_now in
    let left = subst (λ v. HasLeft n (g.D.Reports.budget v.disk)) (sym c.self.view_is) has in
    subst (λ v. LeavesOnly g.D.Reports v.disk c.store.new.disk (λ image. Spells image bodies)) c.self.view_is (too_few g.D.Reports n left few (c.store.ensures.early bodies held.counted.gate held.images))

pub returns-clause-few : goal.returns-clause-few
returns-clause-few g c = λ bodies n held_now has few.
    let held = subst (λ v. Holds g.D.Reports v bodies) (sym c.self.view_is) held_now in
    let left = subst (λ v. HasLeft n (g.D.Reports.budget v.disk)) (sym c.self.view_is) has in
    subst (λ v. LeavesOnly g.D.Reports v.disk c.store.new.disk (λ image. Spells image bodies)) c.self.view_is (too_few g.D.Reports n left few (c.store.ensures.early bodies held.counted.gate held.images))

-- up to its end a crash leaves the list without the body or with it
leaves : (g : Over) (c : After-store g) (bodies : List (List ℕ)) → Holds g.D.Reports c.args.self.now bodies
    → LeavesOnly g.D.Reports c.args.self.now.disk c.store.new.disk (SpellsEither bodies (c.args.body.now ∷ []))
leaves g c bodies held_now =
    let held = subst (λ v. Holds g.D.Reports v bodies) (sym c.self.view_is) held_now in
    subst (λ v. LeavesOnly g.D.Reports v.disk c.store.new.disk (SpellsEither bodies (c.args.body.now ∷ []))) c.self.view_is
    (c.store.ensures.moments bodies c.args.body.now [] held.counted.gate (c.spell-length.ensures.bytes ∙ sym (one_behind c.args.body.now)) (one_sized c.args.body.now c.requires.size) held.images)

pub returns-in-Err-clause-moments : goal.returns-in-Err-clause-moments
returns-in-Err-clause-moments g c = leaves g (goal.at.returns-in-Err-clause-moments g c).After-store

pub returns-clause-moments : goal.returns-clause-moments
returns-clause-moments g c = leaves g (goal.at.returns-clause-moments g c).After-store

pub returns-in-Err-clause-refused : goal.returns-in-Err-clause-refused
returns-in-Err-clause-refused g c =
    let within = count_within c.self.inside.phase _ _ c.self.invariant.counted in
    let room : c.self.inside.count < c.self.inside.limit = omega (arith, within) in
    let inside = c.self.inside in
    let old : Log g.row.D.Denot =
    record { disk = inside.disk; limit = inside.limit; count = inside.count; gate = inside.gate; phase = inside.phase } in
    let new : Log g.row.D.Denot = record old { disk = c.store.new.disk; phase = InHand (length c.args.body.now) 1 } in
    let taken : IsTakenInHand g.D.Reports old new c.args.body.now = record {
      room = room;
      same_count = refl;
      hand = refl;
      holds = λ bodies held. record {
        phase = refl;
        counted = record { count = held.counted.count; gate = held.counted.gate; sizes = held.counted.sizes };
        sizes = one_sized c.args.body.now c.requires.size;
        images =
            (c.store.ensures.moments bodies c.args.body.now [] held.counted.gate (c.spell-length.ensures.bytes ∙ sym (one_behind c.args.body.now)) (one_sized c.args.body.now c.requires.size) held.images).now;
      };
    } in
    subst (λ v. IsTakenInHand g.D.Reports v new c.args.body.now) c.self.view_is taken
