use Rattle.std.proofs.Common.{◌≡◌, ◌⊎◌, inr, ℕ, ◌+◌, ◌-◌, List, length, [], ◌∷◌, ◌++◌, refl, sym, ◌∙◌, ap, subst, arith, rules}
use Rattle.std.specs.List.{flat_map, slice_range}
use Rattle.std.specs.Option.{option_map}
use Rattle.pv_outside.specs.Disk.{text_after_write}
use Rattle.pv_journal.specs.Batch.{HasPacked}
use Rattle.pv_journal.specs.Log.{Log, hand_size}
use Rattle.pv_journal.specs.declared.journal.Phase.TheVariants.{Resting, InHand}
use Rattle.pv_journal.specs.Appending.{AreAppended, AreTakenInHand}
use Rattle.pv_journal.specs.Journal.{HasMade, LeavesOnly, Holds, Spends}
use Rattle.pv_journal.specs.Text.{block, bytes_behind, Spells, SpellsEither}
use Rattle.pv_journal.proofs.Counted.{counted_all}
use Rattle.pv_journal.proofs.Packed.{behind_first, packed_size}
use Rattle.pv_journal.proofs.CallerLemmas.{count_within, spends_most, too_few}
use Rattle.pv_journal.proofs.Moments.{only_none}
use Rattle.pv_journal.proofs.journal.Journal.append_all.Goals as goal
use Rattle.pv_journal.proofs.journal.Journal.append_all.Goals.{After-store}
use Rattle.pv_journal.proofs.journal.Journal.append_all.Given.{Over}

-- what was written after the gate
written_bytes : (g : Over) (c : After-store g) (first : List ℕ) (others : List (List ℕ)) → HasPacked c.args.batch.now (first ∷ others)
    → slice_range c.batch.inside.bytes 1 (c.batch.inside.size + 1) ≡ bytes_behind (first ∷ others)
written_bytes g c first others packed_now =
    behind_first _ first others (subst (λ v. HasPacked v (first ∷ others)) (sym c.batch.view_is) packed_now)

-- up to its end a crash leaves the list without the bodies or with all of them
leaves : (g : Over) (c : After-store g) (bodies : List (List ℕ)) (first : List ℕ) (others : List (List ℕ))
    → HasPacked c.args.batch.now (first ∷ others) → Holds g.D.Reports c.args.self.now bodies
    → LeavesOnly g.D.Reports c.args.self.now.disk c.store.new.disk (SpellsEither bodies (first ∷ others))
leaves g c bodies first others packed held_now =
    let held = subst (λ v. Holds g.D.Reports v bodies) (sym c.self.view_is) held_now in
    subst (λ v. LeavesOnly g.D.Reports v.disk c.store.new.disk (SpellsEither bodies (first ∷ others))) c.self.view_is
    (c.store.ensures.moments bodies first others held.counted.gate (written_bytes g c first others packed) packed.sizes held.images)

pub returns-in-Err-clause-moments : goal.returns-in-Err-clause-moments
returns-in-Err-clause-moments g c = leaves g (goal.at.returns-in-Err-clause-moments g c).After-store

pub returns-clause-moments : goal.returns-clause-moments
returns-clause-moments g c = leaves g (goal.at.returns-clause-moments g c).After-store

-- until two calls have succeeded it leaves the list without them
leaves_early : (g : Over) (c : After-store g) (bodies : List (List ℕ)) → Holds g.D.Reports c.args.self.now bodies
    → HasMade g.D.Reports 2 c.args.self.now.disk c.store.new.disk
    ⊎ LeavesOnly g.D.Reports c.args.self.now.disk c.store.new.disk (λ image. Spells image bodies)
leaves_early g c bodies held_now =
    let held = subst (λ v. Holds g.D.Reports v bodies) (sym c.self.view_is) held_now in
    subst (λ v. HasMade g.D.Reports 2 v.disk c.store.new.disk ⊎ LeavesOnly g.D.Reports v.disk c.store.new.disk (λ image. Spells image bodies))
    c.self.view_is (c.store.ensures.early bodies held.counted.gate held.images)

-- a batch for which there is no room leaves the disk as it is
pub returns-then-batch-self-clause-early : goal.returns-then-batch-self-clause-early
returns-then-batch-self-clause-early g c = λ bodies held.
    inr (only_none g.D.Reports g.met.D.Disk.only_now g.met.D.Disk.now_is_known _ _ held.images)

pub returns-in-Err-clause-early : goal.returns-in-Err-clause-early
returns-in-Err-clause-early g c = leaves_early g (goal.at.returns-in-Err-clause-early g c).After-store

pub returns-clause-early : goal.returns-clause-early
returns-clause-early g c = leaves_early g (goal.at.returns-clause-early g c).After-store

pub returns-in-Err-clause-few : goal.returns-in-Err-clause-few
returns-in-Err-clause-few g c =
    λ bodies n held has few. too_few g.D.Reports n has few (leaves_early g (goal.at.returns-in-Err-clause-few g c).After-store bodies held)

pub returns-clause-few : goal.returns-clause-few
returns-clause-few g c =
    λ bodies n held has few. too_few g.D.Reports n has few (leaves_early g (goal.at.returns-clause-few g c).After-store bodies held)

pub returns-in-Err-clause-spends : goal.returns-in-Err-clause-spends
returns-in-Err-clause-spends g c =
    subst (λ v. Spends g.D.Reports 4 _ v.disk c.store.new.disk) c.self.view_is
    (spends_most g.D.Reports (omega arith) (search rules) c.store.ensures.spends)

pub returns-clause-spends : goal.returns-clause-spends
returns-clause-spends g c =
    subst (λ v. Spends g.D.Reports 4 _ v.disk c.store.new.disk) c.self.view_is
    (spends_most g.D.Reports (omega arith) (search rules) c.store.ensures.spends)

pub returns-in-Err-clause-refused : goal.returns-in-Err-clause-refused
returns-in-Err-clause-refused g c = λ first others packed_now.
    let packed = subst (λ v. HasPacked v (first ∷ others)) (sym c.batch.view_is) packed_now in
    let size = packed_size _ first others packed in
    let bytes = written_bytes g (goal.at.returns-in-Err-clause-refused g c).After-store first others packed_now in
    let within = count_within c.self.inside.phase _ _ c.self.invariant.counted in
    let inside = c.self.inside in
    let old : Log g.row.D.Denot =
    record { disk = inside.disk; limit = inside.limit; count = inside.count; gate = inside.gate; phase = inside.phase } in
    let new : Log g.row.D.Denot = record old { disk = c.store.new.disk; phase = InHand (c.batch.inside.size - 3) c.batch.inside.count } in
    let in_hand : new.phase ≡ InHand (hand_size (first ∷ others)) (length (first ∷ others)) =
    (λ i. InHand ((let e : c.batch.inside.size - 3 ≡ hand_size (first ∷ others) = omega (arith, size) in e) i) (packed.count i)) in
    let taken : AreTakenInHand g.D.Reports old new (first ∷ others) = record {
      room = omega (arith, within, packed.count);
      same_count = refl;
      in_hand = in_hand;
      holds = λ bodies held. record {
        phase = in_hand;
        counted = record { count = held.counted.count; gate = held.counted.gate; sizes = held.counted.sizes };
        sizes = packed.sizes;
        images = (c.store.ensures.moments bodies first others held.counted.gate bytes packed.sizes held.images).now;
      };
    } in
    subst (λ v. AreTakenInHand g.D.Reports v new (first ∷ others)) c.self.view_is taken

pub returns-clause-appended : goal.returns-clause-appended
returns-clause-appended g c = λ first others packed_now.
    let packed = subst (λ v. HasPacked v (first ∷ others)) (sym c.batch.view_is) packed_now in
    let size = packed_size _ first others packed in
    let bytes = written_bytes g (goal.at.returns-clause-appended g c).After-store first others packed_now in
    let within = count_within c.self.inside.phase _ _ c.self.invariant.counted in
    let inside = c.self.inside in
    let old : Log g.row.D.Denot =
    record { disk = inside.disk; limit = inside.limit; count = inside.count; gate = inside.gate; phase = inside.phase } in
    let pack = c.batch.inside in
    let new : Log g.row.D.Denot =
    record old { disk = c.store.new.disk; count = inside.count + pack.count; gate = inside.gate + pack.size; phase = Resting } in
    let appended : AreAppended g.D.Reports old new (first ∷ others) c.self.inside.count = record {
      at_end = refl;
      room = omega (arith, within, packed.count);
      more = ap (λ (n : ℕ). c.self.inside.count + n) packed.count;
      at_rest = refl;
      stored = λ bodies held. record {
        phase = refl;
        counted =
            counted_all g.D.Reports old new bodies first others held.counted packed.sizes
            (ap (λ (n : ℕ). c.self.inside.count + n) packed.count) (omega (arith, size));
        images = c.in_default.ensures.stored bodies first others held.counted.gate bytes packed.sizes held.images;
        synced = c.in_default.ensures.synced;
      };
      written =
          λ bodies held. c.in_default.ensures.written
          ∙ ap (λ (l : List ℕ). option_map (text_after_write c.self.inside.gate (1 ∷ l)) (g.D.Reports.reads c.self.inside.disk)) bytes
          ∙ ap (λ (n : ℕ). option_map (text_after_write n (flat_map block (first ∷ others) ++ 0 ∷ [])) (g.D.Reports.reads c.self.inside.disk))
          held.counted.gate;
    } in
    subst (λ v. AreAppended g.D.Reports v new (first ∷ others) c.self.inside.count) c.self.view_is appended
