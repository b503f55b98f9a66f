use Rattle.std.proofs.Common.{◌≡◌, ℕ, List, ◌∷◌, IsErr, refl, sym, subst, arith, length, rules}
use Rattle.pv_journal.specs.Log.{hand_size}
use Rattle.pv_journal.specs.Journal.{EachImage, LeavesOnly, HasMade, HoldsInHand, ReadsOnly}
use Rattle.pv_journal.specs.Text.{Spells, SpellsEither}
use Rattle.pv_journal.proofs.Calls.{reads_once, made_call}
use Rattle.pv_journal.proofs.CallerLemmas.{reads_none, reads_most, reads_then, made_then}
use Rattle.pv_journal.proofs.Moments.{only_none, only_remains}
use Rattle.pv_journal.proofs.Counted.{counted_all}
use Rattle.pv_journal.proofs.Images.{text_of_each}
use Rattle.pv_journal.proofs.Settle.{found_stored, found_dropped}
use Rattle.pv_journal.proofs.journal.Journal.settle.Given.{Over}
use Rattle.pv_journal.proofs.journal.Journal.settle.Goals as goal
use Rattle.pv_journal.proofs.journal.Journal.settle.Goals.{After-sync, After-read, In_ok-read, Then-gate-ne1}

-- what the sync, and the look at the gate after it, did
reads_sync : (g : Over) (c : After-sync g) → ReadsOnly g.D.Reports 1 (IsErr c.sync.result) c.args.self.now.disk c.sync.new.self
reads_sync g c =
    subst (λ v. ReadsOnly g.D.Reports 1 (IsErr c.sync.result) v.disk c.sync.new.self) c.self.view_is
    (reads_once g.D.Reports (λ b. (refl, refl)) _ _ _ c.sync.ensures.keeps)

reads_both : (g : Over) (c : After-read g) → ReadsOnly g.D.Reports 2 (IsErr c.read.result) c.args.self.now.disk c.read.new.self
reads_both g c =
    reads_then g.D.Reports (reads_sync g (goal.at.After-read g c).After-sync)
    (reads_once g.D.Reports (λ b. (refl, refl)) _ _ _ c.read.ensures.keeps)

pub returns-in_default-clause-reads_only : goal.returns-in_default-clause-reads_only
returns-in_default-clause-reads_only g c = reads_none g.D.Reports _ (search rules)

pub returns-then-gate-ne1-clause-reads_only : goal.returns-then-gate-ne1-clause-reads_only
returns-then-gate-ne1-clause-reads_only g c =
    reads_most g.D.Reports (omega arith) (search rules) (reads_both g (goal.at.returns-then-gate-ne1-clause-reads_only g c).After-read)

pub returns-clause-reads_only : goal.returns-clause-reads_only
returns-clause-reads_only g c =
    reads_most g.D.Reports (omega arith) (search rules) (reads_both g (goal.at.returns-clause-reads_only g c).After-read)

-- the sync and the look at the gate were made
made_both : (g : Over) (c : In_ok-read g) → HasMade g.D.Reports 2 c.args.self.now.disk c.read.new.self
made_both g c =
    subst (λ v. HasMade g.D.Reports 2 v.disk c.read.new.self) c.self.view_is
    (made_then g.D.Reports (made_call g.D.Reports (λ b. (refl, refl)) _ _ _ c.sync.ensures.keeps.call (search rules))
    (made_call g.D.Reports (λ b. (refl, refl)) _ _ _ c.read.ensures.keeps.call (search rules)))

pub returns-then-gate-ne1-clause-both_calls : goal.returns-then-gate-ne1-clause-both_calls
returns-then-gate-ne1-clause-both_calls g c = λ _. made_both g (goal.at.returns-then-gate-ne1-clause-both_calls g c).In_ok-read

pub returns-clause-both_calls : goal.returns-clause-both_calls
returns-clause-both_calls g c = λ _. made_both g (goal.at.returns-clause-both_calls g c).In_ok-read

-- a crash leaves what it might have left, over calls that write nothing
moments : (g : Over) (c : After-read g) (bodies hand : List (List ℕ)) → HoldsInHand g.D.Reports c.args.self.now bodies hand
    → LeavesOnly g.D.Reports c.args.self.now.disk c.read.new.self (SpellsEither bodies hand)
moments g c bodies hand held =
    only_remains g.D.Reports (only_none g.D.Reports g.met.D.Disk.only_now g.met.D.Disk.now_is_known _ _ held.images) (reads_both g c).same

pub returns-in_err-read-clause-moments : goal.returns-in_err-read-clause-moments
returns-in_err-read-clause-moments g c = moments g (goal.at.returns-in_err-read-clause-moments g c).After-read

pub returns-then-gate-ne1-clause-moments : goal.returns-then-gate-ne1-clause-moments
returns-then-gate-ne1-clause-moments g c = moments g (goal.at.returns-then-gate-ne1-clause-moments g c).After-read

pub returns-clause-moments : goal.returns-clause-moments
returns-clause-moments g c = moments g (goal.at.returns-clause-moments g c).After-read

pub returns-clause-stored : goal.returns-clause-stored
returns-clause-stored g c = λ same bodies first others held_now.
    let held = subst (λ v. HoldsInHand g.D.Reports v bodies (first ∷ others)) (sym c.self.view_is) held_now in
    let size : c.in-InHand.size ≡ hand_size (first ∷ others) = cc in
    let many : c.in-InHand.bodies ≡ length (first ∷ others) = cc in
    record {
      phase = refl;
      counted = counted_all g.D.Reports _ _ bodies first others held.counted held.sizes (omega (arith, many)) (omega (arith, size));
      images =
          found_stored g.D.Reports g.met.D.Disk.reads_is_left _ _ _ c.self.inside.gate _ bodies first others held.counted.gate held.images
          c.sync.ensures.keeps.reads c.sync.ensures.keeps.images c.in_ok-sync.ensures.durable
          c.in_ok-read.ensures.bytes c.read.ensures.keeps.reads c.read.ensures.keeps.images c.if-gate-ne1.false;
      synced = search rules;
    }

-- if the gate that was read is closed, each image spells the list without the bodies in hand
each_dropped : (g : Over) (c : Then-gate-ne1 g) (bodies : List (List ℕ)) (first : List ℕ) (others : List (List ℕ))
    → HoldsInHand g.D.Reports c.args.self.now bodies (first ∷ others) → EachImage g.D.Reports c.read.new.self (λ image. Spells image bodies)
each_dropped g c bodies first others held_now =
    let held = subst (λ v. HoldsInHand g.D.Reports v bodies (first ∷ others)) (sym c.self.view_is) held_now in
    found_dropped g.D.Reports g.met.D.Disk.reads_is_left _ _ _ c.self.inside.gate _ bodies first others held.counted.gate held.images
    c.sync.ensures.keeps.reads c.sync.ensures.keeps.images c.in_ok-sync.ensures.durable
    c.in_ok-read.ensures.bytes c.read.ensures.keeps.reads c.read.ensures.keeps.images c.if-gate-ne1.true

pub returns-then-gate-ne1-clause-reads_dropped : goal.returns-then-gate-ne1-clause-reads_dropped
returns-then-gate-ne1-clause-reads_dropped g c = λ same bodies first others held.
    text_of_each g.D.Reports _ (λ image. Spells image bodies) (g.met.D.Disk.reads_is_left _)
    (each_dropped g (goal.at.returns-then-gate-ne1-clause-reads_dropped g c).Then-gate-ne1 bodies first others held)

pub returns-then-gate-ne1-clause-dropped : goal.returns-then-gate-ne1-clause-dropped
returns-then-gate-ne1-clause-dropped g c = search (rules, each_dropped)
