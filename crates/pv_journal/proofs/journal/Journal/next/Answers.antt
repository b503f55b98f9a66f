use Rattle.std.proofs.Common.{◌≡◌, ℕ, ◌+◌, List, [], ◌∷◌, ◌++◌, length, take, drop, Option, IfSome, IsErr, rules, refl, sym, ◌∙◌, ap, subst, arith}
use Rattle.std.proofs.lemmas.Option.{IfSome_then, MatchOption-at_some}
use Rattle.pv_journal.specs.Text.{IsBody, text_of, HasNoOpenGate, HasBrokenBlock, HasBlock}
use Rattle.pv_journal.specs.Journal.{IsReading, DiskSpells, ReadsOnly}
use Rattle.pv_journal.proofs.CallerLemmas.{reads_none, reads_most}
use Rattle.pv_journal.proofs.Counted.{counted_more, next_front}
use Rattle.pv_journal.proofs.Images.{if_both, each_synced}
use Rattle.pv_journal.proofs.Unique.{closed_none, first_is, never_broken, follows_on_disk, spells_front}
use Rattle.pv_journal.proofs.Reading.{closed_at, broken_at, block_at, copied}
use Rattle.pv_journal.proofs.journal.Journal.next.Given.{Over}
use Rattle.pv_journal.proofs.journal.Journal.next.Goals as goal
use Rattle.pv_journal.proofs.journal.Journal.next.Goals.{After-read_block, In-Closed, In-Broken, After-copy_from_slice}

-- what the bytes that were read begin with is at the gate
closed_here : (g : Over) (c : In-Closed g)
    → IfSome (g.D.Reports.reads c.self.inside.disk) (λ text. HasNoOpenGate (drop c.self.inside.gate text))
closed_here g c =
    IfSome_then _ c.in-Ok.ensures.bytes
    (λ text b. let r : HasNoOpenGate (drop c.self.inside.gate text) = closed_at _ _ b c.in-Closed.ensures in r)

broken_here : (g : Over) (c : In-Broken g)
    → IfSome (g.D.Reports.reads c.self.inside.disk) (λ text. HasBrokenBlock (drop c.self.inside.gate text))
broken_here g c =
    IfSome_then _ c.in-Ok.ensures.bytes
    (λ text b. let r : HasBrokenBlock (drop c.self.inside.gate text) = broken_at _ _ b c.in-Broken.ensures in r)

-- what the read did, and that it alone can fail on the disk
reads_here : (g : Over) (c : After-read_block g) {Fails : Type 0} → (Fails → IsErr c.read_block.result)
    → ReadsOnly g.D.Reports 1 Fails c.args.self.now.disk c.read_block.new.disk
reads_here g c {Fails} fails =
    subst (λ v. ReadsOnly g.D.Reports 1 Fails v.disk c.read_block.new.disk) c.self.view_is
    (reads_most g.D.Reports (omega arith) fails c.read_block.ensures.reads_only)

pub returns-in-Err-clause-reads_only : goal.returns-in-Err-clause-reads_only
returns-in-Err-clause-reads_only g c = reads_here g (goal.at.returns-in-Err-clause-reads_only g c).After-read_block (search rules)

pub returns-in-Closed-clause-reads_only : goal.returns-in-Closed-clause-reads_only
returns-in-Closed-clause-reads_only g c =
    reads_here g (goal.at.returns-in-Closed-clause-reads_only g c).After-read_block (λ fails. absurd fails)

pub returns-in-Broken-clause-reads_only : goal.returns-in-Broken-clause-reads_only
returns-in-Broken-clause-reads_only g c =
    reads_here g (goal.at.returns-in-Broken-clause-reads_only g c).After-read_block (λ fails. absurd fails)

pub returns-in-Whole-clause-reads_only : goal.returns-in-Whole-clause-reads_only
returns-in-Whole-clause-reads_only g c =
    reads_here g (goal.at.returns-in-Whole-clause-reads_only g c).After-read_block (λ fails. absurd fails)

pub returns-in-Whole-2-clause-reads_only : goal.returns-in-Whole-2-clause-reads_only
returns-in-Whole-2-clause-reads_only g c =
    reads_here g (goal.at.returns-in-Whole-2-clause-reads_only g c).After-read_block (λ fails. absurd fails)

pub returns-in-Closed-clause-ended : goal.returns-in-Closed-clause-ended
returns-in-Closed-clause-ended g c = search (rules, if_both, spells_front, closed_here, each_synced)

pub returns-in-Closed-clause-spelled : goal.returns-in-Closed-clause-spelled
returns-in-Closed-clause-spelled g c = λ bodies more reading_now spelled_now.
    let reading = subst (λ v. IsReading g.D.Reports v bodies) (sym c.self.view_is) reading_now in
    let spelled = subst (λ v. DiskSpells g.D.Reports v.disk (bodies ++ more)) (sym c.self.view_is) spelled_now in
    closed_none _ more (follows_on_disk _ c.self.inside.gate bodies more spelled.0 reading.text spelled.1 spelled.2)
    (MatchOption-at_some _ (λ (text : List ℕ). HasNoOpenGate (drop c.self.inside.gate text)) spelled.0 spelled.1 (closed_here g (goal.at.returns-in-Closed-clause-spelled g c).In-Closed))

pub returns-in-Broken-clause-shown : goal.returns-in-Broken-clause-shown
returns-in-Broken-clause-shown g c = λ bodies reading_now.
    let reading = subst (λ v. IsReading g.D.Reports v bodies) (sym c.self.view_is) reading_now in
    let here = broken_here g (goal.at.returns-in-Broken-clause-shown g c).In-Broken in
    subst (λ v. IfSome (g.D.Reports.reads v.disk) (λ text. (c.self.inside.gate ≡ length (text_of bodies)) × HasBrokenBlock (drop (length (text_of bodies)) text))) c.self.view_is
    (IfSome_then _ here (λ text broken. let r : (c.self.inside.gate ≡ length (text_of bodies)) × HasBrokenBlock (drop (length (text_of bodies)) text) = (reading.counted.gate, subst (λ (n : ℕ). HasBrokenBlock (drop n text)) reading.counted.gate broken) in r))

pub returns-in-Broken-clause-spelled : goal.returns-in-Broken-clause-spelled
returns-in-Broken-clause-spelled g c = λ bodies more reading_now spelled_now.
    let reading = subst (λ v. IsReading g.D.Reports v bodies) (sym c.self.view_is) reading_now in
    let spelled = subst (λ v. DiskSpells g.D.Reports v.disk (bodies ++ more)) (sym c.self.view_is) spelled_now in
    never_broken _ more (follows_on_disk _ c.self.inside.gate bodies more spelled.0 reading.text spelled.1 spelled.2)
    (MatchOption-at_some _ (λ (text : List ℕ). HasBrokenBlock (drop c.self.inside.gate text)) spelled.0 spelled.1 (broken_here g (goal.at.returns-in-Broken-clause-spelled g c).In-Broken))

pub returns-in-Whole-clause-shown : goal.returns-in-Whole-clause-shown
returns-in-Whole-clause-shown g c = λ bodies reading_now.
    let reading = subst (λ v. IsReading g.D.Reports v bodies) (sym c.self.view_is) reading_now in
    subst (λ v. IfSome (g.D.Reports.reads v.disk) (λ text. (body : List ℕ) × HasBlock (drop (length (text_of bodies)) text) body)) c.self.view_is
    (subst (λ (n : ℕ). IfSome (g.D.Reports.reads c.self.inside.disk) (λ text. (body : List ℕ) × HasBlock (drop n text) body)) reading.counted.gate (IfSome_then _ c.in-Ok.ensures.bytes (λ text b. let r : (body : List ℕ) × HasBlock (drop c.self.inside.gate text) body = (_, block_at _ _ _ c.in-Whole.size b refl c.in-Whole.ensures.block) in r)))

-- the body that is handed out
handed : (g : Over) → After-copy_from_slice g → List ℕ
handed g c = take c.in-Whole.size (c.copy_from_slice.new.self ++ drop c.in-Whole.size c.args.into.now)

handed_is : (g : Over) (c : After-copy_from_slice g) → handed g c ≡ take c.in-Whole.size (drop 3 (take c.in-Ok.held c.read_block.new.into))
unfolding handed
handed_is g c =
    copied c.copy_from_slice.new.self (drop c.in-Whole.size c.args.into.now) (take c.in-Ok.held c.read_block.new.into) c.in-Whole.size c.copy_from_slice.ensures.after c.in-Whole.ensures.size

-- is a body, and has its block at the gate
handed_sized : (g : Over) (c : After-copy_from_slice g) → IsBody (handed g c)
handed_sized g c = subst IsBody (sym (handed_is g c)) c.in-Whole.ensures.block.size

block_here : (g : Over) (c : After-copy_from_slice g)
    → IfSome (g.D.Reports.reads c.self.inside.disk) (λ text. HasBlock (drop c.self.inside.gate text) (handed g c))
block_here g c =
    IfSome_then _ c.in-Ok.ensures.bytes
    (λ text b. let r : HasBlock (drop c.self.inside.gate text) (handed g c) = block_at _ _ (handed g c) c.in-Whole.size b (handed_is g c) c.in-Whole.ensures.block in r)

pub returns-in-Whole-2-clause-shown : goal.returns-in-Whole-2-clause-shown
unfolding handed
returns-in-Whole-2-clause-shown g c = λ bodies reading_now.
    let reading = subst (λ v. IsReading g.D.Reports v bodies) (sym c.self.view_is) reading_now in
    let here = block_here g (goal.at.returns-in-Whole-2-clause-shown g c).After-copy_from_slice in
    let body = take c.in-Whole.size (c.copy_from_slice.new.self ++ drop c.in-Whole.size c.args.into.now) in
    subst (λ v. IfSome (g.D.Reports.reads v.disk) (λ text. HasBlock (drop (length (text_of bodies)) text) body)) c.self.view_is
    (subst (λ (n : ℕ). IfSome (g.D.Reports.reads c.self.inside.disk) (λ text. HasBlock (drop n text) body)) reading.counted.gate here)

pub returns-in-Whole-2-clause-spelled : goal.returns-in-Whole-2-clause-spelled
unfolding handed
returns-in-Whole-2-clause-spelled g c = λ bodies more reading_now spelled_now.
    let reading = subst (λ v. IsReading g.D.Reports v bodies) (sym c.self.view_is) reading_now in
    let spelled = subst (λ v. DiskSpells g.D.Reports v.disk (bodies ++ more)) (sym c.self.view_is) spelled_now in
    let body = take c.in-Whole.size (c.copy_from_slice.new.self ++ drop c.in-Whole.size c.args.into.now) in
    first_is _ body more (follows_on_disk _ c.self.inside.gate bodies more spelled.0 reading.text spelled.1 spelled.2)
    (MatchOption-at_some _ (λ (text : List ℕ). HasBlock (drop c.self.inside.gate text) body) spelled.0 spelled.1 (block_here g (goal.at.returns-in-Whole-2-clause-spelled g c).After-copy_from_slice))

pub returns-in-Whole-2-clause-found : goal.returns-in-Whole-2-clause-found
unfolding handed
returns-in-Whole-2-clause-found g c = λ bodies reading_now.
    let reading = subst (λ v. IsReading g.D.Reports v bodies) (sym c.self.view_is) reading_now in
    let place = (goal.at.returns-in-Whole-2-clause-found g c).After-copy_from_slice in
    let body = take c.in-Whole.size (c.copy_from_slice.new.self ++ drop c.in-Whole.size c.args.into.now) in
    let size : length body ≡ c.in-Whole.size = ap length (handed_is g place) ∙ c.in-Whole.ensures.size in
    let begins : IfSome (g.D.Reports.reads c.self.inside.disk) (λ text. text ≡ text_of (bodies ++ body ∷ []) ++ drop (c.self.inside.gate + (c.in-Whole.size + 3)) text) =
    if_both (g.D.Reports.reads c.self.inside.disk) (λ text. text ≡ text_of bodies ++ drop c.self.inside.gate text) (λ text. HasBlock (drop c.self.inside.gate text) body)
    (λ text. text ≡ text_of (bodies ++ body ∷ []) ++ drop (c.self.inside.gate + (c.in-Whole.size + 3)) text)
    (λ text so_far has. next_front bodies body text c.self.inside.gate (c.self.inside.gate + (c.in-Whole.size + 3)) reading.counted.gate (omega (arith, size)) so_far has)
    reading.text (block_here g place) in
    record {
      phase = reading.phase;
      counted = counted_more g.D.Reports _ _ bodies body reading.counted (handed_sized g place) refl (omega (arith, size));
      text =
          subst (λ (o : Option (List ℕ)). IfSome o (λ text. text ≡ text_of (bodies ++ body ∷ []) ++ drop (c.self.inside.gate + (c.in-Whole.size + 3)) text)) (sym c.read_block.ensures.reads_only.same.reads) begins;
      durable = c.in-Ok.ensures.durable reading.durable;
      synced = c.in-Ok.ensures.synced reading.synced;
    }

pub returns-in_default-clause-reads_only : goal.returns-in_default-clause-reads_only
returns-in_default-clause-reads_only g c = reads_none g.D.Reports _ (search rules)
