use Rattle.std.proofs.Common.{◌≡◌, List, [], ◌∷◌, ◌++◌, length, true, false, Ok, refl, sym, ◌∙◌, ap, subst, arith, rules}
use Rattle.std.specs.Prelude.{vec_len}
use Rattle.std.proofs.lemmas.List.{length-map}
use Rattle.pv_node.specs.Trail.{trail_records}
use Rattle.pv_node.specs.Standing.{DiskStands, Meets}
use Rattle.pv_node.specs.Opening.{HasAll, IsOutside}
use Rattle.pv_journal.proofs.CallerLemmas.{reads_none, reads_most, reads_then, made_none}
use Rattle.pv_node.proofs.Reading.{read_count, goes_on, made_all, all_of, fails_outside, fault_shows}
use Rattle.pv_journal.proofs.Images.{if_both}
use Rattle.pv_node.proofs.replay.replay.Goals as goal

pub loop-init : goal.loop-init
loop-init g c = (
  record {
    records = [];
    read = c.requires.reading;
    limit = refl;
    limits = refl;
    reads = reads_none g.D.Reports _ (λ never. never);
    made = made_none g.D.Reports _ (omega (arith, c.requires.reading.journal.counted.count));
    begins = λ all stands. (all, refl);
  },
  sym c.requires.trail.0,
  c.requires.trail.1,
)

-- while there is room for a further record, there is room to note it
pub take_next-requires-clause-trail : goal.take_next-requires-clause-trail
take_next-requires-clause-trail g c = λ below.
    let i = c.loop.invariant in
    let count = read_count g.R.Rules g.D.Reports _ _ i.0.records i.0.read in
    let length : length i.0.records ≡ vec_len c.loop.trail = ap length i.1 ∙ (length-map c.loop.trail.items (λ snapshot. snapshot.value) ∙ sym c.loop.trail.ok.0) in
    omega (arith, below, count, length, i.2)

pub returns-in_err-take_next-clause-reads_only : goal.returns-in_err-take_next-clause-reads_only
returns-in_err-take_next-clause-reads_only g c =
    reads_most g.D.Reports (omega (arith, c.take_next.ensures.goes_up)) (search rules) (reads_then g.D.Reports c.loop.invariant.0.reads c.take_next.ensures.reads_only)

pub returns-in_err-take_next-clause-opens : goal.returns-in_err-take_next-clause-opens
returns-in_err-take_next-clause-opens g c =
    let so_far = c.loop.invariant.0 in
    let outside : (records : List g.row.R-Rec.Denot) → DiskStands g.R.Rules g.D.Reports c.args.journal.now.disk records
    → Meets g.R.Rules (g.R.Rules.limits_of c.args.state.now) records → IsOutside c.in_err-take_next.field-0.0 =
    λ records stands meets.
    fails_outside g.R.Rules g.D.Reports c.args.journal.now _ c.args.state.now _ so_far c.in_err-take_next.field-0.0 c.in_err-take_next.ensures.opens records stands meets in
    search rules

pub returns-in_err-take_next-clause-shown : goal.returns-in_err-take_next-clause-shown
returns-in_err-take_next-clause-shown g c = search (rules, if_both, fault_shows)

-- the record that was read is noted
pub loop-preserved : goal.loop-preserved
unfolding goes_on
loop-preserved g c =
    let so_far = c.loop.invariant.0 in
    let is : c.take_next.result ≡ Ok true = c.in_ok-take_next.was ∙ ap Ok c.if-branch.true in
    let took = c.take_next.ensures.took is so_far.records so_far.read in
    let goes = goes_on g.R.Rules g.D.Reports _ _ _ _ _ _ took.0 so_far took.1 took.2 c.take_next.ensures.limit c.take_next.ensures.limits (c.take_next.ensures.counts is).1 (λ never. absurd never) c.take_next.ensures.reads_only c.in_ok-take_next.ensures.made in (
      goes,
      ap (λ (l : List g.row.R-Rec.Denot). l ++ took.0 ∷ []) c.loop.invariant.1 ∙ sym took.3,
      omega (arith, c.take_next.ensures.limit, c.take_next.ensures.room, c.loop.invariant.2),
    )

pub returns-clause-reads_only : goal.returns-clause-reads_only
returns-clause-reads_only g c =
    reads_most g.D.Reports (omega (arith, c.take_next.ensures.goes_up)) (λ fails. absurd fails) (reads_then g.D.Reports c.loop.invariant.0.reads c.take_next.ensures.reads_only)

pub returns-clause-made : goal.returns-clause-made
returns-clause-made g c =
    let is : c.take_next.result ≡ Ok false = c.in_ok-take_next.was ∙ ap Ok c.if-branch.false in
    made_all g.R.Rules g.D.Reports _ _ _ _ _ _ c.loop.invariant.0 (c.take_next.ensures.ended is c.loop.invariant.0.records c.loop.invariant.0.read).0 c.in_ok-take_next.ensures.made

pub returns-clause-found : goal.returns-clause-found
returns-clause-found g c = λ records stands.
    let so_far = c.loop.invariant.0 in
    let is : c.take_next.result ≡ Ok false = c.in_ok-take_next.was ∙ ap Ok c.if-branch.false in
    let ended = c.take_next.ensures.ended is so_far.records so_far.read in
    subst (λ (l : List g.row.R-Rec.Denot). HasAll g.R.Rules g.D.Reports c.take_next.new.journal c.take_next.new.state l)
    (sym (all_of g.R.Rules g.D.Reports _ _ _ _ so_far ended.1 records stands)) ended.0

-- what was noted is all
pub returns-clause-read : goal.returns-clause-read
returns-clause-read g c =
    let so_far = c.loop.invariant.0 in
    let is : c.take_next.result ≡ Ok false = c.in_ok-take_next.was ∙ ap Ok c.if-branch.false in
    let same = c.take_next.ensures.unnoted (λ further. cc (sym is ∙ further)) in
    subst (λ (l : List g.row.R-Rec.Denot). HasAll g.R.Rules g.D.Reports c.take_next.new.journal c.take_next.new.state l)
    (c.loop.invariant.1 ∙ ap (λ t. trail_records t.items) (sym same)) (c.take_next.ensures.ended is so_far.records so_far.read).0
