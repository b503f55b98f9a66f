use Rattle.std.proofs.Common.{inl, inr, ◌≡◌, ℕ, ◌+◌, ◌-◌, List, [], ◌∷◌, ◌++◌, length, get_or, ap, ◌∙◌, subst, arith, IfSome, rules}
use Rattle.std.proofs.lemmas.Result.{on_ok_weaker, on_err_weaker}
use Rattle.pv_journal.specs.Text.{text_of, Spells, SpellsEither, bytes_behind, HasClosedGate, MayHaveBody}
use Rattle.pv_outside.specs.Disk.{text_after_write}
use Rattle.pv_journal.specs.Journal.{EachImage, LeavesOnly}
use Rattle.pv_journal.proofs.CallerLemmas.{spends_then, made_then, made_any}
use Rattle.pv_journal.proofs.Moments.{only_weaker, only_then}
use Rattle.pv_journal.proofs.Crash.{IsStaged, torn_behind, torn_gate}
use Rattle.pv_journal.proofs.Gates.{IsBehind, behind_written, behind_torn, behind_opened}
use Rattle.pv_journal.proofs.Images.{on_ok_both, if_map, if_turns, if_told, each_synced}
use Rattle.pv_journal.proofs.Append.{behind_text, gate_text, both_written}
use Rattle.pv_journal.proofs.storing.store.Goals as goal
use Rattle.pv_journal.proofs.storing.store.Goals.{In_ok-put, After-put}
use Rattle.pv_journal.proofs.storing.store.Given.{Over}

-- up to the second sync a crash leaves an image that spells the list without the bodies
kept : (g : Over) (c : After-put g) (bodies : List (List ℕ)) → c.args.gate ≡ length (text_of bodies)
    → EachImage g.D.Reports c.args.disk.now (λ image. Spells image bodies)
    → LeavesOnly g.D.Reports c.args.disk.now c.put.new.disk (λ image. Spells image bodies)
kept g c bodies is each =
    only_weaker g.D.Reports
    (λ told image from. torn_behind bodies _ _ from.0 image (ap (λ (k : ℕ). k + 1) is) (each told from.0 from.1) from.2)
    c.put.ensures.moments

-- once the bodies are on the disk each image has them whole after the gate
staged_there : (g : Over) (c : In_ok-put g) (bodies : List (List ℕ)) → c.args.gate ≡ length (text_of bodies)
    → (first : List ℕ) (others : List (List ℕ)) → c.args.bytes.now ≡ bytes_behind (first ∷ others)
    → EachImage g.D.Reports c.args.disk.now (λ image. Spells image bodies)
    → EachImage g.D.Reports c.put.new.disk (IsStaged bodies (first ∷ others))
staged_there g c bodies is first others same each =
    each_synced g.D.Reports _ (IsStaged bodies (first ∷ others)) c.in_ok-put.ensures.durable
    (behind_text g.D.Reports g.met.D.Disk.reads_is_left bodies first others c.args.gate is _ _ _ same c.in_ok-put.ensures.written each)

pub returns-in_err-put-clause-moments : goal.returns-in_err-put-clause-moments
returns-in_err-put-clause-moments g c =
    λ bodies first others is same sized each. only_weaker g.D.Reports (λ told image spells. inl spells)
    (kept g (goal.at.returns-in_err-put-clause-moments g c).After-put bodies is each)

pub returns-in_err-put-clause-early : goal.returns-in_err-put-clause-early
returns-in_err-put-clause-early g c = λ bodies is each. inr (kept g (goal.at.returns-in_err-put-clause-early g c).After-put bodies is each)

pub returns-clause-moments : goal.returns-clause-moments
returns-clause-moments g c = λ bodies first others is same sized each.
    let place = goal.at.returns-clause-moments g c in
    let opened = only_weaker g.D.Reports
    (λ told image from. torn_gate bodies c.args.gate first others from.0 image is sized
    (staged_there g place.In_ok-put bodies is first others same each told from.0 from.1) from.2) c.put-2.ensures.moments in
    only_then g.D.Reports
    (only_weaker g.D.Reports {Q = SpellsEither bodies (first ∷ others)} (λ told image spells. inl spells)
    (kept g place.After-put bodies is each)) opened.time opened.now

pub returns-clause-early : goal.returns-clause-early
returns-clause-early g c =
    λ bodies is each.
    inl (made_then g.D.Reports c.in_ok-put.ensures.both (made_any g.D.Reports c.put-2.ensures.spends c.put-2.ensures.moments.time.later))

pub returns-clause-all_four : goal.returns-clause-all_four
returns-clause-all_four g c = on_ok_weaker c.put-2.result (made_then g.D.Reports c.in_ok-put.ensures.both) c.put-2.ensures.both

pub returns-clause-stored : goal.returns-clause-stored
returns-clause-stored g c = on_ok_both c.put-2.result (λ written durable bodies first others is same sized each.
    each_synced g.D.Reports _ (λ image. Spells image (bodies ++ first ∷ others)) durable
    (gate_text g.D.Reports g.met.D.Disk.reads_is_left bodies first others c.args.gate is _ _ sized written
    (staged_there g (goal.at.returns-clause-stored g c).In_ok-put bodies is first others same each)))
    c.put-2.ensures.written c.put-2.ensures.durable

pub returns-clause-written : goal.returns-clause-written
returns-clause-written g c = search (rules, on_ok_weaker, both_written, if_told)

-- once the bodies are on the disk, a closed gate is after them, and the gate before them is as it was
behind_closed : (g : Over) (c : In_ok-put g) (size : ℕ) → length c.args.bytes.now ≡ size + 3
    → IfSome (g.D.Reports.reads c.put.new.disk) (IsBehind c.args.gate size)
behind_closed g c size long =
    let ends : get_or c.args.bytes.now (size + 2) 0 ≡ 0 =
    ap (λ (n : ℕ). get_or c.args.bytes.now n 0)
    (let e : size + 2 ≡ length c.args.bytes.now - 1 = omega (arith, long) in e) ∙ c.requires.ends in
    if_map _ (HasClosedGate c.args.gate) (IsBehind c.args.gate size) _ _
    (λ text closed. behind_written c.args.gate size c.args.bytes.now text long ends closed)
    c.in_ok-put.ensures.written (if_told _ _ c.requires.closed)

pub returns-clause-same_gate : goal.returns-clause-same_gate
returns-clause-same_gate g c = on_err_weaker c.put-2.result (λ turns size long.
    if_turns _ (IsBehind c.args.gate size) (MayHaveBody c.args.gate size) _ _
    (λ old new behind torn. behind_torn c.args.gate size old new behind torn) turns
    (behind_closed g (goal.at.returns-clause-same_gate g c).In_ok-put size long))
    c.put-2.ensures.torn

pub returns-clause-next_gate : goal.returns-clause-next_gate
returns-clause-next_gate g c =
    let size = length c.args.bytes.now - 3 in
    let long : length c.args.bytes.now ≡ size + 3 = omega (arith, c.requires.size) in
    let there : c.args.gate + size + 3 ≡ c.args.gate + length c.args.bytes.now = omega (arith, c.requires.size) in
    on_ok_weaker c.put-2.result (λ written.
    if_map _ (IsBehind c.args.gate size) (HasClosedGate (c.args.gate + length c.args.bytes.now)) _ _
    (λ text behind. subst (λ (n : ℕ). HasClosedGate n (text_after_write c.args.gate (1 ∷ []) text)) there (behind_opened c.args.gate size text behind)) written (behind_closed g (goal.at.returns-clause-next_gate g c).In_ok-put size long))
    c.put-2.ensures.written

pub returns-clause-spends : goal.returns-clause-spends
returns-clause-spends g c = spends_then g.D.Reports c.put.ensures.spends c.put-2.ensures.spends
