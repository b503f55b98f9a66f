use Rattle.std.proofs.Common.{◌≡◌, ℕ, List, [], length, subst, sym, refl, arith, rules}
use Rattle.pv_words.specs.Lines.{lines_of}
use Rattle.pv_tape.specs.Tape.{AreGood, IsFirstBad}
use Rattle.pv_tape.proofs.Going.{good_before, bad_before, bad_here, good_end, good_later, good_not_bad}
use Rattle.pv_tape.proofs.checking.first_bad.Goals as goal

pub loop-rest-init : goal.loop-rest-init
loop-rest-init c = record { good = λ edits are. (edits, are); bad = λ line is. is; only = λ all are. (all, are); number = omega arith }

-- a good line more
pub loop-rest-preserved : goal.loop-rest-preserved
loop-rest-preserved c =
    let before = c.loop-rest.working in
    let after = c.take_line.new.working in
    let number = c.loop-rest.number in
    let text = c.first_line.result.0.now in
    let texts = lines_of c.first_line.result.1.now in
    let was = c.if-not-take_line.ensures.good refl in
    record {
      good = λ edits are.
          let all = good_before before after number text texts was edits are in
          c.loop-rest.invariant.good all.0
          (subst (λ (l : List (List ℕ)). AreGood before number l all.0) (sym c.first_line.ensures.line) all.1);
      bad = λ line is.
          c.loop-rest.invariant.bad line
          (subst (λ (l : List (List ℕ)). IsFirstBad before number l line) (sym c.first_line.ensures.line)
          (bad_before before after number text texts was line is));
      only = λ all are.
          let left = c.loop-rest.invariant.only all are in
          good_later before after number text texts (λ line is can. (c.if-not-take_line.ensures.only line is can).1) left.0
          (subst (λ (l : List (List ℕ)). AreGood before number l left.0) c.first_line.ensures.line left.1);
      number = omega (arith, c.loop-rest.invariant.number, c.first_line.ensures.shorter);
    }

-- the next line is bad
pub returns-then-not-take_line-clause-found : goal.returns-then-not-take_line-clause-found
returns-then-not-take_line-clause-found c =
    let before = c.loop-rest.working in
    let number = c.loop-rest.number in
    c.loop-rest.invariant.bad number
    (subst (λ (l : List (List ℕ)). IsFirstBad before number l number) (sym c.first_line.ensures.line)
    (bad_here before before number c.first_line.result.0.now (lines_of c.first_line.result.1.now) (c.if-not-take_line.ensures.bad refl)))

-- so not all are good
pub returns-then-not-take_line-clause-only : goal.returns-then-not-take_line-clause-only
returns-then-not-take_line-clause-only c = λ all are.
    let before = c.loop-rest.working in
    let left = c.loop-rest.invariant.only all are in
    absurd (good_not_bad before c.loop-rest.number c.first_line.result.0.now (lines_of c.first_line.result.1.now)
    (c.if-not-take_line.ensures.bad refl) left.0
    (subst (λ (l : List (List ℕ)). AreGood before c.loop-rest.number l left.0) c.first_line.ensures.line left.1))

-- no line is left
pub returns-clause-found : goal.returns-clause-found
returns-clause-found c =
    let none : length c.loop-rest.rest.now ≡ 0 = search rules in
    c.loop-rest.invariant.good [] (good_end c.loop-rest.working c.loop-rest.number c.loop-rest.rest.now none)
