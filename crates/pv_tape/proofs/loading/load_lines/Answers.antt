use Rattle.std.proofs.Common.{◌≡◌, None, length, refl, ap, subst, ◌∙◌, arith, rules}
use Rattle.pv_udc.specs.EditList.{EditList}
use Rattle.pv_udc.specs.contracts.rules.UdcRulesRules.TheImpl as udc
use Rattle.pv_words.specs.Lines.{lines_of}
use Rattle.pv_tape.specs.Loading.{last_number_of}
use Rattle.pv_tape.specs.Tape.{second_line}
use Rattle.pv_tape.specs.declared.progress.Progress.{Progress}
use Rattle.pv_tape.proofs.Ahead.{IsWaiting, waits_first, waits_on, stops_ahead, none_ahead}
use Rattle.pv_tape.proofs.Loaded.{going_at, going_first, going_last, line_done, line_leaves, line_stopped, none_leaves, no_lines}
use Rattle.pv_tape.proofs.loading.load_lines.Goals as goal

-- nothing was asked yet
pub loop-rest-init : goal.loop-rest-init
loop-rest-init g c =
    let is = c.first_progress-progress.ensures ∙ ap (λ (s : EditList). record {
      working = None;
      line = second_line;
      numbers = record { next = c.args.head.now.first; last = last_number_of s.records c.args.head.now.account; stored = 0 };
    }) c.state.ensures in
    record {
      going = λ edits good.
          going_first udc.ghosts g.D.Reports c.args.head.now edits c.args.node.now _ (lines_of c.args.text.now) is good
          (none_leaves udc.ghosts g.D.Reports c.args.head.now edits c.args.node.now g.met.D.Disk.only_now g.met.D.Disk.now_is_known
          c.requires.hand _);
      hand = c.requires.hand;
      last = ap (λ (p : Progress). p.numbers.last) is;
      limits = refl;
      lines = (let line = ap (λ (p : Progress). p.line) is in omega (arith, line, c.requires.within));
      numbers = (let next = ap (λ (p : Progress). p.numbers.next) is in omega (arith, next, c.requires.within, c.requires.first));
      stored = (let next = ap (λ (p : Progress). p.numbers.next) is in let stored = ap (λ (p : Progress). p.numbers.stored) is in
          omega (arith, next, stored));
      waiting = λ has ahead.
          waits_first udc.ghosts g.D.Reports c.args.head.now c.args.node.now (lines_of c.args.text.now) c.first_progress-progress.result is;
      counted = omega arith;
    }

-- a line was done
pub loop-rest-preserved : goal.loop-rest-preserved
loop-rest-preserved g c =
    let inv = c.loop-rest.invariant in
    let on = c.in-Ok.ensures.on in
    record {
      going = λ edits good.
          let was = going_at udc.ghosts g.D.Reports c.args.head.now edits c.args.node.now c.loop-rest.node c.loop-rest.progress _ _
          c.first_line.ensures.line (inv.going edits good) in
          line_done udc.ghosts g.D.Reports c.args.head.now edits c.args.node.now c.loop-rest.node c.load_line.new.node c.loop-rest.progress
          c.load_line.new.progress c.first_line.result.0.now (lines_of c.first_line.result.1.now) was c.checked_line-line.result
          (c.checked_line-line.ensures was.good.0 was.good.2) c.in-Ok.ensures.ok c.in-Ok.ensures.records c.load_line.ensures.moments;
      hand = c.in-Ok.ensures.hand;
      last = c.in-Ok.ensures.last;
      limits = c.load_line.ensures.limits ∙ inv.limits;
      lines = omega (arith, inv.lines, on.line, c.first_line.ensures.shorter);
      numbers = omega (arith, inv.numbers, on.next, c.first_line.ensures.shorter);
      stored = omega (arith, inv.stored, on.next, on.stored);
      waiting = λ has ahead.
          waits_on udc.ghosts g.D.Reports c.args.head.now c.args.node.now (lines_of c.args.text.now) has ahead c.loop-rest.node
          c.loop-rest.progress c.first_line.result.0.now (lines_of c.first_line.result.1.now)
          (subst (IsWaiting udc.ghosts g.D.Reports c.args.head.now c.args.node.now (lines_of c.args.text.now) c.loop-rest.node
          c.loop-rest.progress) c.first_line.ensures.line (inv.waiting has ahead))
          c.load_line.new.node c.load_line.new.progress c.checked_line-line.result c.checked_line-line.ensures c.in-Ok.ensures.ok
          c.in-Ok.ensures.done;
      counted = omega (arith, inv.counted, c.load_line.ensures.counted);
    }

-- a line was not
pub returns-in-Err-clause-ends : goal.returns-in-Err-clause-ends
returns-in-Err-clause-ends g c = λ edits good.
    let inv = c.loop-rest.invariant in
    let was = going_at udc.ghosts g.D.Reports c.args.head.now edits c.args.node.now c.loop-rest.node c.loop-rest.progress _ _
    c.first_line.ensures.line (inv.going edits good) in
    line_stopped udc.ghosts g.D.Reports c.args.head.now edits c.args.node.now c.loop-rest.node c.load_line.new.node c.loop-rest.progress
    c.first_line.result.0.now (lines_of c.first_line.result.1.now) was inv.hand inv.limits inv.counted c.in-Err.end
    c.checked_line-line.result
    (c.checked_line-line.ensures was.good.0 was.good.2) c.in-Err.ensures.stopped

pub returns-in-Err-clause-moments : goal.returns-in-Err-clause-moments
returns-in-Err-clause-moments g c = λ edits good.
    let inv = c.loop-rest.invariant in
    let was = going_at udc.ghosts g.D.Reports c.args.head.now edits c.args.node.now c.loop-rest.node c.loop-rest.progress _ _
    c.first_line.ensures.line (inv.going edits good) in
    line_leaves udc.ghosts g.D.Reports c.args.head.now edits c.args.node.now c.loop-rest.node c.load_line.new.node c.loop-rest.progress
    c.first_line.result.0.now (lines_of c.first_line.result.1.now) was c.checked_line-line.result
    (c.checked_line-line.ensures was.good.0 was.good.2) c.load_line.ensures.moments

pub returns-in-Err-clause-ahead : goal.returns-in-Err-clause-ahead
returns-in-Err-clause-ahead g c = λ edits good has ahead.
    stops_ahead udc.ghosts g.D.Reports c.args.head.now c.args.node.now (lines_of c.args.text.now) has ahead c.loop-rest.node
    c.loop-rest.progress c.first_line.result.0.now (lines_of c.first_line.result.1.now)
    (subst (IsWaiting udc.ghosts g.D.Reports c.args.head.now c.args.node.now (lines_of c.args.text.now) c.loop-rest.node
    c.loop-rest.progress) c.first_line.ensures.line (c.loop-rest.invariant.waiting has ahead))
    c.load_line.new.node c.checked_line-line.result c.in-Err.end c.checked_line-line.ensures c.in-Err.ensures.stopped edits good

-- no line is left
pub returns-clause-ends : goal.returns-clause-ends
returns-clause-ends g c = λ edits good.
    let inv = c.loop-rest.invariant in
    let none : length c.loop-rest.rest.now ≡ 0 = search rules in
    going_last udc.ghosts g.D.Reports c.args.head.now edits c.args.node.now c.loop-rest.node c.loop-rest.progress
    (going_at udc.ghosts g.D.Reports c.args.head.now edits c.args.node.now c.loop-rest.node c.loop-rest.progress _ _
    (no_lines c.loop-rest.rest.now none) (inv.going edits good)) inv.hand inv.last

pub returns-clause-moments : goal.returns-clause-moments
returns-clause-moments g c = λ edits good. (c.loop-rest.invariant.going edits good).moments

pub returns-clause-ahead : goal.returns-clause-ahead
returns-clause-ahead g c = λ edits good has ahead.
    let none : length c.loop-rest.rest.now ≡ 0 = search rules in
    none_ahead udc.ghosts g.D.Reports c.args.head.now c.args.node.now (lines_of c.args.text.now) g.row.D-Failure.Denot c.loop-rest.node
    c.loop-rest.progress
    (subst (IsWaiting udc.ghosts g.D.Reports c.args.head.now c.args.node.now (lines_of c.args.text.now) c.loop-rest.node
    c.loop-rest.progress) (no_lines c.loop-rest.rest.now none) (c.loop-rest.invariant.waiting has ahead)) edits good
