use Rattle.std.{proofs.{Common.{◌+◌, ◌-◌, ◌≤◌, length, ap, lit≤, sym, arith, ◌∙◌}, lemmas.{Bool.eqb-true, List.take_all}}, specs.List.suffix_len}
use Rattle.pv_screen.{specs.Painting.is_space, proofs.Spaces.{part_passes, skip}}
use Rattle.pv_screen.proofs.painting.shown_cells.Goals as goal

pub loop-count-init : goal.loop-count-init
loop-count-init c =
    let whole = take_all 40 c.args.row.now (omega (arith, c.told-row)) in
    record { within = lit≤ tt; passed = ap (λ row. 40 + suffix_len is_space row) (sym whole) }

-- eight spaces are passed at once
pub loop-count-preserved : goal.loop-count-preserved
loop-count-preserved c =
    let row = c.args.row.now in
    let count = c.loop-count.count in
    let spaces = sym c.are_spaces.ensures ∙ c.if-are_spaces.true in
    let within : count ≤ length row = omega (arith, c.told-row, c.loop-count.invariant.within) in
    let passed =
    skip row 8 count c.loop-count-test.true within
    (λ k from to. eqb-true _ 32 (part_passes is_space row (count - 8) _ k spaces (omega arith) (omega arith) (omega arith))) in
    record { within = omega (arith, c.loop-count.invariant.within); passed = omega (arith, c.loop-count.invariant.passed, passed) }
