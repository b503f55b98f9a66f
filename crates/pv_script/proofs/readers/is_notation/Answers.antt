use Rattle.std.proofs.Common.{rules, ◌≡◌, length, sym, ◌∙◌}
use Rattle.std.specs.Prelude.{IsNone}
use Rattle.pv_script.proofs.Notation.{whole_rest, notation_shorter, nothing_left, something_left}
use Rattle.pv_script.proofs.readers.is_notation.Goals as goal

-- the rest is a notation exactly when what follows its first byte is one
pub loop-later-preserved : goal.loop-later-preserved
loop-later-preserved c =
    let before = c.loop-later.invariant in
    let here = whole_rest c.loop-later.rest.now c.in-Some.field-0-0 c.in-Some.later.now c.in-Some.ensures.found in
    (λ whole. here.0 (before.0 whole), λ whole. before.1 (here.1 whole))

pub loop-later-smaller : goal.loop-later-smaller
loop-later-smaller c = notation_shorter _ _ _ c.in-Some.ensures.found

-- nothing is left
pub returns-then-is_empty : goal.returns-then-is_empty
returns-then-is_empty c =
    let none : length c.loop-later.rest.now ≡ 0 = search rules in
    nothing_left c.args.text.now c.loop-later.rest.now c.is_empty-then-is_empty.result c.is_empty-then-is_empty.ensures none c.loop-later.invariant

-- something is left
pub returns-else-is_empty : goal.returns-else-is_empty
returns-else-is_empty c =
    let some : length c.loop-later.rest.now ≡ 0 → ⊥ = λ is. search rules in
    let none : IsNone c.first_byte.result = search rules in
    let failed = c.if-is_empty.false in (
      λ yes. let both = sym yes ∙ failed in absurd cc,
      λ n. absurd (something_left c.args.text.now c.loop-later.rest.now some (c.first_byte.ensures.missing none) c.loop-later.invariant n),
    )
