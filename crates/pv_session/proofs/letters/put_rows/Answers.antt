use Rattle.std.proofs.Common.{ap, ◌∙◌, ◌≡◌, ◌+◌, ◌*◌, ◌≤◌, length, take, arith}
use Rattle.std.specs.Prelude.{flat_map}
use Rattle.std.proofs.Math.Nat.{mul-le-mul_left}
use Rattle.std.proofs.lemmas.List.{length-take-le}
use Rattle.std.proofs.lemmas.List.Elements.{All-take}
use Rattle.pv_fields.proofs.CallerLemmas.{appends_more}
use Rattle.pv_post.specs.Item.{IsFilled}
use Rattle.pv_screen.specs.Composing.{at_left}
use Rattle.pv_session.proofs.LetterTexts.{rows_length}
use Rattle.pv_session.proofs.letters.put_rows.Goals as goal

-- there is room for one row more
pub put_row-requires : goal.put_row-requires
put_row-requires c =
    let rows = c.args.rows.now in
    let i = c.loop-row.row-index in
    let most : 40 * (i + 1) ≤ 40 * length rows = mul-le-mul_left 40 (omega (arith, c.loop-row-test.true)) in
    let some : length (flat_map (at_left 40) (take i rows)) ≡ 40 * i =
    rows_length (take i rows) (All-take IsFilled i rows c.requires.filled)
    ∙ ap (λ k. 40 * k) (length-take-le i rows (omega (arith, c.loop-row-test.true))) in
    omega (arith, c.loop-row.invariant.room, c.requires.room, some, most)

-- one row more is appended
pub loop-row-preserved : goal.loop-row-preserved
loop-row-preserved c =
    appends_more (at_left 40) c.args.rows.now c.loop-row.row-index c.row-item.result c.args.out.now c.loop-row.out c.put_row.new.out
    c.loop-row-test.true c.row-item.is c.loop-row.invariant c.put_row.ensures
