use Rattle.std.proofs.Common.{◌≡◌, ◌≤◌, length, decimal, ap, subst, ◌∙◌, arith}
use Rattle.pv_fields.specs.Out.{Appends}
use Rattle.pv_fields.proofs.CallerLemmas.{appends_then}
use Rattle.pv_statement.proofs.Texts.{length-year}
use Rattle.pv_statement.proofs.spelling.put_month.Goals as goal

pub put_two-requires-clause-room : goal.put_two-requires-clause-room
put_two-requires-clause-room c =
    let text : c.as_bytes.result.now ≡ decimal c.args.month.now.year = c.as_bytes.ensures.value ∙ c.format.ensures.text in
    let size : length c.as_bytes.result.now ≡ length (decimal c.args.month.now.year) = ap length text in
    let year = length-year c.args.month.now.year (omega (arith, c.args.month.now.valid.year.1)) in
    omega (arith, c.requires, c.put_run.ensures.appends.room, c.put_run-2.ensures.appends.room, size, year)

pub returns-clause-appends : goal.returns-clause-appends
returns-clause-appends c =
    let text : c.as_bytes.result.now ≡ decimal c.args.month.now.year = c.as_bytes.ensures.value ∙ c.format.ensures.text in
    let year = subst (λ bytes. Appends c.args.out.now c.put_run.new.self bytes) text c.put_run.ensures.appends in
    appends_then (appends_then year c.put_run-2.ensures.appends) c.put_two.ensures

pub returns-clause-short : goal.returns-clause-short
returns-clause-short c =
    let text : c.as_bytes.result.now ≡ decimal c.args.month.now.year = c.as_bytes.ensures.value ∙ c.format.ensures.text in
    let size : length c.as_bytes.result.now ≡ length (decimal c.args.month.now.year) = ap length text in
    let year = length-year c.args.month.now.year (omega (arith, c.args.month.now.valid.year.1)) in
    omega (arith, c.put_run.ensures.appends.room, c.put_run-2.ensures.appends.room, c.put_two.ensures.room, size, year)
