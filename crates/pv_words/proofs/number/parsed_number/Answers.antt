use Rattle.std.proofs.Common.{rules, ◌≡◌, Some, ap, subst, sym, ◌∙◌}
use Rattle.std.specs.Prelude.{decimal, IsUtf8}
use Rattle.std.specs.Result.{result_ok}
use Rattle.std.proofs.lemmas.Fmt.{parse-decimal, IsAscii-decimal}
use Rattle.std.proofs.lemmas.Str.{IsUtf8-from_ascii}
use Rattle.pv_words.proofs.number.parsed_number.Goals as goal

-- digits are a text
pub returns-in_default-clause-only : goal.returns-in_default-clause-only
returns-in_default-clause-only c = λ number is_number. let small = is_number.0 in let is = is_number.1 in
    absurd (c.in_default.ensures.cases.0 (subst IsUtf8 (sym is) (IsUtf8-from_ascii (decimal number) (IsAscii-decimal number small))))

-- they are parsed
pub returns-in_default-parse-clause-only : goal.returns-in_default-parse-clause-only
returns-in_default-parse-clause-only c = λ number is_number. let small = is_number.0 in let is = is_number.1 in
    absurd (c.in_default-parse.not-Ok number
    (parse-decimal 64 number c.in-Ok.digits.now c.parse.result small small (c.in-Ok.ensures.cases.0 ∙ is) c.parse.ensures.value.0))

-- what is parsed is their number
pub returns-then-eq-clause-only : goal.returns-then-eq-clause-only
returns-then-eq-clause-only c = λ number is_number. let small = is_number.0 in let is = is_number.1 in
    ap result_ok (sym c.in-Ok-parse.is
    ∙ parse-decimal 64 number c.in-Ok.digits.now c.parse.result small small (c.in-Ok.ensures.cases.0 ∙ is) c.parse.ensures.value.0)

-- and that number's digits are the text
pub returns-else-eq-clause-only : goal.returns-else-eq-clause-only
returns-else-eq-clause-only c = λ number is_number. let small = is_number.0 in let is = is_number.1 in
    let parsed : Some c.in-Ok-parse.number ≡ Some number =
    ap result_ok (sym c.in-Ok-parse.is
    ∙ parse-decimal 64 number c.in-Ok.digits.now c.parse.result small small (c.in-Ok.ensures.cases.0 ∙ is) c.parse.ensures.value.0) in
    let equal : c.in-Ok-parse.number ≡ number = cc in
    let same : c.as_bytes.result.now ≡ c.args.text.now = c.as_bytes.ensures.value ∙ c.format.ensures.text ∙ ap decimal equal ∙ sym is in
    search rules
