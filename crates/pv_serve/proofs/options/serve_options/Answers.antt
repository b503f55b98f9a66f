use Rattle.std.proofs.Common.{◌≡◌, string_bytes, get_or, codes, arith, rules}
use Rattle.std.proofs.lemmas.Result.{IfOk-weaker}
use Rattle.pv_serve.proofs.Given.{begin_with_serve}
use Rattle.pv_serve.proofs.options.serve_options.Goals as goal

-- the first word is the command's
pub returns-in-len1-up-clause-ok : goal.returns-in-len1-up-clause-ok
returns-in-len1-up-clause-ok c =
    let words = c.args.words.now in
    let is_serve : string_bytes (get_or words 0 c.first-item.result) ≡ codes "serve" = search rules in
    IfOk-weaker c.options_after_word.result _ _
    (λ options is. (begin_with_serve string_bytes words c.first-item.result (omega (arith, c.in-len1-up.len_at_least)) is_serve, is))
    c.options_after_word.ensures.ok
