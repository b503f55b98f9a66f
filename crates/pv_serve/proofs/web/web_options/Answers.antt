use Rattle.std.proofs.Common.{◌≡◌, ◌-◌, ◌∙◌, ◌∷◌, string_bytes, get_or, codes, arith, rules, ap, ap₂, map, take, drop, length, List, ℕ}
use Rattle.std.proofs.lemmas.Result.{IfOk-weaker}
use Rattle.pv_serve.proofs.Worded.{two_and_more, asks_after}
use Rattle.pv_serve.proofs.web.web_options.Goals as goal

-- the words are the word, the port and those of the server
pub returns-in-len2-up-clause-ok : goal.returns-in-len2-up-clause-ok
returns-in-len2-up-clause-ok c =
    let words = c.args.words.now in
    let rest = take (length words - 2) (drop 2 words) in
    let port = c.as_str-in-len2-up.result.now in
    let is_web : string_bytes (get_or words 0 c.first-item.result) ≡ codes "web" = search rules in
    let is_port : string_bytes (get_or words 1 c.port-item.result) ≡ port = search rules in
    IfOk-weaker c.options_at.result _ _ (λ options at. record {
      port = port;
      serve = map string_bytes rest;
      begun = two_and_more string_bytes words c.first-item.result c.port-item.result (omega (arith, c.in-len2-up.len_at_least))
          ∙ ap₂ (λ (a b : List ℕ). a ∷ b ∷ map string_bytes rest) is_web is_port;
      asked = at;
    }) c.options_at.ensures.ok

-- and others ask for the same
pub returns-in-len2-up-clause-usage : goal.returns-in-len2-up-clause-usage
returns-in-len2-up-clause-usage c = λ is web other asks.
    let words = c.args.words.now in
    let first = string_bytes (get_or words 0 c.first-item.result) in
    let rest = map string_bytes (take (length words - 2) (drop 2 words)) in
    let port = c.as_str-in-len2-up.result.now in
    let is_port : string_bytes (get_or words 1 c.port-item.result) ≡ port = search rules in
    c.options_at.ensures.usage is web other
    (asks_after _ first port rest web other
    (two_and_more string_bytes words c.first-item.result c.port-item.result (omega (arith, c.in-len2-up.len_at_least))
    ∙ ap (λ (p : List ℕ). first ∷ p ∷ rest) is_port) asks)
