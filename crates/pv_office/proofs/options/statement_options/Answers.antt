use Rattle.std.proofs.Common.{◌≡◌, ◌↔◌, ℕ, List, [], ◌∷◌, length, map, string_bytes, sym, ap, subst, ◌∙◌, arith}
use Rattle.std.specs.Prelude.{IsNone}
use Rattle.pv_office.specs.Options.{AskForStatement, AskNoStatement}
use Rattle.pv_office.proofs.Words.{four_words, four_same}
use Rattle.pv_office.proofs.options.statement_options.Goals as goal

-- the words are these four
pub returns-in-len4-clause-none : goal.returns-in-len4-clause-none
returns-in-len4-clause-none c =
    let words = c.args.words.now in
    let four : length words ≡ 4 = omega (arith, c.in-len4.len_at_least, c.in-len4.len_below) in
    let texts = four_words string_bytes words c.command-item.result c.folder-item.result c.account-item.result c.month-item.result four in
    let same : map string_bytes words
    ≡ c.deref.result.now ∷ c.deref-in-len4.result.now ∷ c.deref-in-len4-2.result.now ∷ c.deref-in-len4-3.result.now ∷ [] =
    texts ∙ four_same (ap string_bytes (sym c.command-item.is) ∙ sym c.deref.ensures)
    (ap string_bytes (sym c.folder-item.is) ∙ sym c.deref-in-len4.ensures)
    (ap string_bytes (sym c.account-item.is) ∙ sym c.deref-in-len4-2.ensures)
    (ap string_bytes (sym c.month-item.is) ∙ sym c.deref-in-len4-3.ensures) in
    subst (λ (l : List (List ℕ)). IsNone c.options_of.result ↔ AskNoStatement l) (sym same) c.options_of.ensures.none

pub returns-in-len4-clause-only : goal.returns-in-len4-clause-only
returns-in-len4-clause-only c =
    let words = c.args.words.now in
    let four : length words ≡ 4 = omega (arith, c.in-len4.len_at_least, c.in-len4.len_below) in
    let texts = four_words string_bytes words c.command-item.result c.folder-item.result c.account-item.result c.month-item.result four in
    let same : map string_bytes words
    ≡ c.deref.result.now ∷ c.deref-in-len4.result.now ∷ c.deref-in-len4-2.result.now ∷ c.deref-in-len4-3.result.now ∷ [] =
    texts ∙ four_same (ap string_bytes (sym c.command-item.is) ∙ sym c.deref.ensures)
    (ap string_bytes (sym c.folder-item.is) ∙ sym c.deref-in-len4.ensures)
    (ap string_bytes (sym c.account-item.is) ∙ sym c.deref-in-len4-2.ensures)
    (ap string_bytes (sym c.month-item.is) ∙ sym c.deref-in-len4-3.ensures) in
    λ folder account year month ask. c.options_of.ensures.only folder account year month
    (subst (λ (l : List (List ℕ)). AskForStatement l folder account year month) same ask)
