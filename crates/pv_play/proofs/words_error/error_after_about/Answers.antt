use Rattle.std.proofs.Common.{◌++◌, List, ℕ, ap, ◌∙◌, inr}
use Rattle.std.proofs.lemmas.List.{append-nil}
use Rattle.pv_play.specs.About.{about_words}
use Rattle.pv_play.proofs.Words.{first_of, none_of}
use Rattle.pv_play.proofs.words_error.error_after_about.Goals as goal

-- no word follows
pub returns-in-empty-clause-taken : goal.returns-in-empty-clause-taken
returns-in-empty-clause-taken c = λ none.
    let asks = about_words c.args.about in
    inr (c.args.about, ap (λ (l : List (List ℕ)). asks ++ l) (none_of _ c.args.words.now c.in-empty.len_below) ∙ append-nil asks)

-- the first word that follows is the one that is named
pub returns-in-len1-up-clause-found : goal.returns-in-len1-up-clause-found
returns-in-len1-up-clause-found c =
    let first = first_of _ c.args.words.now c.word-item.result _ c.in-len1-up.len_at_least c.word-item.is (c.new.ensures ∙ c.deref.ensures) in
    (first.0, ap (λ (l : List (List ℕ)). about_words c.args.about ++ l) first.1)
