use Rattle.std.proofs.Common.{◌∷◌, List, ℕ, ap, ◌∙◌}
use Rattle.pv_play.specs.Task.{task_word}
use Rattle.pv_play.proofs.Words.{first_of}
use Rattle.pv_play.proofs.words_error.error_after_number.Goals as goal

-- the first word after the number is the one that is named
pub returns-in-len1-up-clause-found : goal.returns-in-len1-up-clause-found
returns-in-len1-up-clause-found c =
    let task = task_word c.args.task in
    let number = c.requires in
    let first = first_of _ c.args.words.now c.word-item.result _ c.in-len1-up.len_at_least c.word-item.is (c.new.ensures ∙ c.deref.ensures) in (
      number.0,
      number.1,
      number.2,
      (
        first.0,
        ap (λ (l : List (List ℕ)). task ∷ c.args.number.now ∷ l) first.1
            ∙ ap (λ (w : List ℕ). task ∷ w ∷ c.new.result ∷ first.0) number.3,
      ),
    )
