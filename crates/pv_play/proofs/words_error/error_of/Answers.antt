use Rattle.std.proofs.Common.{◌∷◌, [], List, ℕ, ap, sym, ◌∙◌}
use Rattle.pv_play.proofs.Words.{first_of}
use Rattle.pv_play.proofs.words_error.error_of.Goals as goal

-- the first word is named: it is no task's, and asks for neither help nor the version
pub returns-in-None-of_word-clause-found : goal.returns-in-None-of_word-clause-found
returns-in-None-of_word-clause-found c =
    let named = c.new.ensures ∙ c.deref-in-None-of_word.ensures in (
      first_of _ c.args.words.now c.first-item.result _ c.in-len1-up.len_at_least c.first-item.is named,
      (λ about is. let asked = (c.in-None-of_word.ensures about).1
          (ap (λ (w : List ℕ). w ∷ []) (c.deref-in-None.ensures ∙ sym named) ∙ is) in absurd cc),
      (λ task is. let asked = (c.in-None.ensures task).1 (c.deref.ensures ∙ sym named ∙ is) in absurd cc),
    )
