use Rattle.std.proofs.Common.{◌∷◌, [], List, ℕ, ap, sym, subst, ◌∙◌}
use Rattle.std.specs.Prelude.{map, string_bytes}
use Rattle.pv_play.specs.Task.{task_word}
use Rattle.pv_play.specs.Wrong.{IsTakenNumber}
use Rattle.pv_play.proofs.words_error.error_from.Goals as goal

-- the word is named: it asks for neither help nor the version, and is no number of the task
pub returns-in-None-2-clause-found : goal.returns-in-None-2-clause-found
returns-in-None-2-clause-found c =
    let task = task_word c.args.task in
    let later = map string_bytes c.args.later.now in (
      (later, ap (λ (w : List ℕ). task ∷ w ∷ later) (sym c.new.ensures)),
      (λ about is. let asked = (c.in-None-2.ensures about).1 (ap (λ (w : List ℕ). task ∷ w ∷ []) (sym c.new.ensures) ∙ is) in absurd cc),
      (λ number. let taken = c.if-is_number.ensures.1 (subst (λ (w : List ℕ). IsTakenNumber c.args.task w) c.new.ensures number) in absurd cc),
    )
