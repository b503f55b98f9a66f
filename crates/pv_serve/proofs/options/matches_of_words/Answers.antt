use Rattle.std.proofs.Common.{map, string_bytes, [], sym, ◌∙◌, ap, subst, inl, inr}
use Rattle.clap.specs.Words.{App, fault_of, matches_of, first_of, found_of, is_simple, is_simple_and_free, HasKind, Kinds}
use Rattle.clap.proofs.WalkLemmas.{first_value-rows}
use Rattle.pv_serve.specs.Options.{serve_faults, text_given}
use Rattle.pv_serve.proofs.Given.{serve_is_simple, serve_is_free, err_is}
use Rattle.pv_serve.proofs.options.matches_of_words.Goals as goal

-- the command finds no fault in words that it takes
pub returns-in-Ok-try_get_matches_from-clause-taken : goal.returns-in-Ok-try_get_matches_from-clause-taken
unfolding serve_faults
returns-in-Ok-try_get_matches_from-clause-taken c =
    let words = map string_bytes c.args.words.now in
    ap (λ (a : App). fault_of a words) (sym c.in-Ok.ensures)
    ∙ c.in-Ok-try_get_matches_from.ensures.kinds (ap is_simple_and_free c.in-Ok.ensures ∙ serve_is_free)

-- what it found is what the words give
pub returns-in-Ok-try_get_matches_from-clause-given : goal.returns-in-Ok-try_get_matches_from-clause-given
unfolding text_given
returns-in-Ok-try_get_matches_from-clause-given c = λ name.
    let words = map string_bytes c.args.words.now in
    let rows = (c.in-Ok-try_get_matches_from.ensures.matches (ap is_simple c.in-Ok.ensures ∙ serve_is_simple)).0 in
    first_value-rows (found_of c.in-Ok-try_get_matches_from.matches) name
    ∙ ap (first_of name) (rows ∙ ap (λ (a : App). matches_of a words) c.in-Ok.ensures)

-- words that it does not take have a fault, unless memory ran out
pub returns-in-Err-clause-usage : goal.returns-in-Err-clause-usage
unfolding serve_faults
returns-in-Err-clause-usage c = λ is none.
    let words = map string_bytes c.args.words.now in
    let kinds = c.in-Err.ensures.kinds (ap is_simple_and_free c.in-Ok.ensures ∙ serve_is_free) in
    let has : HasKind [] c.in-Err.error = subst (λ (k : Kinds). HasKind k c.in-Err.error)
    (ap (λ (a : App). fault_of a words) c.in-Ok.ensures ∙ none) kinds in
    elim has [
      | inl is_memory ↦ c.fault_for.ensures (err_is _ _ is) is_memory
      | inr among ↦ among
    ]
