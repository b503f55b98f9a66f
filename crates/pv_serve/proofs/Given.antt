-- What the words of `serve` give, and what the command makes of them.
use Rattle.std.proofs.Common.{◌≡◌, ℕ, ◌≤◌, true, List, [], ◌∷◌, length, map, get_or, Option, Some, codes, refl, sym, ◌∙◌, ap, subst, arith, Result, Ok, Err}
use Rattle.clap.specs.Words.{is_simple, is_simple_and_free}
use Rattle.clap.proofs.OnLiterals.{clap_on_literals}
use Rattle.pv_serve.specs.Options.{serve_command, serve_faults, text_given, GivesNumbers, ArePortsApart, BeginWithServe, GiveOptions}
use Rattle.pv_serve.specs.declared.options.ServeOptions.{ServeOptions}

-- the command is one of which the parser says all
pub serve_is_simple : is_simple serve_command ≡ true
unfolding serve_command clap_on_literals
serve_is_simple = refl

pub serve_is_free : is_simple_and_free serve_command ≡ true
unfolding serve_command clap_on_literals
serve_is_free = refl

module _ (words : List (List ℕ)) (given : List ℕ → Option (List ℕ)) (same : (name : List ℕ) → given name ≡ text_given words name)
    (options : ServeOptions) where
  -- the numbers that are given are those that the words give
  numbers_of_words : GivesNumbers given options → GivesNumbers (text_given words) options
  numbers_of_words = subst (λ (by : List ℕ → Option (List ℕ)). GivesNumbers by options) (λ i name. same name i)

  -- and the other way round
  pub numbers_given : GivesNumbers (text_given words) options → GivesNumbers given options
  numbers_given = subst (λ (by : List ℕ → Option (List ℕ)). GivesNumbers by options) (sym (λ i name. same name i))

  -- these are the options of the words
  pub options_of_words : serve_faults words ≡ [] → given (codes "folder") ≡ Some options.folder → GivesNumbers given options
      → ArePortsApart options → GiveOptions words options
  options_of_words taken folder numbers apart = record {
    taken = taken;
    folder = sym (same (codes "folder")) ∙ folder;
    numbers = numbers_of_words numbers;
    apart = apart;
  }

-- words of which the first is the command's
pub begin_with_serve : {X : Type 0} (text : X → List ℕ) (words : List X) (first : X) → 1 ≤ length words
    → text (get_or words 0 first) ≡ codes "serve" → BeginWithServe (map text words)
begin_with_serve text [] first some is = absurd (omega (arith, some))
begin_with_serve text (word ∷ words) first some is = (map text words, ap (λ (w : List ℕ). w ∷ map text words) is)

-- the error of a result, or else this one
err_or : {T E : Type 0} → E → Result T E → E
err_or other (Ok value) = other
err_or other (Err error) = error

-- results that are errors and equal have equal errors
pub err_is : {T E : Type 0} (one other : E) → ◌≡◌ {A = Result T E} (Err one) (Err other) → one ≡ other
unfolding err_or
err_is {T} {E} one other same = ap (λ (r : Result T E). err_or one r) same
