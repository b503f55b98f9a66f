-- The words of `web` are the word, a port, and the words of `serve`.
use Rattle.std.proofs.Common.{◌≡◌, ◌≤◌, ◌-◌, ◌∙◌, ℕ, List, [], ◌∷◌, map, length, take, drop, get_or, refl, sym, ap, subst, arith}
use Rattle.std.proofs.lemmas.List.{take_rest}
use Rattle.pv_serve.specs.Web.{AskAtPort, AskForWeb}
use Rattle.pv_serve.specs.declared.options.ServeOptions.{ServeOptions}

-- the first two words and those after them
words_are : {X Y : Type 0} (f : X → Y) (words : List X) (first second : X) → 2 ≤ length words
    → map f words ≡ f (get_or words 0 first) ∷ f (get_or words 1 second) ∷ map f (drop 2 words)
words_are f [] first second many = absurd (omega (arith, many))
words_are f (word ∷ []) first second many = absurd (omega (arith, many))
words_are f (word ∷ other ∷ more) first second many = refl

-- as a pattern of two words and a rest has them
pub two_and_more : {X Y : Type 0} (f : X → Y) (words : List X) (first second : X) → 2 ≤ length words
    → map f words ≡ f (get_or words 0 first) ∷ f (get_or words 1 second) ∷ map f (take (length words - 2) (drop 2 words))
two_and_more f words first second many =
    words_are f words first second many
    ∙ ap (λ rest. f (get_or words 0 first) ∷ f (get_or words 1 second) ∷ map f rest) (sym (take_rest words 2))

-- what words ask for whose first two are known is asked by the second and those after it
pub asks_after : (words : List (List ℕ)) (first port : List ℕ) (serve : List (List ℕ)) (web : ℕ) (options : ServeOptions)
    → words ≡ first ∷ port ∷ serve → AskForWeb words web options → AskAtPort port serve web options
asks_after words first port serve web options are asks =
    let same = sym asks.begun ∙ are in
    subst (λ (it : List ℕ). AskAtPort it serve web options) (ap (λ (l : List (List ℕ)). get_or l 1 []) same)
    (subst (λ (rest : List (List ℕ)). AskAtPort asks.port rest web options) (ap (λ (l : List (List ℕ)). drop 2 l) same) asks.asked)
