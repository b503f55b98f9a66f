-- The words of a command line as lists of bytes.
use Rattle.std.proofs.Common.{◌≡◌, ℕ, ◌^◌, ◌≤◌, ◌<◌, List, [], ◌∷◌, length, Option, None, Some, decimal, refl, sym, ap, subst, ◌∙◌, inl, inr, arith}
use Rattle.std.specs.Prelude.{map, IfSome, IsNone}
use Rattle.std.specs.Str.Parse.{AllDigits}
use Rattle.std.proofs.Math.ListN.{get_or}
use Rattle.std.proofs.lemmas.Fmt.{decimal_is_IsNumeral}
use Rattle.pv_script.specs.Asking.{AskFor}
use Rattle.pv_play.specs.declared.about.About.{About}
use Rattle.pv_play.specs.declared.about.About.TheVariants.{Help, Version}
use Rattle.pv_play.specs.declared.task.Task.{Task}
use Rattle.pv_play.specs.declared.task.Task.TheVariants.{Play, Generate, Evening}
use Rattle.pv_play.specs.declared.words_error.WordsError.{WordsError}
use Rattle.pv_play.specs.declared.words_error.WordsError.TheVariants.{NoCommand, UnknownCommand, NoNumber, NotNumber, AfterNumber, AfterAbout, NotText}
use Rattle.pv_play.specs.About.{about_words}
use Rattle.pv_play.specs.Task.{task_word, last_number}
use Rattle.pv_play.specs.Wrong.{AskForOne, IsFirstWrong}

module _ {X : Type 0} (text : X → List ℕ) where
  -- words with a first one are its text, and more
  pub first_of : (words : List X) (first : X) (word : List ℕ) → 1 ≤ length words → first ≡ get_or words 0 first → word ≡ text first
      → (later : List (List ℕ)) × (map text words ≡ word ∷ later)
  first_of [] first word some is same = absurd (omega (arith, some))
  first_of (x ∷ xs) first word some is same = (map text xs, ap (λ (w : List ℕ). w ∷ map text xs) (sym (same ∙ ap text is)))

  -- no words have no texts
  pub none_of : (words : List X) → length words < 1 → map text words ≡ []
  none_of [] none = refl
  none_of (x ∷ xs) none = absurd (omega (arith, none))

-- a number in decimal begins with no dash
no_dash : (number : ℕ) (rest : List ℕ) → number < 2 ^ 64 → 45 ∷ rest ≡ decimal number → ⊥
no_dash number rest small is =
    let digits = subst (λ (l : List ℕ). AllDigits 10 l) (sym is) (decimal_is_IsNumeral number small).0.1 in
    absurd (omega (arith, digits.0))

-- words that ask for help or the version ask for no task
pub about_is_no_task : (command : List ℕ) (last number : ℕ) → last < 2 ^ 64 → (words : List (List ℕ)) (about : About)
    → words ≡ about_words about → AskFor command last words number → ⊥
about_is_no_task command last number small words (Help None) is asks = let both = sym is ∙ asks.asked in absurd cc
about_is_no_task command last number small words (Version None) is asks = let both = sym is ∙ asks.asked in absurd cc
about_is_no_task command last number small words (Help (Some task)) is asks =
    no_dash number _ (omega (arith, asks.few, small)) (ap (λ (l : List (List ℕ)). get_or l 1 []) (sym is ∙ asks.asked))
about_is_no_task command last number small words (Version (Some task)) is asks =
    no_dash number _ (omega (arith, asks.few, small)) (ap (λ (l : List (List ℕ)). get_or l 1 []) (sym is ∙ asks.asked))

-- ---- an error excludes that the words are taken

-- no task's word begins with a dash
task_has_no_dash : (task : Task) (rest : List ℕ) → task_word task ≡ 45 ∷ rest → ⊥
task_has_no_dash Play rest is = absurd (omega (arith, ap (λ (l : List ℕ). get_or l 0 0) is))
task_has_no_dash Generate rest is = absurd (omega (arith, ap (λ (l : List ℕ). get_or l 0 0) is))
task_has_no_dash Evening rest is = absurd (omega (arith, ap (λ (l : List ℕ). get_or l 0 0) is))

-- a word is one task's
one_task : (a b : Task) → task_word a ≡ task_word b → a ≡ b
one_task Play Play is = refl
one_task Play Generate is = absurd cc
one_task Play Evening is = absurd cc
one_task Generate Play is = absurd cc
one_task Generate Generate is = refl
one_task Generate Evening is = absurd cc
one_task Evening Play is = absurd cc
one_task Evening Generate is = absurd cc
one_task Evening Evening is = refl

-- the first and the second of words that are the same
first_same : (a b : List (List ℕ)) → a ≡ b → get_or a 0 [] ≡ get_or b 0 []
first_same a b is = ap (λ (l : List (List ℕ)). get_or l 0 []) is

second_same : (a b : List (List ℕ)) → a ≡ b → get_or a 1 [] ≡ get_or b 1 []
second_same a b is = ap (λ (l : List (List ℕ)). get_or l 1 []) is

-- words with an error are not taken
wrong_is_not_taken : (words : List (List ℕ)) (error : WordsError) → IsFirstWrong words error → AskForOne words → ⊥
wrong_is_not_taken words NoCommand is (inl (task, number, asks)) = let both = sym is ∙ asks.asked in absurd cc
wrong_is_not_taken words NoCommand is (inr ((Help None), asks)) = let both = sym is ∙ asks in absurd cc
wrong_is_not_taken words NoCommand is (inr ((Version None), asks)) = let both = sym is ∙ asks in absurd cc
wrong_is_not_taken words NoCommand is (inr ((Help (Some other)), asks)) = let both = sym is ∙ asks in absurd cc
wrong_is_not_taken words NoCommand is (inr ((Version (Some other)), asks)) = let both = sym is ∙ asks in absurd cc
wrong_is_not_taken words (UnknownCommand word) ((later, is), no_about, no_task) (inl (task, number, asks)) =
    no_task task (first_same _ _ (sym is ∙ asks.asked))
wrong_is_not_taken words (UnknownCommand word) ((later, is), no_about, no_task) (inr ((Help None), asks)) =
    no_about (Help None) (ap (λ (w : List ℕ). w ∷ []) (first_same _ _ (sym is ∙ asks)))
wrong_is_not_taken words (UnknownCommand word) ((later, is), no_about, no_task) (inr ((Version None), asks)) =
    no_about (Version None) (ap (λ (w : List ℕ). w ∷ []) (first_same _ _ (sym is ∙ asks)))
wrong_is_not_taken words (UnknownCommand word) ((later, is), no_about, no_task) (inr ((Help (Some other)), asks)) =
    no_task other (first_same _ _ (sym is ∙ asks))
wrong_is_not_taken words (UnknownCommand word) ((later, is), no_about, no_task) (inr ((Version (Some other)), asks)) =
    no_task other (first_same _ _ (sym is ∙ asks))
wrong_is_not_taken words (NoNumber task) is (inl (other, number, asks)) = let both = sym is ∙ asks.asked in absurd cc
wrong_is_not_taken words (NoNumber task) is (inr ((Help None), asks)) = task_has_no_dash task _ (first_same _ _ (sym is ∙ asks))
wrong_is_not_taken words (NoNumber task) is (inr ((Version None), asks)) = task_has_no_dash task _ (first_same _ _ (sym is ∙ asks))
wrong_is_not_taken words (NoNumber task) is (inr ((Help (Some other)), asks)) = let both = sym is ∙ asks in absurd cc
wrong_is_not_taken words (NoNumber task) is (inr ((Version (Some other)), asks)) = let both = sym is ∙ asks in absurd cc
wrong_is_not_taken words (NotNumber task word) ((later, is), no_about, no_number) (inl (other, number, asks)) =
    let both = sym is ∙ asks.asked in
    let same = one_task task other (first_same _ _ both) in
    no_number (number, asks.some, subst (λ (t : Task). number ≤ last_number t) (sym same) asks.few, second_same _ _ both)
wrong_is_not_taken words (NotNumber task word) ((later, is), no_about, no_number) (inr ((Help None), asks)) =
    let both = sym is ∙ asks in absurd cc
wrong_is_not_taken words (NotNumber task word) ((later, is), no_about, no_number) (inr ((Version None), asks)) =
    let both = sym is ∙ asks in absurd cc
wrong_is_not_taken words (NotNumber task word) ((later, is), no_about, no_number) (inr ((Help (Some other)), asks)) =
    no_about (Help (Some task)) (ap (λ (w : List ℕ). task_word task ∷ w ∷ []) (second_same _ _ (sym is ∙ asks)))
wrong_is_not_taken words (NotNumber task word) ((later, is), no_about, no_number) (inr ((Version (Some other)), asks)) =
    no_about (Version (Some task)) (ap (λ (w : List ℕ). task_word task ∷ w ∷ []) (second_same _ _ (sym is ∙ asks)))
wrong_is_not_taken words (AfterNumber task word) (number, some, few, (later, is)) (inl (other, value, asks)) =
    let both = sym is ∙ asks.asked in absurd cc
wrong_is_not_taken words (AfterNumber task word) (number, some, few, (later, is)) (inr ((Help None), asks)) =
    let both = sym is ∙ asks in absurd cc
wrong_is_not_taken words (AfterNumber task word) (number, some, few, (later, is)) (inr ((Version None), asks)) =
    let both = sym is ∙ asks in absurd cc
wrong_is_not_taken words (AfterNumber task word) (number, some, few, (later, is)) (inr ((Help (Some other)), asks)) =
    let both = sym is ∙ asks in absurd cc
wrong_is_not_taken words (AfterNumber task word) (number, some, few, (later, is)) (inr ((Version (Some other)), asks)) =
    let both = sym is ∙ asks in absurd cc
wrong_is_not_taken words (AfterAbout (Help None) word) (later, is) (inl (other, number, asks)) =
    task_has_no_dash other _ (sym (first_same _ _ (sym is ∙ asks.asked)))
wrong_is_not_taken words (AfterAbout (Help None) word) (later, is) (inr ((Help None), asks)) = let both = sym is ∙ asks in absurd cc
wrong_is_not_taken words (AfterAbout (Help None) word) (later, is) (inr ((Version None), asks)) = let both = sym is ∙ asks in absurd cc
wrong_is_not_taken words (AfterAbout (Help None) word) (later, is) (inr ((Help (Some other)), asks)) =
    task_has_no_dash other _ (sym (first_same _ _ (sym is ∙ asks)))
wrong_is_not_taken words (AfterAbout (Help None) word) (later, is) (inr ((Version (Some other)), asks)) =
    task_has_no_dash other _ (sym (first_same _ _ (sym is ∙ asks)))
wrong_is_not_taken words (AfterAbout (Help (Some task)) word) (later, is) (inl (other, number, asks)) =
    let both = sym is ∙ asks.asked in absurd cc
wrong_is_not_taken words (AfterAbout (Help (Some task)) word) (later, is) (inr ((Help None), asks)) = let both = sym is ∙ asks in absurd cc
wrong_is_not_taken words (AfterAbout (Help (Some task)) word) (later, is) (inr ((Version None), asks)) =
    let both = sym is ∙ asks in absurd cc
wrong_is_not_taken words (AfterAbout (Help (Some task)) word) (later, is) (inr ((Help (Some other)), asks)) =
    let both = sym is ∙ asks in absurd cc
wrong_is_not_taken words (AfterAbout (Help (Some task)) word) (later, is) (inr ((Version (Some other)), asks)) =
    let both = sym is ∙ asks in absurd cc
wrong_is_not_taken words (AfterAbout (Version None) word) (later, is) (inl (other, number, asks)) =
    task_has_no_dash other _ (sym (first_same _ _ (sym is ∙ asks.asked)))
wrong_is_not_taken words (AfterAbout (Version None) word) (later, is) (inr ((Help None), asks)) = let both = sym is ∙ asks in absurd cc
wrong_is_not_taken words (AfterAbout (Version None) word) (later, is) (inr ((Version None), asks)) = let both = sym is ∙ asks in absurd cc
wrong_is_not_taken words (AfterAbout (Version None) word) (later, is) (inr ((Help (Some other)), asks)) =
    task_has_no_dash other _ (sym (first_same _ _ (sym is ∙ asks)))
wrong_is_not_taken words (AfterAbout (Version None) word) (later, is) (inr ((Version (Some other)), asks)) =
    task_has_no_dash other _ (sym (first_same _ _ (sym is ∙ asks)))
wrong_is_not_taken words (AfterAbout (Version (Some task)) word) (later, is) (inl (other, number, asks)) =
    let both = sym is ∙ asks.asked in absurd cc
wrong_is_not_taken words (AfterAbout (Version (Some task)) word) (later, is) (inr ((Help None), asks)) =
    let both = sym is ∙ asks in absurd cc
wrong_is_not_taken words (AfterAbout (Version (Some task)) word) (later, is) (inr ((Version None), asks)) =
    let both = sym is ∙ asks in absurd cc
wrong_is_not_taken words (AfterAbout (Version (Some task)) word) (later, is) (inr ((Help (Some other)), asks)) =
    let both = sym is ∙ asks in absurd cc
wrong_is_not_taken words (AfterAbout (Version (Some task)) word) (later, is) (inr ((Version (Some other)), asks)) =
    let both = sym is ∙ asks in absurd cc
wrong_is_not_taken words NotText is taken = absurd is

-- so words that are taken have none
pub none_if_taken : (words : List (List ℕ)) (error : Option WordsError) → IfSome error (IsFirstWrong words) → AskForOne words → IsNone error
none_if_taken words None found taken = refl
none_if_taken words (Some error) found taken = absurd (wrong_is_not_taken words error found taken)
