-- How many writes there were, line by line: one for each line that has an answer.
use Rattle.std.proofs.Common.{◌≡◌, ℕ, ◌+◌, ◌≤◌, Bool, true, false, cond, List, [], ◌∷◌, ◌++◌, Some, refl, ap, subst, ◌∙◌, inl, inr, arith}
use Rattle.std.specs.Prelude.{min}
use Rattle.std.proofs.lemmas.Bool.Decides.{nat_tests}
use Rattle.std.proofs.lemmas.List.Sums.{sum_by-append}
use Rattle.pv_outside.specs.Counts.{one_more}
use Rattle.pv_outside.specs.declared.failed.TheConstants.{COUNT_END}
use Rattle.pv_script.specs.declared.grammar.Command.{Command}
use Rattle.pv_script.specs.declared.grammar.Command.TheVariants.{Nothing}
use Rattle.pv_script.specs.declared.grammar.TheConstants.{COMMENT}
use Rattle.pv_script.specs.declared.word.Word.{Word}
use Rattle.pv_script.specs.Grammar.{ReadsLine, has_answer, answer_count}
use Rattle.pv_script.specs.Play.{WritesEach}
use Rattle.pv_script.specs.Words.{word_of_text}

-- ---- which lines have an answer

-- one that reads as nothing has none
nothing_answered : (centres : ℕ) (first : Bool) (line : List ℕ) → ReadsLine centres first line Nothing → has_answer line ≡ false
nothing_answered centres first line (inl (inl empty, is)) = ap has_answer empty
nothing_answered centres first line (inl (inr comment, is)) = ap has_answer comment.1
nothing_answered centres first line (inr asks) = absurd asks.0.5

-- no word of a script begins as a comment does
word_begins : (word tail : List ℕ) (is : Word) → word_of_text word ≡ Some is → has_answer (word ++ tail) ≡ true
word_begins [] tail is reads = absurd cc
word_begins (byte ∷ word) tail is reads =
    let differs : byte ≡ COMMENT → ⊥ = λ same. let none = subst (λ (b : ℕ). word_of_text (b ∷ word) ≡ Some is) same reads in absurd cc in
    grind (arith, nat_tests)

-- so any other line has one
command_answered : (centres : ℕ) (first : Bool) (line : List ℕ) (command : Command) → ReadsLine centres first line command → (command ≡ Nothing → ⊥)
    → has_answer line ≡ true
command_answered centres first line command (inl nothing) some = absurd (some nothing.1)
command_answered centres first line command (inr asks) some = ap has_answer asks.0.3.parts ∙ word_begins asks.0.0 asks.0.1 asks.0.2 asks.0.4

-- ---- one line

-- nothing is written for one that reads as nothing
pub none_written : (centres : ℕ) (first : Bool) (line : List ℕ) (n : ℕ) → ReadsLine centres first line Nothing → WritesEach (line ∷ []) n n
none_written centres first line n reads fits =
    let count : answer_count (line ∷ []) ≡ 0 = ap (λ (b : Bool). 0 + cond b 1 0) (nothing_answered centres first line reads) in
    omega (arith, count, fits)

-- one write is made for any other
pub one_written : (centres : ℕ) (first : Bool) (line : List ℕ) (command : Command) (n now : ℕ) → ReadsLine centres first line command
    → (command ≡ Nothing → ⊥) → now ≡ one_more n → WritesEach (line ∷ []) n now
one_written centres first line command n now reads some is fits =
    let count : answer_count (line ∷ []) ≡ 1 = ap (λ (b : Bool). 0 + cond b 1 0) (command_answered centres first line command reads some) in
    omega (arith, count, is)

-- ---- line by line

module _ (lines : List (List ℕ)) (before : ℕ) where
  -- each answer to the lines before the rest was one write: with one more for each of the rest there are as many as for all
  abbrev pub WritesUpTo : List (List ℕ) → ℕ → Type 0
  WritesUpTo rest now = before ≤ COUNT_END
      → (now ≤ COUNT_END) × (min (now + answer_count rest) COUNT_END ≡ min (before + answer_count lines) COUNT_END)

  -- nothing was written before the first
  pub none_yet : WritesUpTo lines before
  none_yet fits = (fits, refl)

  -- one line more
  pub one_line_more : (rest later : List (List ℕ)) (line : List ℕ) (mid now : ℕ) → rest ≡ line ∷ later → WritesUpTo rest mid
      → WritesEach (line ∷ []) mid now → WritesUpTo later now
  one_line_more rest later line mid now is so_far each fits =
      let up_to = so_far fits in
      let one = each up_to.0 in
      let count : answer_count rest ≡ answer_count (line ∷ []) + answer_count later =
      ap answer_count is ∙ sum_by-append (λ (l : List ℕ). cond (has_answer l) 1 0) (line ∷ []) later in
      (omega (arith, one), omega (arith, one, up_to.1, count))

  -- no line is left
  pub each_written : (rest : List (List ℕ)) (now : ℕ) → rest ≡ [] → WritesUpTo rest now → WritesEach lines before now
  each_written rest now none so_far fits =
      let up_to = so_far fits in
      let count = ap answer_count none in
      omega (arith, up_to.0, up_to.1, count)
