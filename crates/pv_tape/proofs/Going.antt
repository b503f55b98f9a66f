-- The lines of a tape one by one: what is known of those that are left is known of all.
use Rattle.std.proofs.Common.{◌≡◌, ℕ, ◌+◌, true, false, List, [], ◌∷◌, length, Option, Some, None, inl, inr, refl, sym, ap, subst, ◌∙◌}
use Rattle.std.proofs.Common.{arith}
use Rattle.pv_words.specs.Lines.{lines_of}
use Rattle.pv_words.specs.Parts.{Exactly}
use Rattle.pv_editor.specs.declared.seat.Working.{Working}
use Rattle.pv_tape.specs.Lines.{IsTapeLine, IsHead}
use Rattle.pv_tape.specs.Tape.{TapeEdit, AreGood, AreTape, AreBadAt, IsFirstBad, IsBad, IsTape, IsBadAt, first_line, second_line, can_do}
use Rattle.pv_tape.specs.Tape.{working_after, wish_on_line, edits_with}
use Rattle.pv_tape.specs.declared.head.Head.{Head}
use Rattle.pv_tape.specs.declared.line.TapeLine.{TapeLine}

-- a line was good, and left this working frame
abbrev pub WasGood : Option Working → List ℕ → Option Working → Type 0
WasGood before text after = (line : TapeLine) × IsTapeLine text line × (can_do before line ≡ true) × (after ≡ working_after before line)

module _ (before after : Option Working) (number : ℕ) (text : List ℕ) (texts : List (List ℕ)) where
  -- after a good line, good lines are good from it on
  pub good_before : WasGood before text after → (edits : List TapeEdit) → AreGood after (number + 1) texts edits
      → (all : List TapeEdit) × AreGood before number (text ∷ texts) all
  good_before was edits are =
      let line = was.0 in
      let later = subst (λ (w : Option Working). AreGood w (number + 1) texts edits) was.3 are in
      (edits_with number (wish_on_line before line) edits, (line, edits, was.1, was.2, later, refl))

  -- and the first bad one after it is the first from it on
  pub bad_before : WasGood before text after → (bad : ℕ) → IsFirstBad after (number + 1) texts bad
      → IsFirstBad before number (text ∷ texts) bad
  bad_before was bad is =
      inr (was.0, was.1, was.2, subst (λ (w : Option Working). IsFirstBad w (number + 1) texts bad) was.3 is)

  -- a bad line is the first from it on
  pub bad_here : IsBad before text → IsFirstBad before number (text ∷ texts) number
  bad_here is = inl (refl, is)

-- no line is left if no byte is
pub good_end : (working : Option Working) (number : ℕ) (rest : List ℕ) → length rest ≡ 0 → AreGood working number (lines_of rest) []
good_end working number [] none = refl
good_end working number (byte ∷ bytes) none = absurd (omega (arith, none))

module _ (before after : Option Working) (number : ℕ) (text : List ℕ) (texts : List (List ℕ)) where
  -- the lines after a good line are good, with the frame that it leaves
  pub good_later : ((line : TapeLine) → IsTapeLine text line → can_do before line ≡ true → after ≡ working_after before line)
      → (edits : List TapeEdit) → AreGood before number (text ∷ texts) edits
      → (later : List TapeEdit) × AreGood after (number + 1) texts later
  good_later leaves edits are =
      (are.1, subst (λ (w : Option Working). AreGood w (number + 1) texts are.1) (sym (leaves are.0 are.2 are.3)) are.4)

module _ (before : Option Working) (number : ℕ) (text : List ℕ) (texts : List (List ℕ)) where
  -- a good line is not bad
  pub good_not_bad : IsBad before text → (edits : List TapeEdit) → AreGood before number (text ∷ texts) edits → ⊥
  good_not_bad bad edits are = bad are.0 are.2 are.3

-- ---- a line

-- the line that a text says is the only one
module _ (before : Option Working) (text : List ℕ) (line : TapeLine) (reads : Exactly (IsTapeLine text) (Some line)) where
  same_line : (other : TapeLine) → IsTapeLine text other → line ≡ other
  same_line other is = let same = reads.only other is in cc

  -- if it can be done, it was
  pub line_good : can_do before line ≡ true → WasGood before text (working_after before line)
  line_good can = (line, reads.found, can, refl)

  pub line_only : (other : TapeLine) → IsTapeLine text other → working_after before line ≡ working_after before other
  line_only other is = ap (working_after before) (same_line other is)

  -- if it cannot, none can
  pub line_bad : can_do before line ≡ false → IsBad before text
  line_bad cannot = λ other is can.
      absurd (let same = same_line other is in let never : false ≡ true = sym cannot ∙ ap (can_do before) same ∙ can in cc)

-- ---- the first line

module _ (text line rest : List ℕ) (split : lines_of text ≡ line ∷ lines_of rest) where
  pub tape_from : (head : Head) (edits : List TapeEdit) → IsHead line head → AreGood None second_line (lines_of rest) edits
      → IsTape text head edits
  tape_from head edits is good = subst (λ (l : List (List ℕ)). AreTape l head edits) (sym split) (is, good)

  pub tape_parts : (head : Head) (edits : List TapeEdit) → IsTape text head edits
      → IsHead line head × AreGood None second_line (lines_of rest) edits
  tape_parts head edits is = subst (λ (l : List (List ℕ)). AreTape l head edits) split is

  pub bad_head : ((head : Head) → IsHead line head → ⊥) → IsBadAt text first_line
  bad_head none = subst (λ (l : List (List ℕ)). AreBadAt l first_line) (sym split) (inl (refl, none))

  pub bad_rest : (head : Head) (bad : ℕ) → IsHead line head → IsFirstBad None second_line (lines_of rest) bad → IsBadAt text bad
  bad_rest head bad is first = subst (λ (l : List (List ℕ)). AreBadAt l bad) (sym split) (inr (head, is, first))
