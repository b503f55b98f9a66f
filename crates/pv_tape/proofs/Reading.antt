-- What the lines of a tape are read as.
use Rattle.std.proofs.Common.{◌≡◌, ℕ, true, false, List, Option, Some, None, codes, sym, ap, subst, ◌∙◌}
use Rattle.pv_words.specs.Parts.{Exactly}
use Rattle.pv_words.specs.Split.{IsSplit}
use Rattle.pv_editor.specs.Lines.{IsLine}
use Rattle.pv_editor.specs.Words.{are_same}
use Rattle.pv_editor.specs.declared.line.EditLine.{EditLine}
use Rattle.pv_tape.specs.Lines.{tape_line, IsFrameLine, IsHead, IsHeadAfter}
use Rattle.pv_tape.specs.declared.head.Head.{Head}
use Rattle.pv_tape.specs.declared.line.TapeLine.{TapeLine}

-- ---- a line of an editor

-- the text is this line of an editor, and no other
pub frame_line-some : (text : List ℕ) (said : EditLine) (result : Option TapeLine) → IsLine text said
    → ((line : EditLine) → IsLine text line → Some said ≡ Some line) → result ≡ tape_line said → Exactly (IsFrameLine text) result
frame_line-some text said None is only tells =
    record { found = tt; only = λ line found. let same : said ≡ found.0 = cc (only found.0 found.1) in tells ∙ ap tape_line same ∙ found.2 }
frame_line-some text said (Some made) is only tells =
    record {
      found = (said, is, sym tells);
      only = λ line found. let same : said ≡ found.0 = cc (only found.0 found.1) in tells ∙ ap tape_line same ∙ found.2;
    }

-- it is none
pub frame_line-none : (text : List ℕ) → ((line : EditLine) → IsLine text line → None ≡ Some line) → Exactly (IsFrameLine text) None
frame_line-none text only = record { found = tt; only = λ line found. absurd (let none = only found.0 found.1 in cc) }

-- ---- the first line, split at its first space

module _ (text first tail : List ℕ) (split : IsSplit text first tail)
    (only : (word later : List ℕ) → IsSplit text word later → (first ≡ word) × (tail ≡ later)) where
  -- a head's tail is this one
  head_here : (head : Head) → IsHead text head → IsHeadAfter tail head
  head_here head is = subst (λ (later : List ℕ). IsHeadAfter later head) (sym (only is.0 is.1 is.2).1) is.4

  pub head-some : are_same first (codes "TAPE") ≡ true → (result : Option Head) → Exactly (IsHeadAfter tail) result
      → Exactly (IsHead text) result
  head-some test None says = record { found = tt; only = λ head is. says.only head (head_here head is) }
  head-some test (Some made) says =
      record { found = (first, tail, split, test, says.found); only = λ head is. says.only head (head_here head is) }

  -- another word begins no tape
  pub head-none : are_same first (codes "TAPE") ≡ false → Exactly (IsHead text) None
  head-none test = record {
    found = tt;
    only = λ head is.
        let same = (only is.0 is.1 is.2).0 in
        let never : false ≡ true = sym test ∙ ap (λ (word : List ℕ). are_same word (codes "TAPE")) same ∙ is.3 in
        absurd cc;
  }
