-- What a tape means: whose edits it has, the number of the first, and the edits, in order.
use Rattle.std.specs.Prelude.{◌≡◌, ℕ, ◌+◌, Bool, true, false, ◌&&◌, List, [], ◌∷◌, ◌⊎◌, Option, Some, None, is_some, is_none, option_map}
use Rattle.pv_frame.specs.Content.{blank_frame}
use Rattle.pv_frame.specs.Errors.{error_of}
use Rattle.pv_edits.specs.declared.wish.EditWish.{EditWish}
use Rattle.pv_edits.specs.declared.wish.EditWish.TheVariants as wishes
use Rattle.pv_words.specs.Lines.{lines_of}
use Rattle.pv_editor.specs.Say.{frame_for, changed_working, change_refusal}
use Rattle.pv_editor.specs.declared.seat.Working.{Working}
use Rattle.pv_tape.specs.Lines.{IsTapeLine, IsHead}
use Rattle.pv_tape.specs.declared.head.Head.{Head}
use Rattle.pv_tape.specs.declared.line.TapeLine.{TapeLine}
use Rattle.pv_tape.specs.declared.line.TapeLine.TheVariants.{Comment, New, Change, Store, Drop}

-- ---- line by line

-- there is a working frame, and it is valid
abbrev pub is_storable : Option Working → Bool
is_storable None = false
is_storable (Some working) = is_none (error_of working.frame)

-- a line can be done: one that changes a frame or stores it has a working frame; there is no ninth field; what is stored is valid
abbrev pub can_do : Option Working → TapeLine → Bool
can_do working Comment = true
can_do working (New name) = true
can_do working (Change change) = is_some working && is_none (change_refusal working change)
can_do working Store = is_storable working
can_do working (Drop name) = true

-- the working frame after a line
abbrev pub working_after : Option Working → TapeLine → Option Working
working_after working (New name) = Some (frame_for name blank_frame)
working_after working (Change change) = option_map (changed_working change) working
working_after working _ = working

-- the edit that a line asks for, if it asks for one
abbrev pub wish_on_line : Option Working → TapeLine → Option EditWish
wish_on_line working Store = option_map (λ w. wishes.Put w.name w.frame) working
wish_on_line working (Drop name) = Some (wishes.Drop name)
wish_on_line working _ = None

-- ---- all lines

-- an edit of a tape, and the number of the line that asks for it
pub record TapeEdit : Type 0 where
  pub line : ℕ
  pub wish : EditWish

-- the edit that a line asks for before others
abbrev pub edits_with : ℕ → Option EditWish → List TapeEdit → List TapeEdit
edits_with number None edits = edits
edits_with number (Some wish) edits = (record { line = number; wish = wish }) ∷ edits

-- The lines from this number on, with this working frame, are good, and ask for these edits.
abbrev pub AreGood : Option Working → ℕ → List (List ℕ) → List TapeEdit → Type 0
AreGood working number [] edits = edits ≡ []
AreGood working number (text ∷ texts) edits =
    (line : TapeLine) × (later : List TapeEdit) × IsTapeLine text line × (can_do working line ≡ true)
    × AreGood (working_after working line) (number + 1) texts later × (edits ≡ edits_with number (wish_on_line working line) later)

-- the line says nothing that can be done
abbrev pub IsBad : Option Working → List ℕ → Type 0
IsBad working text = (line : TapeLine) → IsTapeLine text line → can_do working line ≡ true → ⊥

-- The first of the lines from this number on that is bad has the number `bad`.
abbrev pub IsFirstBad : Option Working → ℕ → List (List ℕ) → ℕ → Type 0
IsFirstBad working number [] bad = ⊥
IsFirstBad working number (text ∷ texts) bad =
    ((bad ≡ number) × IsBad working text)
    ⊎ ((line : TapeLine) × IsTapeLine text line × (can_do working line ≡ true)
    × IsFirstBad (working_after working line) (number + 1) texts bad)

-- ---- a tape

-- the number of a tape's first line, and of the line after it
abbrev pub first_line : ℕ
first_line = 1

abbrev pub second_line : ℕ
second_line = 2

-- The lines are those of a tape with this head and these edits.
abbrev pub AreTape : List (List ℕ) → Head → List TapeEdit → Type 0
AreTape [] head edits = ⊥
AreTape (text ∷ texts) head edits = IsHead text head × AreGood None second_line texts edits

-- the text is a tape with this head and these edits; the edit at index i has the number of the head and i more
abbrev pub IsTape : List ℕ → Head → List TapeEdit → Type 0
IsTape text head edits = AreTape (lines_of text) head edits

-- The number of the first bad line. A text without a line has a bad first line.
abbrev pub AreBadAt : List (List ℕ) → ℕ → Type 0
AreBadAt [] bad = bad ≡ first_line
AreBadAt (text ∷ texts) bad =
    ((bad ≡ first_line) × ((head : Head) → IsHead text head → ⊥))
    ⊎ ((head : Head) × IsHead text head × IsFirstBad None second_line texts bad)

abbrev pub IsBadAt : List ℕ → ℕ → Type 0
IsBadAt text bad = AreBadAt (lines_of text) bad
