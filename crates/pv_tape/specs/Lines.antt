-- The lines of a tape, and what each of them says.
use Rattle.std.specs.Prelude.{◌≡◌, ℕ, ◌≤◌, Bool, true, ◌==◌, List, [], ◌∷◌, Option, Some, None, codes, decimal, MatchBool, if◌then◌else◌}
use Rattle.pv_words.specs.Parts.{IsOne, AreThree, Gives, GivesAlone}
use Rattle.pv_words.specs.Split.{IsSplit}
use Rattle.pv_editor.specs.Lines.{IsLine}
use Rattle.pv_editor.specs.Parts.{IsAccountText, IsNameText, IsPasswordText}
use Rattle.pv_editor.specs.Words.{are_same}
use Rattle.pv_editor.specs.declared.line.EditLine.{EditLine}
use Rattle.pv_editor.specs.declared.line.EditLine.TheVariants as lines
use Rattle.pv_tape.specs.declared.head.Head.{Head}
use Rattle.pv_tape.specs.declared.head.TheConstants.{LAST_FIRST}
use Rattle.pv_tape.specs.declared.line.TapeLine.{TapeLine}
use Rattle.pv_tape.specs.declared.line.TapeWord.{TapeWord}
use Rattle.pv_tape.specs.declared.line.TapeWord.TheVariants as words
use Rattle.pv_tape.specs.declared.line.TapeLine.TheVariants.{Comment, New, Change, Store, Drop}

-- the byte that a comment begins with
abbrev pub comment_mark : ℕ
comment_mark = 59

-- a line that does nothing: it is empty, or a comment
abbrev pub is_comment : List ℕ → Bool
is_comment [] = true
is_comment (byte ∷ bytes) = byte == comment_mark

-- what a line of an editor says on a tape, if it makes a frame
abbrev pub tape_line : EditLine → Option TapeLine
tape_line (lines.New name) = Some (New name)
tape_line (lines.Change change) = Some (Change change)
tape_line _ = None

-- the text is a line of an editor that makes a frame
abbrev pub IsFrameLine : List ℕ → TapeLine → Type 0
IsFrameLine text line = (said : EditLine) × IsLine text said × (tape_line said ≡ Some line)

-- which word a line begins with
abbrev pub tape_word : List ℕ → TapeWord
tape_word text =
    if are_same text (codes "STORE") then words.Store else
    if are_same text (codes "DROP") then words.Drop else
    words.Other

-- what a line says by its word and its tail: the lines that ask have no number, and the others are those of an editor
abbrev pub IsSaidAfter : TapeWord → List ℕ → List ℕ → TapeLine → Type 0
IsSaidAfter words.Store text tail = GivesAlone Store tail
IsSaidAfter words.Drop text tail = Gives (IsOne IsNameText) (λ name. Drop name) tail
IsSaidAfter words.Other text tail = IsFrameLine text

abbrev pub SaysLine : List ℕ → TapeLine → Type 0
SaysLine text line = (first tail : List ℕ) × IsSplit text first tail × IsSaidAfter (tape_word first) text tail line

-- what a line of a tape says
abbrev pub IsTapeLine : List ℕ → TapeLine → Type 0
IsTapeLine text line = MatchBool (is_comment text) (line ≡ Comment) (SaysLine text line)

-- ---- the first line

-- the text is a number that a tape's edits may begin with
abbrev pub IsFirstNumber : ℕ → List ℕ → Type 0
IsFirstNumber number text = ((1 ≤ number) × (number ≤ LAST_FIRST)) × (text ≡ decimal number)

-- the tail of a tape's first line says whose edits these are, and the number of the first
abbrev pub IsHeadAfter : List ℕ → Head → Type 0
IsHeadAfter tail = Gives (AreThree IsFirstNumber IsAccountText IsPasswordText)
    (λ parts. record { first = parts.0; account = parts.1; password = parts.2 }) tail

-- what the first line of a tape says
abbrev pub IsHead : List ℕ → Head → Type 0
IsHead text head = (first tail : List ℕ) × IsSplit text first tail × (are_same first (codes "TAPE") ≡ true) × IsHeadAfter tail head
