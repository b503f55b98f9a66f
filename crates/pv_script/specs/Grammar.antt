-- The lines of the script, and what each of them asks for.
use Rattle.std.specs.Prelude.{◌≡◌, ℕ, ◌+◌, ◌==◌, Bool, false, not, IsTrue, ◌⊎◌, List, [], ◌∷◌, count_by, Some}
use Rattle.pv_words.specs.Numbers.{IsNumber, IsBelow}
use Rattle.pv_words.specs.Parts.{IsPart, IsOne, AreTwo, AreThree, Gives, GivesAlone}
use Rattle.pv_words.specs.Split.{IsSplit}
use Rattle.pv_editor.specs.Parts.{IsAccountText}
use Rattle.pv_network.specs.declared.event.Event.{Event}
use Rattle.pv_network.specs.declared.event.Event.TheVariants as events
use Rattle.pv_network.specs.declared.event.TheConstants.{EDITORS, PORTS}
use Rattle.pv_network.specs.Step.{Choice, IsChoice}
use Rattle.pv_network.specs.World.{World}
use Rattle.pv_script.specs.declared.grammar.Command.{Command}
use Rattle.pv_script.specs.declared.grammar.Command.TheVariants.{Nothing, Limits, Do}
use Rattle.pv_script.specs.declared.grammar.TheConstants.{COMMENT, MAX_CALLS}
use Rattle.pv_script.specs.declared.word.CallWord.{CallWord}
use Rattle.pv_script.specs.declared.word.CallWord.TheVariants as calling
use Rattle.pv_script.specs.declared.word.Word.{Word}
use Rattle.pv_script.specs.declared.word.Word.TheVariants as words
use Rattle.pv_script.specs.Readers.{IsFrameText, IsNodeText, IsImageText, IsMomentText, IsRowText, IsKeyText, IsKeysText, IsLimitsText}
use Rattle.pv_script.specs.Storing.{IsStoringText}
use Rattle.pv_script.specs.Words.{word_of_text}

-- a word of a caller's line and the tail after it ask for the event: a row for each form
abbrev pub CallAsksAs : ℕ → CallWord → List ℕ → Event → Type 0
CallAsksAs centres calling.Dial tail = Gives (AreTwo (IsBelow centres) (IsBelow PORTS)) (λ parts. events.Dial parts.0 parts.1) tail
CallAsksAs centres calling.Press tail =
    Gives (AreThree (IsBelow centres) (IsBelow PORTS) IsKeyText) (λ parts. events.Press parts.0 parts.1 parts.2) tail
CallAsksAs centres calling.Store tail = Gives (AreTwo (IsBelow centres) (IsBelow PORTS)) (λ parts. events.Store parts.0 parts.1) tail
CallAsksAs centres calling.Show tail = Gives (AreTwo (IsBelow centres) (IsBelow PORTS)) (λ parts. events.Show parts.0 parts.1) tail
CallAsksAs centres calling.Keys tail =
    Gives (AreThree (IsBelow centres) (IsBelow PORTS) IsKeysText) (λ parts. events.Keys parts.0 parts.1 parts.2) tail
CallAsksAs centres calling.Hang tail = Gives (AreTwo (IsBelow centres) (IsBelow PORTS)) (λ parts. events.Hang parts.0 parts.1) tail

-- the tail of a cut asks for the event
abbrev pub CutAsksAs : ℕ → List ℕ → Event → Type 0
CutAsksAs centres tail =
    Gives (AreThree (IsBelow (MAX_CALLS + 1)) IsImageText (IsStoringText centres)) (λ parts. events.Cut parts.0 parts.1 parts.2) tail

-- a word and the tail after it ask for the event, in a play of this many centres: a row for each form
abbrev pub EventAsksAs : ℕ → Word → List ℕ → Event → Type 0
EventAsksAs centres words.Limits tail = λ event. ⊥
EventAsksAs centres words.Seed tail = Gives (AreTwo IsFrameText IsRowText) (λ parts. events.Seed parts.0 parts.1) tail
EventAsksAs centres words.Edit tail = Gives (AreTwo (IsBelow EDITORS) IsPart) (λ parts. events.Edit parts.0 parts.1) tail
EventAsksAs centres (words.Call word) tail = CallAsksAs centres word tail
EventAsksAs centres words.Send tail = Gives (IsOne (IsBelow centres)) (λ centre. events.Send centre) tail
EventAsksAs centres words.Post tail = Gives (IsOne (IsBelow centres)) (λ centre. events.Post centre) tail
EventAsksAs centres words.Deliver tail = Gives (AreTwo (IsBelow centres) IsNumber) (λ parts. events.Deliver parts.0 parts.1) tail
EventAsksAs centres words.Back tail = Gives (AreTwo (IsBelow centres) IsNumber) (λ parts. events.Back parts.0 parts.1) tail
EventAsksAs centres words.Carry tail = Gives (IsOne (IsBelow centres)) (λ centre. events.Carry centre) tail
EventAsksAs centres words.Crash tail = Gives (IsOne (IsNodeText centres)) (λ node. events.Crash node) tail
EventAsksAs centres words.Cut tail = CutAsksAs centres tail
EventAsksAs centres words.Clock tail = Gives (IsOne IsMomentText) (λ moment. events.Clock moment) tail
EventAsksAs centres words.View tail = Gives (AreTwo (IsBelow centres) IsFrameText) (λ parts. events.View parts.0 parts.1) tail
EventAsksAs centres words.At tail = Gives (IsOne (IsBelow centres)) (λ centre. events.At centre) tail
EventAsksAs centres words.List tail = GivesAlone events.List tail
EventAsksAs centres words.Bill tail = Gives (IsOne IsAccountText) (λ account. events.Bill account) tail
EventAsksAs centres words.Lines tail = Gives (IsOne (IsBelow centres)) (λ centre. events.Lines centre) tail

-- A word and the tail after it ask for the command. Limits are no event.
abbrev pub AsksAs : ℕ → Word → List ℕ → Command → Type 0
AsksAs centres word tail (Do event) = EventAsksAs centres word tail event
AsksAs centres words.Limits tail (Limits limits) = IsOne IsLimitsText tail limits
AsksAs centres word tail command = ⊥

-- a line asks for the command, by its first word and its tail
abbrev pub Asks : ℕ → List ℕ → Command → Type 0
Asks centres line command = (first tail : List ℕ) × (word : Word) × IsSplit line first tail × (word_of_text first ≡ Some word) × AsksAs centres word tail command

-- an empty line and a comment ask for nothing
abbrev pub AsksNothing : List ℕ → Type 0
AsksNothing line = (line ≡ []) ⊎ ((comment : List ℕ) × (line ≡ COMMENT ∷ comment))

-- whether a line has an answer: all but an empty line and a comment have one
abbrev pub has_answer : List ℕ → Bool
has_answer [] = false
has_answer (byte ∷ line) = not (byte == COMMENT)

-- how many of the lines have one
abbrev pub answer_count : List (List ℕ) → ℕ
answer_count lines = count_by has_answer lines

-- limits stand on the first line of a script alone
abbrev pub MayStand : Bool → Command → Type 0
MayStand first (Limits limits) = IsTrue first
MayStand first _ = Unit {0}

-- A line that asks for nothing reads as nothing, and any other as what its words ask for, if that may stand there.
abbrev pub ReadsLine : ℕ → Bool → List ℕ → Command → Type 0
ReadsLine centres first line command = (AsksNothing line × (command ≡ Nothing)) ⊎ (Asks centres line command × MayStand first command)

-- the line is not a valid command
abbrev pub HasNoForm : ℕ → Bool → List ℕ → Type 0
HasNoForm centres first line = (command : Command) → ReadsLine centres first line command → ⊥

-- What was open in a command, in the world in which it is run: in that of an editor's line, what the line says; of keys, what they
-- say; of a cut, whether the node has the record.
abbrev pub IsCommandChoice : World → Command → Choice → Type 0
IsCommandChoice w (Do event) choice = IsChoice w event choice
IsCommandChoice w _ choice = Unit {0}
