-- The forms of the lines of a generated script, in a play of one centre.
use Rattle.std.proofs.Common.{◌≡◌, ℕ, ◌<◌, lit<, Bool, true, List, [], ◌∷◌, ◌++◌, length, Some, refl, inr, arith}
use Rattle.std.specs.Prelude.{codes, not, ◌==◌}
use Rattle.std.specs.Fmt.{digits}
use Rattle.std.specs.List.{list_all}
use Rattle.std.proofs.lemmas.Bool.{and_parts}
use Rattle.std.proofs.lemmas.Bool.Decides.{nat_tests}
use Rattle.pv_words.specs.Numbers.{IsBelow}
use Rattle.pv_words.specs.Parts.{IsOne, AreTwo, AreThree}
use Rattle.pv_words.specs.Split.{HasNone, IsTail, IsSplit, IsNextWord, word_gap}
use Rattle.pv_network.specs.Standing.{IsNotation}
use Rattle.pv_network.specs.declared.event.Event.{Event}
use Rattle.pv_network.specs.declared.event.Event.TheVariants as events
use Rattle.pv_network.specs.declared.event.NodeName.TheVariants as nodes
use Rattle.pv_network.specs.declared.event.TheConstants.{PORTS}
use Rattle.pv_script.specs.declared.grammar.Command.{Command}
use Rattle.pv_script.specs.declared.grammar.Command.TheVariants.{Do}
use Rattle.pv_script.specs.declared.word.CallWord.TheVariants as calling
use Rattle.pv_script.specs.declared.word.Word.{Word}
use Rattle.pv_script.specs.declared.word.Word.TheVariants as words
use Rattle.pv_script.specs.Grammar.{AsksAs, ReadsLine}
use Rattle.pv_script.specs.Readers.{IsKeysText}
use Rattle.pv_script.specs.Words.{word_of_text}
use Rattle.pv_script.proofs.Plain.{IsPlainText, plain_reads}

-- the line is a command, on the first line of a script and on any other
abbrev pub IsCommand : List ℕ → Type 0
IsCommand line = (command : Command) × ((first : Bool) → ReadsLine 1 first line command)

-- ---- words

-- no byte of the text is a gap between words
abbrev IsWord : List ℕ → Type 0
IsWord text = list_all (λ byte. not (byte == word_gap)) text ≡ true

-- so a word ends at the first gap
ungapped : (text : List ℕ) → IsWord text → HasNone word_gap text
ungapped [] word = tt
ungapped (byte ∷ text) word =
    let parts = and_parts (not (byte == word_gap)) _ word in
    let differs : byte ≡ word_gap → ⊥ = λ is. let no : not (byte == word_gap) ≡ true = parts.0 in grind (arith, nat_tests) in
    (differs, ungapped text parts.1)

-- a word and the tail after it are the next part of a line
next : (word later : List ℕ) → IsWord word → IsTail later → IsNextWord (word_gap ∷ word ++ later) word later
next word later is after =
    let split : IsSplit (word ++ later) word later = record { parts = refl; before = ungapped word is; after = after } in
    record { text = word ++ later; parts = refl; split = split }

-- what follows the gap is the one part of a tail
one : {A : Type 0} (IsFirst : A → List ℕ → Type 0) (text : List ℕ) (a : A) → IsFirst a text → IsOne IsFirst (word_gap ∷ text) a
one IsFirst text a is = record { text = text; parts = refl; first = is }

-- a zero, and what follows the gap after it, are the two parts of a tail
zero_and : {B : Type 0} (end : ℕ) (IsSecond : B → List ℕ → Type 0) (text : List ℕ) (b : B) → 0 < end → IsSecond b text
    → AreTwo (IsBelow end) IsSecond (codes " 0 " ++ text) (0, b)
unfolding digits
zero_and end IsSecond text b some is = record {
  word = codes "0";
  later = word_gap ∷ text;
  next = next (codes "0") (word_gap ∷ text) refl (inr (text, refl));
  first = (some, refl);
  second = one IsSecond text b is;
}

-- ---- lines

-- a word of the script is a command with a tail of which it asks for an event
asks_for : (name text : List ℕ) (word : Word) (event : Event) → IsWord name → word_of_text name ≡ Some word
    → AsksAs 1 word (word_gap ∷ text) (Do event) → IsCommand (name ++ word_gap ∷ text)
asks_for name text word event is names asks =
    let tail = word_gap ∷ text in
    let split : IsSplit (name ++ tail) name tail = record { parts = refl; before = ungapped name is; after = inr (text, refl) } in
    (Do event, λ first. inr ((name, tail, word, split, names, asks), tt))

-- an editor's line is, whatever it says
pub edit_line : (line : List ℕ) → IsCommand (codes "edit 0 " ++ line)
edit_line line =
    let are = zero_and _ _ line line (lit< tt) refl in
    asks_for (codes "edit") (codes "0 " ++ line) words.Edit (events.Edit 0 line) refl refl
    (record { parts = (0, line); are = are; is = refl })

-- a caller's keys are, if they are plain and there is one
pub keys_line : (keys : List ℕ) → 0 < length keys → IsPlainText keys → IsCommand (codes "keys 0 0 " ++ keys)
unfolding digits
keys_line keys some plain =
    let notation : IsNotation keys = record { bytes = keys; some = some; reads = plain_reads keys plain } in
    let tail = codes " 0 " ++ keys in
    let are : AreThree (IsBelow 1) (IsBelow PORTS) IsKeysText (codes " 0" ++ tail) (0, 0, keys) = record {
      word = codes "0";
      later = tail;
      next = next (codes "0") tail refl (inr (codes "0 " ++ keys, refl));
      first = (lit< tt, refl);
      others = zero_and PORTS _ keys keys (lit< tt) (refl, notation);
    } in
    asks_for (codes "keys") (codes "0 0 " ++ keys) (words.Call calling.Keys) (events.Keys 0 0 keys) refl refl
    (record { parts = (0, 0, keys); are = are; is = refl })

-- the centre and its port
port : AreTwo (IsBelow 1) (IsBelow PORTS) (codes " 0 0") (0, 0)
unfolding digits
port = zero_and _ _ (codes "0") 0 (lit< tt) (lit< tt, refl)

-- the centre alone
centre : IsOne (IsBelow 1) (codes " 0") 0
unfolding digits
centre = one _ (codes "0") 0 (lit< tt, refl)

pub carry_line : IsCommand (codes "carry 0")
carry_line = asks_for (codes "carry") (codes "0") words.Carry (events.Carry 0) refl refl (record { parts = 0; are = centre; is = refl })

pub dial_line : IsCommand (codes "dial 0 0")
dial_line =
    asks_for (codes "dial") (codes "0 0") (words.Call calling.Dial) (events.Dial 0 0) refl refl
    (record { parts = (0, 0); are = port; is = refl })

pub hang_line : IsCommand (codes "hang 0 0")
hang_line =
    asks_for (codes "hang") (codes "0 0") (words.Call calling.Hang) (events.Hang 0 0) refl refl
    (record { parts = (0, 0); are = port; is = refl })

pub crash_centre_line : IsCommand (codes "crash 0")
unfolding digits
crash_centre_line =
    let are = one _ (codes "0") (nodes.Centre 0) (lit< tt, refl) in
    asks_for (codes "crash") (codes "0") words.Crash (events.Crash (nodes.Centre 0)) refl refl
    (record { parts = nodes.Centre 0; are = are; is = refl })

pub crash_update_line : IsCommand (codes "crash u")
crash_update_line =
    let are = one _ (codes "u") nodes.Udc refl in
    asks_for (codes "crash") (codes "u") words.Crash (events.Crash nodes.Udc) refl refl (record { parts = nodes.Udc; are = are; is = refl })

pub bill_line : IsCommand (codes "bill 1000000001")
unfolding digits
bill_line =
    let are = one _ (codes "1000000001") 1000000001 (lit< tt, refl) in
    asks_for (codes "bill") (codes "1000000001") words.Bill (events.Bill 1000000001) refl refl
    (record { parts = 1000000001; are = are; is = refl })
