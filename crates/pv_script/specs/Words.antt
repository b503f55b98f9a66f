-- The first words of lines.
use Rattle.std.specs.Prelude.{ℕ, List, Bool, codes, nat_eq, Option, Some, None, option_map, if◌then◌else◌}
use Rattle.std.specs.Cmp.Lexicographic.{pointwise}
use Rattle.pv_script.specs.declared.word.CallWord.{CallWord}
use Rattle.pv_script.specs.declared.word.CallWord.TheVariants as calling
use Rattle.pv_script.specs.declared.word.StoringWord.{StoringWord}
use Rattle.pv_script.specs.declared.word.StoringWord.TheVariants as storing
use Rattle.pv_script.specs.declared.word.Word.{Word}
use Rattle.pv_script.specs.declared.word.Word.TheVariants as words

-- the texts are the same
abbrev pub is_text : List ℕ → List ℕ → Bool
is_text a b = pointwise nat_eq a b

-- the word of a caller's line that a text is
abbrev pub call_word_of_text : List ℕ → Option CallWord
call_word_of_text text =
    if is_text text (codes "dial") then Some calling.Dial else
    if is_text text (codes "press") then Some calling.Press else
    if is_text text (codes "store") then Some calling.Store else
    if is_text text (codes "show") then Some calling.Show else
    if is_text text (codes "keys") then Some calling.Keys else
    if is_text text (codes "hang") then Some calling.Hang else
    None

-- the word of a command to store a record that a text is
abbrev pub storing_word_of_text : List ℕ → Option StoringWord
storing_word_of_text text =
    if is_text text (codes "seed") then Some storing.Seed else
    if is_text text (codes "edit") then Some storing.Edit else
    if is_text text (codes "store") then Some storing.Store else
    if is_text text (codes "deliver") then Some storing.Deliver else
    if is_text text (codes "back") then Some storing.Back else
    None

-- the word that asks for what is known that a text is, or a word of a caller
abbrev pub asking_word_of_text : List ℕ → Option Word
asking_word_of_text text =
    if is_text text (codes "view") then Some words.View else
    if is_text text (codes "at") then Some words.At else
    if is_text text (codes "list") then Some words.List else
    if is_text text (codes "bill") then Some words.Bill else
    if is_text text (codes "lines") then Some words.Lines else
    option_map words.Call (call_word_of_text text)

-- the word of a packet, a crash or the clock that a text is, or one of those
abbrev pub moving_word_of_text : List ℕ → Option Word
moving_word_of_text text =
    if is_text text (codes "deliver") then Some words.Deliver else
    if is_text text (codes "back") then Some words.Back else
    if is_text text (codes "carry") then Some words.Carry else
    if is_text text (codes "crash") then Some words.Crash else
    if is_text text (codes "cut") then Some words.Cut else
    if is_text text (codes "clock") then Some words.Clock else
    asking_word_of_text text

-- the word that a text is
abbrev pub word_of_text : List ℕ → Option Word
word_of_text text =
    if is_text text (codes "limits") then Some words.Limits else
    if is_text text (codes "seed") then Some words.Seed else
    if is_text text (codes "edit") then Some words.Edit else
    if is_text text (codes "send") then Some words.Send else
    if is_text text (codes "post") then Some words.Post else
    moving_word_of_text text
