-- The first words of an editor's lines.
use Rattle.std.specs.Prelude.{ℕ, List, Bool, codes, nat_eq, Option, Some, None, option_map, if◌then◌else◌}
use Rattle.std.specs.Cmp.Lexicographic.{pointwise}
use Rattle.pv_editor.specs.declared.word.Word.{Word}
use Rattle.pv_editor.specs.declared.word.ChangeWord.{ChangeWord}
use Rattle.pv_editor.specs.declared.word.Word.TheVariants as words
use Rattle.pv_editor.specs.declared.word.ChangeWord.TheVariants as changes

-- the texts are the same
abbrev pub are_same : List ℕ → List ℕ → Bool
are_same a b = pointwise nat_eq a b

-- the word of a change of the working frame that a text is
abbrev pub change_word_of_text : List ℕ → Option ChangeWord
change_word_of_text text =
    if are_same text (codes "TITLE") then Some changes.Title else
    if are_same text (codes "ROW") then Some changes.Row else
    if are_same text (codes "KIND") then Some changes.Kind else
    if are_same text (codes "ROUTE") then Some changes.Route else
    if are_same text (codes "PRICE") then Some changes.Price else
    if are_same text (codes "GROUP") then Some changes.Group else
    if are_same text (codes "FIELD") then Some changes.Field else
    None

-- the word of a numbered edit that a text is, or a word of a change
abbrev pub numbered_word_of_text : List ℕ → Option Word
numbered_word_of_text text =
    if are_same text (codes "STORE") then Some words.Store else
    if are_same text (codes "DROP") then Some words.Drop else
    if are_same text (codes "LEASE") then Some words.Lease else
    if are_same text (codes "ACCOUNT") then Some words.Account else
    option_map words.Change (change_word_of_text text)

-- the word that a text is
abbrev pub word_of_line : List ℕ → Option Word
word_of_line text =
    if are_same text (codes "LOGON") then Some words.LogOn else
    if are_same text (codes "NEW") then Some words.New else
    if are_same text (codes "OPEN") then Some words.Open else
    if are_same text (codes "LAST") then Some words.Last else
    if are_same text (codes "RESPONSES") then Some words.Responses else
    if are_same text (codes "QUIT") then Some words.Quit else
    numbered_word_of_text text
