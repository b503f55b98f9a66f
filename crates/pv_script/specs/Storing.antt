-- The commands to store a record, within which a node may be lost.
use Rattle.std.specs.Prelude.{◌≡◌, ℕ, List, Some}
use Rattle.pv_words.specs.Numbers.{IsNumber, IsBelow}
use Rattle.pv_words.specs.Parts.{IsPart, AreTwo, Gives}
use Rattle.pv_words.specs.Split.{IsSplit}
use Rattle.pv_network.specs.declared.event.TheConstants.{EDITORS, PORTS}
use Rattle.pv_network.specs.declared.storing.Storing.{Storing}
use Rattle.pv_network.specs.declared.storing.Storing.TheVariants.{Seed, Edit, Store, Deliver, Back}
use Rattle.pv_script.specs.declared.word.StoringWord.{StoringWord}
use Rattle.pv_script.specs.declared.word.StoringWord.TheVariants as words
use Rattle.pv_script.specs.Readers.{IsFrameText, IsRowText}
use Rattle.pv_script.specs.Words.{storing_word_of_text}

-- a word and the tail after it are the command, in a play of this many centres: a row for each form
abbrev pub StoringAsksAs : ℕ → StoringWord → List ℕ → Storing → Type 0
StoringAsksAs centres words.Seed tail = Gives (AreTwo IsFrameText IsRowText) (λ parts. Seed parts.0 parts.1) tail
StoringAsksAs centres words.Edit tail = Gives (AreTwo (IsBelow EDITORS) IsPart) (λ parts. Edit parts.0 parts.1) tail
StoringAsksAs centres words.Store tail = Gives (AreTwo (IsBelow centres) (IsBelow PORTS)) (λ parts. Store parts.0 parts.1) tail
StoringAsksAs centres words.Deliver tail = Gives (AreTwo (IsBelow centres) IsNumber) (λ parts. Deliver parts.0 parts.1) tail
StoringAsksAs centres words.Back tail = Gives (AreTwo (IsBelow centres) IsNumber) (λ parts. Back parts.0 parts.1) tail

-- the text is the command, by its first word and its tail
abbrev pub IsStoringText : ℕ → Storing → List ℕ → Type 0
IsStoringText centres command text =
    (first tail : List ℕ) × (word : StoringWord) × IsSplit text first tail × (storing_word_of_text first ≡ Some word)
    × StoringAsksAs centres word tail command
