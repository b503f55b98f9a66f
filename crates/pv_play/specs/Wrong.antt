-- Which words of the command line the program takes, and what is wrong with the others.
use Rattle.std.specs.Prelude.{◌≡◌, ◌≢◌, ℕ, ◌≤◌, ◌⊎◌, List, [], ◌∷◌, ◌++◌, decimal}
use Rattle.pv_script.specs.Asking.{AskFor}
use Rattle.pv_play.specs.declared.about.About.{About}
use Rattle.pv_play.specs.declared.task.Task.{Task}
use Rattle.pv_play.specs.declared.words_error.WordsError.{WordsError}
use Rattle.pv_play.specs.declared.words_error.WordsError.TheVariants.{NoCommand, UnknownCommand, NoNumber, NotNumber, AfterNumber, AfterAbout, NotText}
use Rattle.pv_play.specs.About.{about_words}
use Rattle.pv_play.specs.Task.{task_word, last_number}

-- ---- words that are taken

-- they ask for a task with one of its numbers
abbrev pub AskForTask : List (List ℕ) → Type 0
AskForTask words = (task : Task) × (number : ℕ) × AskFor (task_word task) (last_number task) words number

-- they ask for help or the version
abbrev pub AskForAbout : List (List ℕ) → Type 0
AskForAbout words = (about : About) × (words ≡ about_words about)

-- they ask for one of these
abbrev pub AskForOne : List (List ℕ) → Type 0
AskForOne words = AskForTask words ⊎ AskForAbout words

-- ---- words that are not

-- the word is one of the task's numbers in decimal
abbrev pub IsTakenNumber : Task → List ℕ → Type 0
IsTakenNumber task word = (number : ℕ) × (1 ≤ number) × (number ≤ last_number task) × (word ≡ decimal number)

-- the word asks for neither help nor the version, alone or after the word of a task
abbrev pub IsNoAbout : List (List ℕ) → List ℕ → Type 0
IsNoAbout before word = (about : About) → before ++ word ∷ [] ≢ about_words about

-- this word follows these
abbrev pub WordFollows : List (List ℕ) → List (List ℕ) → List ℕ → Type 0
WordFollows words before word = (later : List (List ℕ)) × (words ≡ before ++ word ∷ later)

-- What is wrong with words, from the first: there is none; it is no task's, and asks for neither help nor the version; a task
-- has no number; the word after it is none of its numbers, and asks for neither; or words are taken, and one more follows.
abbrev pub IsFirstWrong : List (List ℕ) → WordsError → Type 0
IsFirstWrong words NoCommand = words ≡ []
IsFirstWrong words (UnknownCommand word) = WordFollows words [] word × IsNoAbout [] word × ((task : Task) → word ≢ task_word task)
IsFirstWrong words (NoNumber task) = words ≡ task_word task ∷ []
IsFirstWrong words (NotNumber task word) = WordFollows words (task_word task ∷ []) word
    × IsNoAbout (task_word task ∷ []) word × (IsTakenNumber task word → ⊥)
IsFirstWrong words (AfterNumber task word) =
    (number : ℕ) × (1 ≤ number) × (number ≤ last_number task) × WordFollows words (task_word task ∷ decimal number ∷ []) word
IsFirstWrong words (AfterAbout about word) = WordFollows words (about_words about) word
IsFirstWrong words NotText = ⊥
