-- How a book keeps a history, and who may add to it.
use Rattle.std.specs.Prelude.{ℕ, ◌≡◌, ◌==◌, ◌+◌, ◌≤◌, true, false, List, [], ◌∷◌, ◌++◌, length, map, replicate, Option, Some, None, MatchBool}
use Rattle.logbook.specs.Pages.{Cell, Step, View, Book, Named, nib, may_write, may_make}
use Rattle.logbook.specs.declared.tokens.Pen.{Pen}

-- the book that has a history, by its names
abbrev pub HistoryBook : Type 0
HistoryBook = Book

-- the entries of a book's log, in which a step that adds none is nothing
abbrev pub entries_of : {E : Type 0} → List (Option E) → List E
entries_of [] = []
entries_of (None ∷ log) = entries_of log
entries_of (Some entry ∷ log) = entry ∷ entries_of log

-- The words of a book: the first is how many there are, and the second stays 0. Then comes one for each right to add an entry: those that
-- were used are at home, and then come those that were not.
abbrev pub words_from : ℕ → ℕ → List Cell
words_from used unused = (2 + used + unused, true) ∷ (0, true) ∷ replicate used (0, true) ++ replicate unused (0, false)

-- Each entry has used one right, in the order of the rights. So whoever has the first that was not used alone adds the next entry.
abbrev pub IsKept : {E : Type 0} → List Cell → List (Option E) → Type 0
IsKept cells log = (unused : ℕ) × (log ≡ map Some (entries_of log)) × (cells ≡ words_from (length log) unused)

-- the first word of a book
abbrev pub word_of : Book → Named
word_of book = record { tracked = true; key = 0; book = book }

-- the pen is the right of this number
abbrev pub IsRight : Book → ℕ → Pen → Type 0
IsRight book number pen = (pen.book ≡ book) × (pen.nib ≡ nib may_write (number + 2) 0)

-- these pens are the rights from this number on
abbrev pub AreRights : Book → ℕ → List Pen → Type 0
AreRights book number [] = Unit {0}
AreRights book number (pen ∷ pens) = IsRight book number pen × AreRights book (number + 1) pens

-- how many entries a history has, and for how many more there are rights
pub record Supply : Type 0 where
  pub count : ℕ
  pub left : ℕ

-- the word counted so many words, and there is one more, which the pen may make; or it counted others
abbrev pub GivesRight : {E : Type 0} → Step (Option E) → View (Option E) ℕ → ℕ → View (Option E) ℕ → Type 0
GivesRight step before found after = MatchBool (found == step.old) (after.1.0 ≡ nib may_make step.old 0) (Unit {0})

-- the entry was added to all that had been seen
abbrev pub Adds : {E : Type 0} → Step (Option E) → View (Option E) ℕ → ℕ → View (Option E) ℕ → Type 0
Adds step before found after = after.0 ≡ before.0 ++ step.ask ∷ []

-- what had been seen has no more entries than the number of the right, which stays as it was
abbrev pub Bounds : {E : Type 0} → Step (Option E) → View (Option E) ℕ → ℕ → View (Option E) ℕ → Type 0
Bounds step before found after = (length before.0 + 2 ≤ before.1.0.key) × (after.1.0 ≡ before.1.0)
