-- What the words `format DIR N` ask for, and how that may end.
use Rattle.std.specs.Prelude.{◌≡◌, ◌⊎◌, ℕ, ◌≤◌, List, [], ◌∷◌, ◌++◌, length, take, codes, decimal}
use Rattle.std.specs.List.{AllZip}
use Rattle.pv_outside.specs.Counts.{Rose}
use Rattle.pv_outside.specs.declared.reports.Reports as reports
use Rattle.pv_journal.specs.declared.block.TheConstants.{MARK}
use Rattle.pv_journal.specs.Text.{Spells}
use Rattle.pv_journal.specs.Journal.{EachImage}
use Rattle.pv_account.specs.declared.account.TheConstants.{MAX_CENTRES}
use Rattle.pv_serve.specs.declared.status.ServeStatus.{ServeStatus}
use Rattle.pv_serve.specs.declared.status.ServeStatus.TheVariants.{Done, Usage, DiskFault}

-- ---- words

-- the words are the command, a folder, and a number of centres
pub record AskToFormat (words : List (List ℕ)) (folder : List ℕ) (centres : ℕ) : Type 0 where
  pub some : 1 ≤ centres
  pub few : centres ≤ MAX_CENTRES
  pub asked : words ≡ codes "format" ∷ folder ∷ decimal centres ∷ []

-- the words are not these of any folder and number
abbrev pub AskNoFormat : List (List ℕ) → Type 0
AskNoFormat words = (folder : List ℕ) (centres : ℕ) → AskToFormat words folder centres → ⊥

-- ---- what is there before

-- the text is the beginning of an empty journal, or the whole of it
abbrev pub IsBlank : List ℕ → Type 0
IsBlank text = text ≡ take (length text) (MARK ++ 0 ∷ [])

-- ---- ends

module _ {D F : Type 0} where
  -- a call of a disk failed
  abbrev pub IsDiskEnd : ServeStatus D F → Type 0
  IsDiskEnd (DiskFault failure) = Unit {0}
  IsDiskEnd _ = ⊥

  -- how a formatting may end
  abbrev pub IsFormatEnd : ServeStatus D F → Type 0
  IsFormatEnd Done = Unit {0}
  IsFormatEnd Usage = Unit {0}
  IsFormatEnd (DiskFault failure) = Unit {0}
  IsFormatEnd _ = ⊥

-- ---- disks

module _ {D : Type 0} (g : reports.Ghosts D) where
  -- if the disk reports what it reads, each image that a crash now may leave spells no body
  abbrev pub IsEmptyJournal : D → Type 0
  IsEmptyJournal disk = EachImage g disk (λ image. Spells image [])

  -- the disks one by one, before and now: no count of faults fell
  abbrev pub NoneFell : List D → List D → Type 0
  NoneFell before now = AllZip (λ old new. g.faults old ≤ g.faults new) before now

  -- the count of faults of one of them rose
  abbrev pub OneRose : List D → List D → Type 0
  OneRose (old ∷ before) (new ∷ now) = Rose (g.faults old) (g.faults new) ⊎ OneRose before now
  OneRose _ _ = ⊥
