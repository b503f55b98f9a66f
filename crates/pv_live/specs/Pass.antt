-- What a contract sees of a pass, and of all passes of a run.
use Rattle.std.specs.Prelude.{ℕ, zero, suc, ◌+◌, List, [], ◌∷◌, ◌++◌}
use mathlib.Core.List.{IsPrefix}
use Rattle.pv_live.specs.declared.entry.Entry.{Entry}

-- A pass: its number, and the entries after the opening that it has seen. It counts the records that its asks reported as stored, the
-- asks that failed on the disk, and the looks that were answered.
pub record Standing (T : Type 0) : Type 0 where
  pub number : ℕ
  pub seen : List (Entry T)
  pub told : ℕ
  pub failed : ℕ
  pub looks : ℕ

-- a pass that has seen nothing
abbrev pub new_pass : {T : Type 0} → ℕ → Standing T
new_pass number = record { number = number; seen = []; told = 0; failed = 0; looks = 0 }

-- this many of them, numbered from 0
abbrev pub new_passes : {T : Type 0} → ℕ → List (Standing T)
new_passes zero = []
new_passes (suc n) = new_passes n ++ new_pass n ∷ []

-- how many records the asks of all these passes reported as stored
abbrev pub told_count : {T : Type 0} → List (Standing T) → ℕ
told_count [] = 0
told_count (pass ∷ passes) = pass.told + told_count passes

-- how many of their asks failed on the disk
abbrev pub failed_count : {T : Type 0} → List (Standing T) → ℕ
failed_count [] = 0
failed_count (pass ∷ passes) = pass.failed + failed_count passes

-- what each of these passes has seen is a prefix of the list
abbrev pub EachHasSeenPrefix : {T : Type 0} → List (Entry T) → List (Standing T) → Type 0
EachHasSeenPrefix log [] = Unit {0}
EachHasSeenPrefix log (pass ∷ passes) = IsPrefix pass.seen log × EachHasSeenPrefix log passes
