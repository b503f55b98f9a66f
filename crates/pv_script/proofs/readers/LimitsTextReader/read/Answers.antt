use Rattle.std.proofs.Common.{◌≡◌, ℕ, List, Some, None, sym, subst}
use Rattle.pv_words.specs.Numbers.{IsNumber}
use Rattle.pv_words.specs.Parts.{IsOne}
use Rattle.pv_script.proofs.readers.LimitsTextReader.read.Goals as goal

-- the second number is none
pub returns-in_err-records-clause-only : goal.returns-in_err-records-clause-only
returns-in_err-records-clause-only c = λ limits is.
    let parts = c.split_word.ensures.only is.word is.later is.split in
    let none : None ≡ Some limits.records = c.in_err-records.ensures.only limits.records
    (subst (λ (l : List ℕ). IsOne IsNumber l limits.records) (sym parts.1) is.records) in absurd cc

-- both numbers are those of the limits
pub returns-clause-only : goal.returns-clause-only
returns-clause-only c = λ limits is.
    let parts = c.split_word.ensures.only is.word is.later is.split in
    let frames : Some c.in_ok-frames.frames ≡ Some limits.frames = c.in_ok-frames.ensures.only limits.frames
    (subst (IsNumber limits.frames) (sym parts.0) is.frames) in
    let records : Some c.in_ok-records.records ≡ Some limits.records = c.in_ok-records.ensures.only limits.records
    (subst (λ (l : List ℕ). IsOne IsNumber l limits.records) (sym parts.1) is.records) in
    let one : limits.frames ≡ c.in_ok-frames.frames = cc in
    let other : limits.records ≡ c.in_ok-records.records = cc in
    c.limits_of.ensures.only limits (one, other)
