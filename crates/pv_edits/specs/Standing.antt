-- What a base stands for: the records that it has absorbed, with the place of each, and its limits.
use Rattle.std.specs.Prelude.{ℕ, List, [], ◌∷◌, ◌++◌}
use Rattle.pv_outside.specs.declared.limits.Limits.{Limits}
use Rattle.pv_edits.specs.declared.record.Record.{Record}

-- the records that were absorbed, oldest first, the place of each of them, and the limits that the base was opened with
pub record BaseState : Type 0 where
  pub records : List Record
  pub places : List ℕ
  pub limits : Limits

-- the base of no records
abbrev pub empty_base : Limits → BaseState
empty_base limits = record { records = []; places = []; limits = limits }

-- with one record more, which has this place
abbrev pub with_record_at : BaseState → Record → ℕ → BaseState
with_record_at base edit place = record base {
  records = base.records ++ edit ∷ [];
  places = base.places ++ place ∷ [];
}
