-- The last record that passes a test, with one record more.
use Rattle.std.proofs.Common.{◌≡◌, Bool, true, false, List, [], ◌∷◌, ◌++◌, length, Option, Some, None, refl}
use Rattle.std.specs.Prelude.{is_some, slice_get, if◌then◌else◌}
use Rattle.pv_fields.specs.Reading.{◌>>=◌}
use Rattle.pv_edits.specs.declared.record.Record.{Record}
use Rattle.pv_edits.specs.Edits.{last_index, last_record}
use Rattle.pv_edits.proofs.LastIndex.{get_before, get_at_end, last_index-push, last_index-within}

module _ (test : Record → Bool) (records : List Record) (edit : Record) where
  -- it is the new one, or the one that it was
  pub last_record-push : last_record test (records ++ edit ∷ []) ≡ (if test edit then Some edit else last_record test records)
  last_record-push = by (test edit) refl
    where
      -- the one that it was is at its place still
      there : (last : Option _) → last_index test records ≡ last
          → (last >>= slice_get (records ++ edit ∷ [])) ≡ (last >>= slice_get records)
      there None is = refl
      there (Some i) is = get_before records (edit ∷ []) i (last_index-within test records i is)

      by : (passes : Bool) → test edit ≡ passes
          → last_record test (records ++ edit ∷ []) ≡ (if passes then Some edit else last_record test records)
      by true is = rw (last_index-push test records edit, is) (get_at_end records edit (length records) refl)
      by false is = rw (last_index-push test records edit, is) (there (last_index test records) refl)

  -- there is one if there was, or if the new one passes
  pub has_last-push : is_some (last_index test (records ++ edit ∷ []))
      ≡ (if test edit then true else is_some (last_index test records))
  has_last-push = by (test edit) refl
    where
      by : (passes : Bool) → test edit ≡ passes
          → is_some (last_index test (records ++ edit ∷ [])) ≡ (if passes then true else is_some (last_index test records))
      by true is = rw (last_index-push test records edit, is) refl
      by false is = rw (last_index-push test records edit, is) refl
