-- What one record more does to an editor's last edit, and the operator's account, which stays.
use Rattle.std.proofs.Common.{◌≡◌, ℕ, Bool, true, false, cond, List, [], ◌∷◌, ◌++◌, length, Option, Some, None, refl, arith}
use Rattle.std.specs.Prelude.{slice_get, option_map, is_some}
use Rattle.pv_fields.specs.Reading.{◌>>=◌}
use Rattle.pv_edits.specs.declared.record.Record.{Record}
use Rattle.pv_edits.specs.declared.record.Record.TheVariants.{Put, Drop, Account, Lease, Taken}
use Rattle.pv_edits.specs.declared.room.TheConstants.{OPERATOR}
use Rattle.pv_edits.specs.Edits.{is_edit_of, makes, last_index, last_of, number_in, account_in, account_or_first}
use Rattle.pv_edits.specs.Room.{has_editor}
use Rattle.pv_edits.proofs.LastIndex.{get_before, get_at_end, last_index-within, last_passes, last_index-push}

-- ---- an editor's last edit

-- the number and the place of the edit at an index
abbrev entry : List Record → List ℕ → ℕ → Option (ℕ × ℕ)
entry records places i = slice_get records i >>= λ edit. slice_get places i >>= λ place. option_map (λ q. (q, place)) (number_in edit)

module _ (records : List Record) (places : List ℕ) (edit : Record) (place editor : ℕ) (paired : length places ≡ length records) where
  -- his last edit before, found in the longer list
  before : (found : Option ℕ) → last_index (is_edit_of editor) records ≡ found
      → (found >>= entry (records ++ edit ∷ []) (places ++ place ∷ [])) ≡ (found >>= entry records places)
  before None is = refl
  before (Some i) is =
      let within = last_index-within (is_edit_of editor) records i is in
      rw (get_before records (edit ∷ []) i within, get_before places (place ∷ []) i (omega (arith, within, paired))) refl

  -- if the record is an edit of his it is his last, and else his last stays
  pub last_of-push : last_of (records ++ edit ∷ []) (places ++ place ∷ []) editor
      ≡ cond (is_edit_of editor edit) (option_map (λ q. (q, place)) (number_in edit)) (last_of records places editor)
  last_of-push = rw (last_index-push (is_edit_of editor) records edit) (by (is_edit_of editor edit))
    where
      by : (his : Bool) → (cond his (Some (length records)) (last_index (is_edit_of editor) records) >>= entry (records ++ edit ∷ [])
          (places ++ place ∷ []))
          ≡ cond his (option_map (λ q. (q, place)) (number_in edit)) (last_of records places editor)
      by true = rw (get_at_end records edit (length records) refl, get_at_end places place (length records) paired) refl
      by false = before (last_index (is_edit_of editor) records) refl

-- ---- the operator's account

-- a record of an account makes one
pub makes_account : (number : ℕ) (edit : Record) → makes number edit ≡ true → is_some (account_in edit) ≡ true
makes_account number (Put e q n f) is = absurd cc
makes_account number (Drop e q n) is = absurd cc
makes_account number (Account e q a) is = refl
makes_account number (Lease e q r a) is = absurd cc
makes_account number (Taken t) is = absurd cc

-- the operator is an account, whatever was edited
pub has_operator : (records : List Record) → has_editor records OPERATOR ≡ true
has_operator records = by (last_index (makes OPERATOR) records) refl
  where
    there : (i : ℕ) (found : Option Record) → last_index (makes OPERATOR) records ≡ Some i → slice_get records i ≡ found
        → is_some (account_or_first OPERATOR found) ≡ true
    there i None is at = refl
    there i (Some edit) is at = makes_account OPERATOR edit (last_passes (makes OPERATOR) records i edit is at)

    by : (found : Option ℕ) → last_index (makes OPERATOR) records ≡ found
        → is_some (account_or_first OPERATOR (found >>= slice_get records)) ≡ true
    by None is = refl
    by (Some i) is = there i (slice_get records i) is refl
