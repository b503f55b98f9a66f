-- What one record more does to an editor's last edit and to the accounts.
use Rattle.std.proofs.Common.{◌≡◌, ℕ, suc, ◌<◌, Bool, true, false, List, [], ◌∷◌, ◌++◌, length, Option, Some, None, refl, ap, sym, ◌∙◌, arith}
use Rattle.std.specs.Prelude.{slice_get, option_map, is_some}
use Rattle.std.proofs.Math.ListN.{get_or-append}
use Rattle.std.proofs.Math.Seq.{get_or-append_seam}
use Rattle.std.proofs.lemmas.List.{length-append}
use Rattle.std.proofs.lemmas.List.FromFn.{length-range_with_len}
use Rattle.std.proofs.lemmas.Option.{slice_get-get_or}
use Rattle.pv_fields.specs.Reading.{◌>>=◌}
use Rattle.pv_edits.specs.Edits.{makes, is_edit_of, later_or_first, last_index, last_record, account_in, number_in}
use Rattle.pv_edits.specs.Room.{has_editor}
use Rattle.pv_edits.specs.declared.record.Record.{Record}
use Rattle.pv_edits.specs.declared.record.Record.TheVariants.{Put, Drop, Account, Lease, Taken}
use Rattle.pv_udc.specs.EditList.{all_places}
use Rattle.pv_udc.specs.Judgement.{last_edit}
use Rattle.pv_udc.proofs.Growing.{all_places-push}

-- an element of a list is there in a longer one
slice_get-before : {X : Type 0} (xs ys : List X) (i : ℕ) (d : X) → i < length xs → slice_get (xs ++ ys) i ≡ slice_get xs i
slice_get-before xs ys i d within =
    slice_get-get_or (xs ++ ys) i d (omega (arith, within, length-append xs ys)) ∙ ap Some (get_or-append xs ys d i within)
    ∙ sym (slice_get-get_or xs i d within)

-- the element that was put at the end
slice_get-last : {X : Type 0} (xs : List X) (x : X) → slice_get (xs ++ x ∷ []) (length xs) ≡ Some x
slice_get-last xs x =
    slice_get-get_or (xs ++ x ∷ []) (length xs) x (omega (arith, length-append xs (x ∷ []))) ∙ ap Some (get_or-append_seam xs x [] x)

-- an index in a list that is one longer is within it
longer : (first : Bool) (later : Option ℕ) (n i : ℕ) → ((k : ℕ) → later ≡ Some k → k < n) → later_or_first first later ≡ Some i → i < suc n
longer first (Some k) n i inside is = let next : suc k ≡ i = cc in omega (arith, inside k refl, next)
longer true None n i inside is = let next : 0 ≡ i = cc in omega (arith, next)
longer false None n i inside is = absurd cc

module _ (test : Record → Bool) where
  -- the last index is within the list
  pub last_index-within : (records : List Record) (i : ℕ) → last_index test records ≡ Some i → i < length records
  last_index-within [] i is = absurd cc
  last_index-within (x ∷ xs) i is = longer (test x) (last_index test xs) (length xs) i (last_index-within xs) is

  -- a record that passes is the last one that does
  pub last_index-passes : (records : List Record) (edit : Record) → test edit ≡ true
      → last_index test (records ++ edit ∷ []) ≡ Some (length records)
  last_index-passes [] edit passes = rw passes refl
  last_index-passes (x ∷ xs) edit passes = rw (last_index-passes xs edit passes) refl

  -- one that does not pass changes nothing
  pub last_index-fails : (records : List Record) (edit : Record) → test edit ≡ false
      → last_index test (records ++ edit ∷ []) ≡ last_index test records
  last_index-fails [] edit fails = rw fails refl
  last_index-fails (x ∷ xs) edit fails = rw (last_index-fails xs edit fails) refl

  last_record-passes : (records : List Record) (edit : Record) → test edit ≡ true → last_record test (records ++ edit ∷ []) ≡ Some edit
  last_record-passes records edit passes = rw (last_index-passes records edit passes) (slice_get-last records edit)

  last_record-fails : (records : List Record) (edit : Record) → test edit ≡ false
      → last_record test (records ++ edit ∷ []) ≡ last_record test records
  last_record-fails records edit fails =
      rw (last_index-fails records edit fails) (there (last_index test records) (last_index-within records))
    where
      there : (o : Option ℕ) → ((k : ℕ) → o ≡ Some k → k < length records)
          → (o >>= slice_get (records ++ edit ∷ [])) ≡ (o >>= slice_get records)
      there None inside = refl
      there (Some k) inside = slice_get-before records (edit ∷ []) k edit (inside k refl)

-- the record at the last index passes
pub last_index-passed : (test : Record → Bool) (records : List Record) (i : ℕ) (edit : Record) → last_index test records ≡ Some i
    → slice_get records i ≡ Some edit
    → test edit ≡ true
last_index-passed test [] i edit last is = absurd cc
last_index-passed test (first ∷ later) i edit last is = by (test first) refl (last_index test later)
    (λ k found. last_index-passed test later k edit found) last
  where
    by : (passes : Bool) → test first ≡ passes → (found : Option ℕ)
        → ((k : ℕ) → found ≡ Some k → slice_get later k ≡ Some edit → test edit ≡ true)
        → later_or_first passes found ≡ Some i → test edit ≡ true
    by passes how (Some k) later_one at =
        let next : suc k ≡ i = cc in
        later_one k refl (ap (slice_get (first ∷ later)) next ∙ is)
    by true how None later_one at =
        let next : 0 ≡ i = cc in
        let here : Some first ≡ Some edit = ap (slice_get (first ∷ later)) next ∙ is in
        let same : first ≡ edit = cc in
        sym (ap test same) ∙ how
    by false how None later_one at = absurd cc

-- ---- an editor's last edit

-- an edit that was put at the end is its editor's last
pub last_edit-his : (records : List Record) (edit : Record) (editor q : ℕ) → is_edit_of editor edit ≡ true → number_in edit ≡ Some q
    → last_edit (records ++ edit ∷ []) editor ≡ Some (q, length records)
last_edit-his records edit editor q his numbered =
    let places : List ℕ = all_places records in
    let count : length places ≡ length records = length-range_with_len 0 (length records) in
    let last : slice_get (places ++ length records ∷ []) (length records) ≡ Some (length records) =
    ap (slice_get (places ++ length records ∷ [])) (sym count) ∙ slice_get-last places (length records) in
    rw (last_index-passes (is_edit_of editor) records edit his, slice_get-last records edit, all_places-push records edit, last, numbered)
    refl

-- the number and the place of the record at an index
abbrev numbered_at : List Record → List ℕ → ℕ → Option (ℕ × ℕ)
numbered_at records places i =
    slice_get records i >>= λ edit. slice_get places i >>= λ place. option_map (λ (q : ℕ). (q, place)) (number_in edit)

-- are those in the shorter list
numbered_at-before : (records : List Record) (edit : Record) (found : Option ℕ) → ((k : ℕ) → found ≡ Some k → k < length records)
    → (found >>= numbered_at (records ++ edit ∷ []) (all_places records ++ length records ∷ []))
    ≡ (found >>= numbered_at records (all_places records))
numbered_at-before records edit None inside = refl
numbered_at-before records edit (Some k) inside =
    let place : k < length (all_places records) = omega (arith, inside k refl, length-range_with_len 0 (length records)) in
    rw (slice_get-before records (edit ∷ []) k edit (inside k refl), slice_get-before (all_places records) (length records ∷ []) k 0 place)
    refl

-- another record leaves it as it was
pub last_edit-others : (records : List Record) (edit : Record) (editor : ℕ) → is_edit_of editor edit ≡ false
    → last_edit (records ++ edit ∷ []) editor ≡ last_edit records editor
last_edit-others records edit editor other =
    rw (last_index-fails (is_edit_of editor) records edit other, all_places-push records edit)
    (numbered_at-before records edit (last_index (is_edit_of editor) records) (last_index-within (is_edit_of editor) records))

-- ---- accounts stay

-- a record that is of an account makes one
makes_one : (number : ℕ) (edit : Record) → makes number edit ≡ true → is_some (account_in edit) ≡ true
makes_one number (Put editor q name frame) is = absurd cc
makes_one number (Drop editor q name) is = absurd cc
makes_one number (Account editor q account) is = refl
makes_one number (Lease editor q root account) is = absurd cc
makes_one number (Taken taken) is = absurd cc

-- an account that there is stays, whether the record is of it or not
stays : (number : ℕ) (records : List Record) (edit : Record) (its : Bool) → makes number edit ≡ its → has_editor records number ≡ true
    → has_editor (records ++ edit ∷ []) number ≡ true
stays number records edit true its known = rw (last_record-passes (makes number) records edit its) (makes_one number edit its)
stays number records edit false its known = rw (last_record-fails (makes number) records edit its) known

pub has_editor-push : (number : ℕ) (records : List Record) (edit : Record) → has_editor records number ≡ true
    → has_editor (records ++ edit ∷ []) number ≡ true
has_editor-push number records edit known = stays number records edit (makes number edit) refl known
