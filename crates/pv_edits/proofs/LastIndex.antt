-- The last record that passes a test is found by a search from the end.
use Rattle.std.proofs.Common.{◌≡◌, ℕ, zero, suc, ◌<◌, Bool, true, false, cond, List, [], ◌∷◌, ◌++◌, length, get_or, Option, Some, None, refl, arith}
use Rattle.std.specs.Prelude.{slice_get}
use Rattle.pv_edits.specs.declared.record.Record.{Record}
use Rattle.pv_edits.specs.Edits.{last_index, later_or_first}

-- what is at a place stays there in a longer list
pub get_before : {X : Type 0} (xs ys : List X) (i : ℕ) → i < length xs → slice_get (xs ++ ys) i ≡ slice_get xs i
get_before [] ys i within = absurd (omega (arith, within))
get_before (x ∷ xs) ys zero within = refl
get_before (x ∷ xs) ys (suc i) within = get_before xs ys i (omega (arith, within))

-- the last element is at the end
pub get_at_end : {X : Type 0} (xs : List X) (x : X) (n : ℕ) → length xs ≡ n → slice_get (xs ++ x ∷ []) n ≡ Some x
get_at_end [] x n is = rw (← is) refl
get_at_end (y ∷ xs) x zero is = absurd (omega (arith, is))
get_at_end (y ∷ xs) x (suc n) is = get_at_end xs x n (omega (arith, is))

module _ (test : Record → Bool) where
  -- no record passes
  pub last_index-none : (records : List Record) → ((k : ℕ) (d : Record) → k < length records → test (get_or records k d) ≡ false)
      → last_index test records ≡ None
  last_index-none [] fails = refl
  last_index-none (x ∷ xs) fails = rw (last_index-none xs (λ k d within. fails (suc k) d (omega arith)), fails 0 x (omega arith)) refl

  -- the record at an index passes, and no later one
  at : (records : List Record) (i : ℕ) (d : Record) → i < length records → test (get_or records i d) ≡ true
      → ((k : ℕ) (e : Record) → i < k → k < length records → test (get_or records k e) ≡ false) → last_index test records ≡ Some i
  at [] i d within passes later = absurd (omega arith)
  at (x ∷ xs) zero d within passes later =
      rw (last_index-none xs (λ k e inside. later (suc k) e (omega arith) (omega arith)), passes) refl
  at (x ∷ xs) (suc i) d within passes later =
      rw (at xs i d (omega arith) passes (λ k e below inside. later (suc k) e (omega arith) (omega arith))) refl

  -- the last index that passes is known from the elements alone, whatever is read past the end
  pub last_index-at : (records : List Record) (i : ℕ) → i < length records → ((d : Record) → test (get_or records i d) ≡ true)
      → ((k : ℕ) (e : Record) → i < k → k < length records → test (get_or records k e) ≡ false) → last_index test records ≡ Some i
  last_index-at [] i within passes later = absurd (omega arith)
  last_index-at (x ∷ xs) i within passes later = at (x ∷ xs) i x within (passes x) later

  -- the index that is found is one of the list's
  pub last_index-within : (records : List Record) (i : ℕ) → last_index test records ≡ Some i → i < length records
  last_index-within [] i is = absurd cc
  last_index-within (x ∷ xs) i is = by (last_index test xs) (last_index-within xs) i is
    where
      by : (o : Option ℕ) → ((k : ℕ) → o ≡ Some k → k < length xs) → (i : ℕ) → later_or_first (test x) o ≡ Some i → i < suc (length xs)
      by (Some k) inside i is = let within = inside k refl in let same : suc k ≡ i = cc in omega (arith, within, same)
      by None inside i is = first (test x) i is
        where
          first : (passes : Bool) (i : ℕ) → cond passes (Some 0) None ≡ Some i → i < suc (length xs)
          first true i is = let same : 0 ≡ i = cc in omega (arith, same)
          first false i is = absurd cc

  -- the last record counts if it passes
  pub last_index-push : (records : List Record) (edit : Record)
      → last_index test (records ++ edit ∷ []) ≡ cond (test edit) (Some (length records)) (last_index test records)
  last_index-push [] edit = refl
  last_index-push (x ∷ xs) edit = rw (last_index-push xs edit) (by (test edit))
    where
      by : (passes : Bool) → later_or_first (test x) (cond passes (Some (length xs)) (last_index test xs))
          ≡ cond passes (Some (suc (length xs))) (later_or_first (test x) (last_index test xs))
      by true = refl
      by false = refl

-- the last record that passes a test passes it
pub last_passes : (test : Record → Bool) (records : List Record) (i : ℕ) (edit : Record) → last_index test records ≡ Some i
    → slice_get records i ≡ Some edit → test edit ≡ true
last_passes test [] i edit is there = absurd cc
last_passes test (x ∷ xs) i edit is there = by (last_index test xs) refl is (last_passes test xs)
  where
    first : (passes : Bool) → test x ≡ passes → cond passes (Some 0) None ≡ Some i → test edit ≡ true
    first true passed here = let at : i ≡ 0 = cc in let same : Some x ≡ Some edit = rw at at there in let is : x ≡ edit = cc in rw
        (← is) passed
    first false other here = absurd cc

    by : (later : Option ℕ) → last_index test xs ≡ later → later_or_first (test x) later ≡ Some i
        → ((k : ℕ) (e : Record) → last_index test xs ≡ Some k → slice_get xs k ≡ Some e → test e ≡ true) → test edit ≡ true
    by (Some k) found same again = let next : i ≡ suc k = cc in again k edit found (rw next at there)
    by None found same again = first (test x) refl same
