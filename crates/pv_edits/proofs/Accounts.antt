-- Accounts stay, there are at most as many as may be, and no list of different accounts is longer than their count.
use Rattle.std.proofs.Common.{◌≡◌, ◌⊎◌, inl, inr, ℕ, ◌+◌, ◌≤◌, Bool, true, false, cond, eqb, ◌||◌, List, [], ◌∷◌, ◌++◌, length, Some, None, true≢false, refl, sym, ap, subst, ◌∙◌, arith}
use Rattle.std.specs.Prelude.{reverse, is_some}
use Rattle.std.specs.List.{IsDistinct, list_any}
use Rattle.std.proofs.lemmas.Bool.{eqb-true}
use Rattle.std.proofs.lemmas.Cmp.{nat_eq_equiv}
use Rattle.std.proofs.lemmas.List.{reverse-append, reverse-reverse}
use Rattle.std.proofs.lemmas.List.Folds.{list_any-append}
use Rattle.std.proofs.lemmas.Map.Made.{length-le_from_is_member}
use Rattle.pv_outside.specs.declared.limits.Limits.{Limits}
use Rattle.pv_account.specs.Profile.{Profile}
use Rattle.pv_edits.specs.declared.record.Record.{Record}
use Rattle.pv_edits.specs.declared.record.Record.TheVariants.{Put, Drop, Account, Lease, Taken}
use Rattle.pv_edits.specs.declared.room.TheConstants.{OPERATOR, MAX_ACCOUNTS}
use Rattle.pv_edits.specs.Edits.{makes, account_in, account_at, account_or_first, last_record, operator_profile}
use Rattle.pv_edits.specs.Room.{count_from, accounts_after, account_count, has_editor, has_room}
use Rattle.pv_edits.proofs.Counting.{account_count-push, below}
use Rattle.pv_edits.proofs.Growing.{makes_account}
use Rattle.pv_edits.proofs.LastRecord.{last_record-push}

-- ---- one record more

module _ (records : List Record) (edit : Record) (number : ℕ) where
  -- the account of a number is what the new record makes it, or what it was
  account_at-push : account_at (records ++ edit ∷ []) number ≡ cond (makes number edit) (account_in edit) (account_at records number)
  account_at-push = ap (account_or_first number) (last_record-push (makes number) records edit) ∙ by (makes number edit)
    where
      by : (made : Bool) → account_or_first number (cond made (Some edit) (last_record (makes number) records))
          ≡ cond made (account_in edit) (account_at records number)
      by true = refl
      by false = refl

-- an account stays one
pub account_stays : (records : List Record) (edit : Record) (number : ℕ) → has_editor records number ≡ true
    → has_editor (records ++ edit ∷ []) number ≡ true
account_stays records edit number has = ap is_some (account_at-push records edit number) ∙ by (makes number edit) refl
  where
    by : (made : Bool) → makes number edit ≡ made → is_some (cond made (account_in edit) (account_at records number)) ≡ true
    by true is = makes_account number edit is
    by false is = has

-- who is an account after one record more is made one by it, or was one
account_before : (records : List Record) (edit : Record) (number : ℕ) → has_editor (records ++ edit ∷ []) number ≡ true
    → (makes number edit ≡ true) ⊎ (has_editor records number ≡ true)
account_before records edit number has = by (makes number edit) refl (sym (ap is_some (account_at-push records edit number)) ∙ has)
  where
    by : (made : Bool) → makes number edit ≡ made → is_some (cond made (account_in edit) (account_at records number)) ≡ true
        → (makes number edit ≡ true) ⊎ (has_editor records number ≡ true)
    by true is has = inl is
    by false is has = inr has

-- ---- how many there are

-- a record that has room leaves at most as many as may be
pub accounts-within : (limits : Limits) (records : List Record) (edit : Record) → has_room limits records edit ≡ true
    → account_count records ≤ MAX_ACCOUNTS → account_count (records ++ edit ∷ []) ≤ MAX_ACCOUNTS
accounts-within limits records edit room few = rw (account_count-push records edit) (by edit room)
  where
    by : (edit : Record) → has_room limits records edit ≡ true → accounts_after records (account_count records) edit ≤ MAX_ACCOUNTS
    by (Put e q n f) room = few
    by (Drop e q n) room = few
    by (Account e q a) room = one_more (is_some (account_at records a.number)) refl
      where
        one_more : (there : Bool) → is_some (account_at records a.number) ≡ there
            → cond there (account_count records) (account_count records + 1) ≤ MAX_ACCOUNTS
        one_more true is = few
        one_more false is =
            let less = below (has_editor records e) (is_some (account_at records a.number)) (account_count records) MAX_ACCOUNTS room is in
            omega (arith, less)
    by (Lease e q r a) room = few
    by (Taken t) room = few

-- ---- the list of all accounts

-- the account that a record adds to those before
abbrev added : List Record → Record → List ℕ
added before (Put e q n f) = []
added before (Drop e q n) = []
added before (Account e q a) = cond (has_editor before a.number) [] (a.number ∷ [])
added before (Lease e q r a) = []
added before (Taken t) = []

-- the accounts of a list of records, the last one first
abbrev numbers : List Record → List ℕ
numbers [] = OPERATOR ∷ []
numbers (edit ∷ before) = added (reverse before) edit ++ numbers before

-- one record more adds its account
length-added : (before : List Record) (edit : Record) (list : List ℕ) (count : ℕ) → length list ≡ count
    → length (added before edit ++ list) ≡ accounts_after before count edit
length-added before (Put e q n f) list count is = is
length-added before (Drop e q n) list count is = is
length-added before (Account e q a) list count is = one_more (has_editor before a.number)
  where
    one_more : (there : Bool) → length (cond there [] (a.number ∷ []) ++ list) ≡ cond there count (count + 1)
    one_more true = is
    one_more false = omega (arith, is)
length-added before (Lease e q r a) list count is = is
length-added before (Taken t) list count is = is

-- they are as many as there are accounts
length-numbers : (before : List Record) → length (numbers before) ≡ count_from 1 accounts_after before
length-numbers [] = refl
length-numbers (edit ∷ before) = length-added (reverse before) edit (numbers before) _ (length-numbers before)

-- the operator alone is an account before any record
operator_alone : (number : ℕ) → has_editor [] number ≡ true → list_any (eqb number) (OPERATOR ∷ []) ≡ true
operator_alone number has = by (eqb number OPERATOR) refl has
  where
    by : (his : Bool) → eqb number OPERATOR ≡ his → is_some (cond his (Some operator_profile) None) ≡ true → (his || false) ≡ true
    by true is has = refl
    by false is has = absurd (true≢false (sym has))

-- who is an account after one record more is among those before, or is added
has_added : (before : List Record) (edit : Record) (number : ℕ) (list : List ℕ)
    → (has_editor before number ≡ true → list_any (eqb number) list ≡ true)
    → (makes number edit ≡ true) ⊎ (has_editor before number ≡ true)
    → (list_any (eqb number) (added before edit) || list_any (eqb number) list) ≡ true
has_added before edit number list there how = by edit how
  where
    or_true : (b : Bool) → (b || true) ≡ true
    or_true true = refl
    or_true false = refl

    later : (edit : Record) → has_editor before number ≡ true
        → (list_any (eqb number) (added before edit) || list_any (eqb number) list) ≡ true
    later edit was = rw (there was) (or_true (list_any (eqb number) (added before edit)))

    new : (e q : ℕ) (a : Profile) → makes number (Account e q a) ≡ true → (known : Bool) → has_editor before a.number ≡ known
        → (list_any (eqb number) (added before (Account e q a)) || list_any (eqb number) list) ≡ true
    new e q a made true is = later (Account e q a) (ap (has_editor before) (eqb-true number a.number made) ∙ is)
    new e q a made false is = rw (is, made) refl

    by : (edit : Record) → (makes number edit ≡ true) ⊎ (has_editor before number ≡ true)
        → (list_any (eqb number) (added before edit) || list_any (eqb number) list) ≡ true
    by edit (inr was) = later edit was
    by (Account e q a) (inl made) = new e q a made (has_editor before a.number) refl
    by (Put e q n f) (inl made) = absurd cc
    by (Drop e q n) (inl made) = absurd cc
    by (Lease e q r a) (inl made) = absurd cc
    by (Taken t) (inl made) = absurd cc

-- each account is among them
has_number : (before : List Record) (number : ℕ) → has_editor (reverse before) number ≡ true → list_any (eqb number) (numbers before) ≡ true
has_number [] number has = operator_alone number has
has_number (edit ∷ before) number has =
    let last : has_editor (reverse before ++ edit ∷ []) number ≡ true =
    subst (λ (records : List Record). has_editor records number ≡ true) (reverse-append (edit ∷ []) before) has in
    list_any-append (eqb number) (added (reverse before) edit) (numbers before)
    ∙ has_added (reverse before) edit number (numbers before) (has_number before number) (account_before (reverse before) edit number last)

-- so a list of different accounts is not longer than their count
pub accounts_few : (records : List Record) (owners : List ℕ) → IsDistinct eqb owners
    → ((owner : ℕ) → list_any (eqb owner) owners ≡ true → has_editor records owner ≡ true) → length owners ≤ account_count records
unfolding account_count
accounts_few records owners distinct are =
    let same : has_editor (reverse (reverse records)) ≡ has_editor records = ap has_editor (reverse-reverse records) in
    let few = length-le_from_is_member nat_eq_equiv owners (numbers (reverse records)) distinct
    (λ owner has. has_number (reverse records) owner (ap (λ f. f owner) same ∙ are owner has)) in
    omega (arith, few, length-numbers (reverse records))
