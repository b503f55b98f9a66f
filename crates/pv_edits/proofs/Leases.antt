-- If no root is leased, each page is the operator's.
use Rattle.std.proofs.Common.{◌≡◌, ℕ, ◌+◌, false, List, [], ◌∷◌, ◌++◌, Option, Some, None, refl, sym, ap, subst, ◌∙◌, arith}
use Rattle.std.specs.Prelude.{reverse}
use Rattle.std.proofs.lemmas.List.{reverse-append, reverse-reverse}
use Rattle.std.proofs.lemmas.List.Sums.{fold-append}
use Rattle.pv_edits.specs.declared.record.Record.{Record}
use Rattle.pv_edits.specs.declared.record.Record.TheVariants.{Put, Drop, Account, Lease, Taken}
use Rattle.pv_edits.specs.declared.room.TheConstants.{OPERATOR}
use Rattle.pv_edits.specs.Edits.{leases, last_index}
use Rattle.pv_edits.specs.Owner.{better_lot, lot_after, lot_of, account_of_lot, owner_of}
use Rattle.pv_edits.specs.Room.{count_from, leases_after, lease_count}
use Rattle.pv_edits.proofs.LastIndex.{last_index-push}

-- each page is in no lot, and no root is leased
record IsFree (records : List Record) : Type 0 where
  pub lot : (page : ℕ) → lot_of records page ≡ None
  pub leased : (root : ℕ) → last_index (leases root) records ≡ None

-- another record than a lease changes nothing
unmoved : (records : List Record) (edit : Record) → IsFree records → ((page : ℕ) → better_lot page None edit ≡ None)
    → ((root : ℕ) → leases root edit ≡ false)
    → IsFree (records ++ edit ∷ [])
unmoved records edit free lot other = record {
  lot = λ page. fold-append (lot_after page) None records (edit ∷ []) ∙ rw (free.lot page, lot page) refl;
  leased = λ root. last_index-push (leases root) records edit ∙ rw (other root) (free.leased root);
}

-- one record more that leaves no root leased
step : (records : List Record) (count : ℕ) (edit : Record) → leases_after records count edit ≡ 0 → (count ≡ 0 → IsFree records)
    → IsFree (records ++ edit ∷ [])
step records count (Put editor q name frame) none free = unmoved records (Put editor q name frame) (free none) (λ page. refl) (λ root. refl)
step records count (Drop editor q name) none free = unmoved records (Drop editor q name) (free none) (λ page. refl) (λ root. refl)
step records count (Account editor q account) none free = unmoved records (Account editor q account) (free none) (λ page. refl)
    (λ root. refl)
step records count (Taken taken) none free = unmoved records (Taken taken) (free none) (λ page. refl) (λ root. refl)
step records count (Lease editor q root account) none free = absurd (by (last_index (leases root) records) refl none)
  where
    by : (found : Option ℕ) → last_index (leases root) records ≡ found → leases_after records count (Lease editor q root account) ≡ 0 → ⊥
    by None how zero_after = let more : count + 1 ≡ 0 = rw how at zero_after in omega (arith, more)
    by (Some i) how zero_after =
        let zero_before : count ≡ 0 = rw how at zero_after in
        let missing : Some i ≡ None = sym how ∙ (free zero_before).leased root in
        cc

-- and so on from the first record
free_from : (before : List Record) → count_from 0 leases_after before ≡ 0 → IsFree (reverse before)
free_from [] none = record { lot = λ page. refl; leased = λ root. refl }
free_from (edit ∷ before) none =
    subst IsFree (sym (reverse-append (edit ∷ []) before))
    (step (reverse before) (count_from 0 leases_after before) edit none (free_from before))

pub owner-none : (records : List Record) (page : ℕ) → lease_count records ≡ 0 → owner_of records page ≡ OPERATOR
unfolding lease_count
owner-none records page none =
    ap account_of_lot (subst (λ (l : List Record). lot_of l page ≡ None) (reverse-reverse records)
    ((free_from (reverse records) none).lot page))
