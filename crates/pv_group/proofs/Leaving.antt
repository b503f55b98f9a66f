-- What is left of a node whose disk failed at the closing.
use Rattle.std.proofs.Common.{◌≡◌, ◌⊎◌, inl, inr, ℕ, ◌+◌, ◌≤◌, nat_le, Bool, true, List, [], ◌∷◌, ◌++◌, length, All, sym, ap, ◌∙◌, subst, arith, append_assoc, leb-true, take_all}
use Rattle.std.specs.List.{list_all}
use Rattle.std.proofs.lemmas.Bool.{and_parts}
use Rattle.std.proofs.lemmas.List.{map-append, take-append-le}
use Rattle.std.proofs.lemmas.List.Elements.{All-take}
use mathlib.Core.List.{IsPrefix}
use Rattle.pv_outside.specs.declared.reports.Reports as reports
use Rattle.pv_journal.specs.Journal.{EachImage}
use Rattle.pv_journal.specs.Log.{Log}
use Rattle.pv_node.specs.Standing.{Stands}
use Rattle.pv_node.specs.declared.rules.Rules as rules
use Rattle.pv_history.proofs.CallerLemmas.{prefix_shorter}
use Rattle.pv_live.specs.declared.entry.Entry.{Entry}
use Rattle.pv_live.specs.Entries.{records_in, with_opening}
use Rattle.pv_live.specs.Pass.{Standing, EachHasSeenPrefix}
use Rattle.pv_group.specs.Vault.{SpellsLog, HoldsStored}
use Rattle.pv_group.proofs.Moments.{images}

-- passes that have seen no more entries than these, of a list that begins with these, have seen a prefix of these
seen_within : {Rec : Type 0} (opening : ℕ) (stored log : List (Entry Rec)) (passes : List (Standing Rec)) → IsPrefix stored log
    → EachHasSeenPrefix log passes
    → list_all (λ (pass : Standing Rec). nat_le (opening + length pass.seen) (opening + length stored)) passes ≡ true
    → EachHasSeenPrefix stored passes
seen_within opening stored log [] prefix seen all = tt
seen_within opening stored log (pass ∷ passes) prefix seen all =
    let parts = and_parts _ _ all in
    let most : opening + length pass.seen ≤ opening + length stored = leb-true _ _ parts.0 in
    (prefix_shorter pass.seen stored log seen.0 prefix (omega (arith, most)), seen_within opening stored log passes prefix seen.1 parts.1)

-- so it is if that was counted
pub seen_counted : {Rec : Type 0} (opening : ℕ) (stored log : List (Entry Rec)) (passes counted : List (Standing Rec)) (most : ℕ)
    (within : Bool) → counted ≡ passes → most ≡ opening + length stored → IsPrefix stored log → EachHasSeenPrefix log passes
    → within ≡ list_all (λ (pass : Standing Rec). nat_le (opening + length pass.seen) most) counted
    → within ≡ true → EachHasSeenPrefix stored passes
seen_counted {Rec} opening stored log passes counted most within same is prefix seen says all =
    seen_within opening stored log passes prefix seen (subst (λ (ps : List (Standing Rec)).
    list_all (λ (pass : Standing Rec). nat_le (opening + length pass.seen) (opening + length stored)) ps ≡ true) same
    (subst (λ (n : ℕ). list_all (λ (pass : Standing Rec). nat_le (opening + length pass.seen) n) counted ≡ true) is (sym says ∙ all)))

-- what holds of all of a list holds of all of its first part
pub first_part : {A : Type 0} (P : A → Type 0) (xs ys : List A) → All P (xs ++ ys) → All P xs
first_part {A} P xs ys all =
    subst (All P) (take-append-le (length xs) xs ys (omega arith) ∙ take_all (length xs) xs (omega arith))
    (All-take P (length xs) (xs ++ ys) all)

module _ {S State Request Rec Reply D : Type 0} (r : rules.Ghosts S State Request Rec Reply) (d : reports.Ghosts D) (opening : List Rec) where
  -- the records of the opening, of some entries and of some more
  pub records_with : (log more : List (Entry Rec)) → with_opening opening (log ++ more) ≡ with_opening opening log ++ records_in more
  records_with log more =
      ap (λ (l : List Rec). opening ++ l) (map-append (λ (entry : Entry Rec). entry.rec) log more)
      ∙ sym (append_assoc opening (records_in log) (records_in more))

  -- each image of a vault's disk stands for what is stored, or for that with a group
  pub images_stand : (journal : Log D) (stored group waiting : List (Entry Rec)) → HoldsStored r d opening journal stored group
      → All r.is_record (with_opening opening ((stored ++ group) ++ waiting))
      → EachImage d journal.disk (λ image. Stands r image (with_opening opening stored)
      ⊎ Stands r image (with_opening opening (stored ++ group)))
  images_stand journal stored group waiting holds each some image left = by (images r d opening journal stored group holds some image left)
    where
      both : All r.is_record (with_opening opening (stored ++ group))
      both = first_part r.is_record _ (records_in waiting) (subst (All r.is_record) (records_with (stored ++ group) waiting) each)

      first : All r.is_record (with_opening opening stored)
      first = first_part r.is_record _ (records_in group) (subst (All r.is_record) (records_with stored group) both)

      by : SpellsLog r opening stored image ⊎ SpellsLog r opening (stored ++ group) image
          → Stands r image (with_opening opening stored) ⊎ Stands r image (with_opening opening (stored ++ group))
      by (inl one) = inl (record { text = one; each = first })
      by (inr all) = inr (record { text = all; each = both })
