-- Lists of entries, and of their records.
use Rattle.std.proofs.Common.{◌≡◌, suc, ◌+◌, List, [], ◌∷◌, ◌++◌, length, fold, refl, ap, sym, ◌∙◌, arith, length-append, append_assoc, ◌⊎◌, inl, inr}
use mathlib.Core.List.{IsPrefix}
use Rattle.pv_history.proofs.CallerLemmas.{prefix_shorter, prefix_whole}
use Rattle.pv_live.specs.declared.entry.Entry.{Entry}
use Rattle.pv_live.specs.Entries.{records_in, with_opening}

module _ {T : Type 0} where
  -- the records of one entry more
  records_more : (log : List (Entry T)) (entry : Entry T) → records_in (log ++ entry ∷ []) ≡ records_in log ++ entry.rec ∷ []
  records_more [] entry = refl
  records_more (x ∷ log) entry = ap (λ (l : List T). x.rec ∷ l) (records_more log entry)

  -- there are as many records as entries
  record_count : (log : List (Entry T)) → length (records_in log) ≡ length log
  record_count [] = refl
  record_count (x ∷ log) = ap suc (record_count log)

  -- all records, with one entry more
  pub with_more : (opening : List T) (log : List (Entry T)) (entry : Entry T)
      → with_opening opening (log ++ entry ∷ []) ≡ with_opening opening log ++ entry.rec ∷ []
  with_more opening log entry =
      ap (λ (l : List T). opening ++ l) (records_more log entry) ∙ sym (append_assoc opening (records_in log) (entry.rec ∷ []))

  -- how many records there are
  pub with_count : (opening : List T) (log : List (Entry T)) → length (with_opening opening log) ≡ length opening + length log
  with_count opening log = omega (arith, length-append opening (records_in log), record_count log)

module _ {A : Type 0} where
  -- how long a list with one element more is
  pub last_count : (before whole : List A) (last : A) → whole ≡ before ++ last ∷ [] → length whole ≡ length before + 1
  last_count before whole last is = ap length is ∙ omega (arith, length-append before (last ∷ []))

  -- a prefix that is one shorter than a list is what the list has before its last element
  pub prefix_before : (xs ys before : List A) (last : A) → IsPrefix xs ys → ys ≡ before ++ last ∷ [] → length ys ≡ length xs + 1
      → xs ≡ before
  prefix_before xs ys before last prefix is more =
      let count = last_count before ys last is in
      prefix_whole xs before (prefix_shorter xs before ys prefix (last ∷ [], sym is) (omega (arith, count, more)))
      (omega (arith, count, more))

  -- of changes each of which knows all that was before it, the last is what is left
  pub fold_last : (first : A) (changes : List A) (last : A) → fold (λ (known change : A). change) first (changes ++ last ∷ []) ≡ last
  fold_last first [] last = refl
  fold_last first (x ∷ changes) last = fold_last x changes last

  -- a list that ends in `last`, and is split at x, is split there, or before it
  pub split_last : (log before after : List A) (last x : A) → log ++ last ∷ [] ≡ before ++ x ∷ after
      → ((log ≡ before) × (last ≡ x)) ⊎ ((more : List A) × (log ≡ before ++ x ∷ more))
  split_last [] [] after last x is = inl (refl, cc is)
  split_last [] (b ∷ before) after last x is = absurd (omega (arith, ap length is, length-append before (x ∷ after)))
  split_last (y ∷ log) [] after last x is = let heads : y ≡ x = cc is in inr (log, cc heads)
  split_last (y ∷ log) (b ∷ before) after last x is =
      let heads : y ≡ b = cc is in
      let tails : log ++ last ∷ [] ≡ before ++ x ∷ after = cc is in
      elim (split_last log before after last x tails) [
        | inl here ↦ inl (cc (heads, here.0), here.1)
        | inr there ↦ inr (there.0, cc (heads, there.1))
      ]
