-- The places of the records that pass a test: how they grow, where they are split, and how a search goes by them.
use Rattle.std.proofs.Common.{◌≡◌, ℕ, zero, suc, ◌+◌, ◌-◌, ◌≤◌, ◌<◌, Bool, true, false, cond, ltb, List, [], ◌∷◌, ◌++◌, length, take, drop, get_or, Some, None, inl, inr, refl, ap, sym, ◌∙◌, arith}
use Rattle.std.specs.List.{position_from}
use Rattle.std.specs.List.Sorted.{IsPartitionPoint, IsPartitionedBy}
use Rattle.std.proofs.lemmas.Bool.{cases_order, lt-ltb, ltb-true, true≢false}
use Rattle.std.proofs.lemmas.List.{append-nil, drop_all, drop_at, drop_more, drop-drop, get_or-append_right, get_or_append_left, length-append, length-drop, length-take, length-take-le, take-append-drop}
use Rattle.pv_post.specs.declared.item.Item.{Item}
use Rattle.pv_post.specs.declared.item.Item.TheVariants.{Charge, Reply, Mail}
use Rattle.pv_edits.specs.declared.record.Record.{Record}
use Rattle.pv_edits.specs.declared.record.Record.TheVariants.{Put, Drop, Account, Lease, Taken}
use Rattle.pv_udc.specs.Replies.{brings_reply, brings_reply_to, is_reply, is_reply_to, places_of, reply_place, reply_places, starting_at}

module _ (test : Record → Bool) where
  -- those of two lists
  pub places_of-append : (place : ℕ) (xs ys : List Record)
      → places_of test place (xs ++ ys) ≡ places_of test place xs ++ places_of test (place + length xs) ys
  places_of-append place [] ys = ap (λ (n : ℕ). places_of test n ys) (omega arith)
  places_of-append place (x ∷ xs) ys = by (test x)
      (places_of-append (place + 1) xs ys ∙ ap (λ (n : ℕ). places_of test (place + 1) xs ++ places_of test n ys) (omega arith))
    where
      by : (passes : Bool)
          → places_of test (place + 1) (xs ++ ys) ≡ places_of test (place + 1) xs ++ places_of test (place + suc (length xs)) ys
          → starting_at passes place (places_of test (place + 1) (xs ++ ys))
          ≡ starting_at passes place (places_of test (place + 1) xs) ++ places_of test (place + suc (length xs)) ys
      by true rest = ap (λ (l : List ℕ). place ∷ l) rest
      by false rest = rest

  -- there are no more than records
  pub places_of-few : (place : ℕ) (xs : List Record) → length (places_of test place xs) ≤ length xs
  places_of-few place [] = omega arith
  places_of-few place (x ∷ xs) = by (test x) (places_of-few (place + 1) xs)
    where
      by : (passes : Bool) → length (places_of test (place + 1) xs) ≤ length xs
          → length (starting_at passes place (places_of test (place + 1) xs)) ≤ suc (length xs)
      by true few = omega (arith, few)
      by false few = omega (arith, few)

  -- none is below the first place
  pub places_of-low : (place : ℕ) (xs : List Record) (k d : ℕ) → k < length (places_of test place xs)
      → place ≤ get_or (places_of test place xs) k d
  places_of-low place [] = λ k d within. absurd (omega (arith, within))
  places_of-low place (x ∷ xs) = by (test x) (places_of-low (place + 1) xs)
    where
      by : (passes : Bool)
          → ((k d : ℕ) → k < length (places_of test (place + 1) xs) → place + 1 ≤ get_or (places_of test (place + 1) xs) k d)
          → (k d : ℕ) → k < length (starting_at passes place (places_of test (place + 1) xs))
          → place ≤ get_or (starting_at passes place (places_of test (place + 1) xs)) k d
      by true rest zero d within = omega arith
      by true rest (suc k) d within = omega (arith, rest k d (omega (arith, within)))
      by false rest k d within = omega (arith, rest k d within)

  -- each is below the end
  pub places_of-high : (place : ℕ) (xs : List Record) (k d : ℕ) → k < length (places_of test place xs)
      → get_or (places_of test place xs) k d < place + length xs
  places_of-high place [] = λ k d within. absurd (omega (arith, within))
  places_of-high place (x ∷ xs) = by (test x) (places_of-high (place + 1) xs)
    where
      by : (passes : Bool)
          → ((k d : ℕ) → k < length (places_of test (place + 1) xs) → get_or (places_of test (place + 1) xs) k d < place + 1 + length xs)
          → (k d : ℕ) → k < length (starting_at passes place (places_of test (place + 1) xs))
          → get_or (starting_at passes place (places_of test (place + 1) xs)) k d < place + suc (length xs)
      by true rest zero d within = omega arith
      by true rest (suc k) d within = omega (arith, rest k d (omega (arith, within)))
      by false rest k d within = omega (arith, rest k d within)

  -- those before a place, and those from it on
  pub places_of-split : (records : List Record) (from : ℕ)
      → places_of test 0 records ≡ places_of test 0 (take from records) ++ places_of test from (drop from records)
  places_of-split records from =
      ap (places_of test 0) (sym (take-append-drop from records)) ∙ places_of-append 0 (take from records) (drop from records)
      ∙ ap (λ (l : List ℕ). places_of test 0 (take from records) ++ l) (elim (cases_order from (length records)) [
        | inl here ↦ seam (omega (arith, here))
        | inr (inl below) ↦ seam (omega (arith, below))
        | inr (inr above) ↦
            let none = drop_all from records (omega (arith, above)) in
            ap (places_of test (0 + length (take from records))) none ∙ sym (ap (places_of test from) none)
      ])
    where
      seam : from ≤ length records
          → places_of test (0 + length (take from records)) (drop from records) ≡ places_of test from (drop from records)
      seam within = ap (λ (n : ℕ). places_of test n (drop from records)) (omega (arith, length-take-le from records within))

  -- those before a place are below it
  pub places_of-below : (records : List Record) (from k d : ℕ) → k < length (places_of test 0 (take from records))
      → get_or (places_of test 0 (take from records)) k d < from
  places_of-below records from k d within =
      omega (arith, places_of-high 0 (take from records) k d within, length-take from records)

  -- those of one record more
  pub places_of-more : (records : List Record) (edit : Record) → test edit ≡ true
      → places_of test 0 (records ++ edit ∷ []) ≡ places_of test 0 records ++ length records ∷ []
  places_of-more records edit passes =
      places_of-append 0 records (edit ∷ []) ∙ ap (λ (b : Bool). places_of test 0 records ++ starting_at b (0 + length records) []) passes
      ∙ ap (λ (n : ℕ). places_of test 0 records ++ n ∷ []) (omega arith)

  pub places_of-same : (records : List Record) (edit : Record) → test edit ≡ false
      → places_of test 0 (records ++ edit ∷ []) ≡ places_of test 0 records
  places_of-same records edit fails =
      places_of-append 0 records (edit ∷ []) ∙ ap (λ (b : Bool). places_of test 0 records ++ starting_at b (0 + length records) []) fails
      ∙ append-nil (places_of test 0 records)

-- ---- two lists, of numbers below a limit and of others

module _ (low high : List ℕ) (limit : ℕ) (below : (k d : ℕ) → k < length low → get_or low k d < limit)
    (above : (k d : ℕ) → k < length high → limit ≤ get_or high k d) where
  first_part : (k d : ℕ) → k < length low → get_or (low ++ high) k d < limit
  first_part k d within = rw (get_or_append_left low high d k within) (below k d within)

  second_part : (k d : ℕ) → length low ≤ k → k < length (low ++ high) → limit ≤ get_or (low ++ high) k d
  second_part k d from within =
      rw (get_or-append_right low high (length low) k d refl from)
      (above (k - length low) d (omega (arith, from, within, length-append low high)))

  -- no number below the limit comes after one that is not
  pub parted : IsPartitionedBy (λ n. ltb n limit) (low ++ high)
  parted i j d order within passes = elim (cases_order j (length low)) [
    | inl here ↦
        absurd (omega (arith, ltb-true (get_or (low ++ high) j d) limit passes, second_part j d (omega (arith, here)) within))
    | inr (inl less) ↦ lt-ltb (get_or (low ++ high) i d) limit (first_part i d (omega (arith, order, less)))
    | inr (inr more) ↦
        absurd (omega (arith, ltb-true (get_or (low ++ high) j d) limit passes, second_part j d (omega (arith, more)) within))
  ]

  -- from the first that is not, there is the second list
  pub part_from : (k : ℕ) → k ≤ length (low ++ high)
      → IsPartitionPoint (λ n. ltb n limit ≡ true) (λ n. ltb n limit ≡ false) (low ++ high) k → drop k (low ++ high) ≡ high
  part_from k within point = elim (cases_order k (length low)) [
    | inl here ↦ drop_at low high k (sym here)
    | inr (inl less) ↦
        absurd (true≢false (sym (lt-ltb (get_or (low ++ high) k 0) limit (first_part k 0 less))
        ∙ point.1 k 0 (omega arith) (omega (arith, less, length-append low high))))
    | inr (inr more) ↦
        absurd (omega (
          arith,
          ltb-true (get_or (low ++ high) (length low) 0) limit (point.0 (length low) 0 (omega arith) more),
          second_part (length low) 0 (omega arith) (omega (arith, more, within)),
        ))
  ]

-- ---- a search that goes by the places

module _ (reply test : Record → Bool) (only : (edit : Record) → reply edit ≡ false → test edit ≡ false) where
  -- the first place is this one, a count of records on, and the search returns it
  record IsFirst (place : ℕ) (xs : List Record) (next : ℕ) (rest : List ℕ) (skip : ℕ) : Type 0 where
    pub at : next ≡ place + skip
    pub within : skip < length xs
    pub after : rest ≡ places_of reply (next + 1) (drop (suc skip) xs)
    pub same : position_from test place xs ≡ position_from test next (drop skip xs)

  first_place : (place : ℕ) (xs : List Record) (next : ℕ) (rest : List ℕ) → places_of reply place xs ≡ next ∷ rest
      → (skip : ℕ) × IsFirst place xs next rest skip
  first_place place [] next rest is = absurd cc
  first_place place (x ∷ xs) next rest is = by (reply x) refl (first_place (place + 1) xs next rest) is
    where
      by : (passes : Bool) → reply x ≡ passes
          → (places_of reply (place + 1) xs ≡ next ∷ rest → (skip : ℕ) × IsFirst (place + 1) xs next rest skip)
          → starting_at passes place (places_of reply (place + 1) xs) ≡ next ∷ rest
          → (skip : ℕ) × IsFirst place (x ∷ xs) next rest skip
      by true how more is =
          let here : place ≡ next = cc in
          let others : places_of reply (place + 1) xs ≡ rest = cc in (
            0,
            record {
              at = omega (arith, here);
              within = omega arith;
              after = sym others ∙ ap (λ (n : ℕ). places_of reply (n + 1) xs) here;
              same = ap (λ (n : ℕ). position_from test n (x ∷ xs)) here;
            },
          )
      by false how more is =
          let later = more is in
          let first = later.1 in (
            suc later.0,
            record {
              at = omega (arith, first.at);
              within = omega (arith, first.within);
              after = first.after;
              same = ap (λ (b : Bool). cond b (Some place) (position_from test (place + 1) xs)) (only x how) ∙ first.same;
            },
          )

  no_place : (place : ℕ) (xs : List Record) → places_of reply place xs ≡ [] → position_from test place xs ≡ None
  no_place place [] is = refl
  no_place place (x ∷ xs) is = by (reply x) refl (no_place (place + 1) xs) is
    where
      by : (passes : Bool) → reply x ≡ passes → (places_of reply (place + 1) xs ≡ [] → position_from test (place + 1) xs ≡ None)
          → starting_at passes place (places_of reply (place + 1) xs) ≡ [] → position_from test place (x ∷ xs) ≡ None
      by true how more is = absurd cc
      by false how more is =
          ap (λ (b : Bool). cond b (Some place) (position_from test (place + 1) xs)) (only x how) ∙ more is

module _ (records : List Record) (editor : ℕ) where
  -- a record that brought no reply brought none to the editor
  only_replies : (edit : Record) → brings_reply edit ≡ false → brings_reply_to records editor edit ≡ false
  only_replies (Put other q name frame) is = refl
  only_replies (Drop other q name) is = refl
  only_replies (Account other q account) is = refl
  only_replies (Lease other q root account) is = refl
  only_replies (Taken taken) is = by taken.item is
    where
      by : (item : Item) → is_reply item ≡ false → is_reply_to records editor item ≡ false
      by (Charge line) is = refl
      by (Reply reply) is = absurd cc
      by (Mail mail) is = refl

  -- the next reply from a place on is at this one, and the search returns it
  pub record IsNextReply (from next : ℕ) (rest : List ℕ) : Type 0 where
    pub within : next < length records
    pub after : rest ≡ reply_places records (next + 1)
    pub same : reply_place records editor from ≡ reply_place records editor next

  pub next_reply : (from next : ℕ) (rest : List ℕ) → reply_places records from ≡ next ∷ rest → IsNextReply from next rest
  next_reply from next rest is =
      let found = first_place brings_reply (brings_reply_to records editor) only_replies from (drop from records) next rest is in
      let skip = found.0 in
      let first = found.1 in
      let further : from + suc skip ≡ next + 1 = omega (arith, first.at) in
      record {
        within = omega (arith, first.at, first.within, length-drop from records);
        after = first.after ∙ ap (places_of brings_reply (next + 1))
            (drop-drop (suc skip) from records ∙ ap (λ (n : ℕ). drop n records) further);
        same = first.same ∙ ap (position_from (brings_reply_to records editor) next)
            (drop-drop skip from records ∙ ap (λ (n : ℕ). drop n records) (sym first.at));
      }

  -- that is the first of the places that are left
  pub reply_step : (places : List ℕ) (i d from : ℕ) → i < length places → drop i places ≡ reply_places records from
      → IsNextReply from (get_or places i d) (drop (i + 1) places)
  reply_step places i d from within left =
      next_reply from (get_or places i d) (drop (i + 1) places) (sym left ∙ drop_more places i d within)

  -- there is none
  pub no_reply : (from : ℕ) → reply_places records from ≡ [] → reply_place records editor from ≡ None
  no_reply from is = no_place brings_reply (brings_reply_to records editor) only_replies from (drop from records) is
