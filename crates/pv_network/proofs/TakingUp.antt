-- The items that were taken up from a centre: they stay the first of its items as the list grows, and as the centre keeps more.
use Rattle.std.proofs.Common.{◌≡◌, ℕ, ◌+◌, ◌≤◌, Bool, true, false, cond, eqb, ltb, List, [], ◌∷◌, ◌++◌, length, take, Some, None, refl, sym, ap, subst, ◌∙◌, arith, append-nil}
use Rattle.std.specs.Prelude.{IfSome, slice_get}
use Rattle.std.proofs.lemmas.Bool.{eqb-true}
use Rattle.std.proofs.lemmas.Bool.Decides.{nat_tests}
use Rattle.std.proofs.lemmas.List.{length-take, take-append-le, take_more}
use Rattle.std.proofs.lemmas.List.Elements.{filter_map-append}
use Rattle.std.proofs.lemmas.List.Sums.{sum_by-append, sum_by-cons, sum_by_push}
use Rattle.std.proofs.lemmas.Option.{slice_get_within, get_or_from_slice_get}
use Rattle.pv_outside.specs.declared.limits.Limits.{Limits}
use Rattle.pv_post.specs.declared.item.Item.{Item}
use Rattle.pv_edits.specs.Edits.{is_edit_of, is_of_centre, taken_of}
use Rattle.pv_edits.specs.declared.record.Record.{Record}
use Rattle.pv_edits.specs.declared.record.Record.TheVariants.{Put, Drop, Account, Lease, Taken}
use Rattle.pv_node.specs.declared.decision.Decision.TheVariants.{Answer, Store}
use Rattle.pv_udc.specs.Judgement.{judge}
use Rattle.pv_udc.specs.Requests.{record_of}
use Rattle.pv_udc.specs.declared.reply.UdcReply.{UdcReply}
use Rattle.pv_udc.specs.declared.reply.UdcReply.TheVariants.{Stored, Old, Early}
use Rattle.pv_udc.specs.declared.request.UdcRequest.TheVariants.{TakeUp}
use Rattle.pv_network.specs.OneList.{item_from, taken_items}

-- one if the test holds
abbrev pub one_if : Bool → ℕ
one_if test = cond test 1 0

-- as many were taken up as there are such items
pub count_taken : (edits : List Record) (c : ℕ) → length (taken_items edits c) ≡ taken_of edits c
count_taken [] c = refl
count_taken (edit ∷ edits) c =
    by edit ∙ ap (λ n. one_if (is_of_centre c edit) + n) (count_taken edits c)
    ∙ sym (sum_by-cons (λ (e : Record). one_if (is_of_centre c e)) edit edits)
  where
    by : (e : Record) → length (taken_items (e ∷ edits) c) ≡ one_if (is_of_centre c e) + length (taken_items edits c)
    by (Put editor q name frame) = omega arith
    by (Drop editor q name) = omega arith
    by (Account editor q profile) = omega arith
    by (Lease editor q root account) = omega arith
    by (Taken up) = one (eqb up.centre c) refl
      where
        one : (test : Bool) → eqb up.centre c ≡ test
            → length (taken_items (Taken up ∷ edits) c) ≡ one_if (eqb up.centre c) + length (taken_items edits c)
        one true is = rw is (omega arith)
        one false is = rw is (omega arith)

-- so there are as many items at least
pub taken_within : (edits : List Record) (c : ℕ) (items : List Item) → taken_items edits c ≡ take (taken_of edits c) items
    → taken_of edits c ≤ length items
taken_within edits c items is =
    let size = ap (λ (l : List Item). length l) is ∙ length-take (taken_of edits c) items in
    omega (arith, size, count_taken edits c)

-- no fewer were taken up of a longer list
pub taken_more : (edits more : List Record) (c : ℕ) → taken_of edits c ≤ taken_of (edits ++ more) c
taken_more edits more c = omega (arith, sum_by-append (λ (e : Record). one_if (is_of_centre c e)) edits more)

-- ---- one record more

-- the record takes up none of the centre's items, or the next one
abbrev pub TakesNext : List Record → ℕ → List Item → Record → Type 0
TakesNext edits c items edit = IfSome (item_from c edit) (λ item. slice_get items (taken_of edits c) ≡ Some item)

module _ (edits : List Record) (c : ℕ) (items : List Item) (is : taken_items edits c ≡ take (taken_of edits c) items) where
  -- a record that takes up none
  none_taken : (edit : Record) → taken_items (edit ∷ []) c ≡ [] → is_of_centre c edit ≡ false
      → taken_items (edits ++ edit ∷ []) c ≡ take (taken_of (edits ++ edit ∷ []) c) items
  none_taken edit none other =
      let same : taken_of (edits ++ edit ∷ []) c ≡ taken_of edits c =
      sum_by_push (λ (e : Record). one_if (is_of_centre c e)) edits edit
      ∙ ap (λ test. taken_of edits c + one_if test) other ∙ omega arith in
      filter_map-append (item_from c) edits (edit ∷ []) ∙ ap (λ (l : List Item). taken_items edits c ++ l) none
      ∙ append-nil (taken_items edits c) ∙ is ∙ ap (λ n. take n items) (sym same)

  -- with it the items that were taken up are still the first ones
  pub taken_push : (edit : Record) → TakesNext edits c items edit
      → taken_items (edits ++ edit ∷ []) c ≡ take (taken_of (edits ++ edit ∷ []) c) items
  taken_push (Put editor q name frame) next = none_taken (Put editor q name frame) refl refl
  taken_push (Drop editor q name) next = none_taken (Drop editor q name) refl refl
  taken_push (Account editor q profile) next = none_taken (Account editor q profile) refl refl
  taken_push (Lease editor q root account) next = none_taken (Lease editor q root account) refl refl
  taken_push (Taken up) next = by (eqb up.centre c) refl
    where
      by : (test : Bool) → eqb up.centre c ≡ test
          → taken_items (edits ++ Taken up ∷ []) c ≡ take (taken_of (edits ++ Taken up ∷ []) c) items
      by false other = none_taken (Taken up) (rw other refl) other
      by true same =
          let there : slice_get items (taken_of edits c) ≡ Some up.item = rw same at next in
          let one : taken_items (Taken up ∷ []) c ≡ up.item ∷ [] = rw same refl in
          let more : taken_of (edits ++ Taken up ∷ []) c ≡ taken_of edits c + 1 =
          sum_by_push (λ (e : Record). one_if (is_of_centre c e)) edits (Taken up) ∙ ap (λ test. taken_of edits c + one_if test) same in
          filter_map-append (item_from c) edits (Taken up ∷ []) ∙ ap (λ (l : List Item). taken_items edits c ++ l) one
          ∙ ap (λ (l : List Item). l ++ up.item ∷ []) is
          ∙ sym (ap (λ n. take n items) more
          ∙ take_more items (taken_of edits c) up.item (slice_get_within items (taken_of edits c) up.item there)
          ∙ ap (λ (item : Item). take (taken_of edits c) items ++ item ∷ [])
          (get_or_from_slice_get items (taken_of edits c) up.item up.item there))

-- an editor's edit takes up no item
pub edit_takes_none : (edits : List Record) (c : ℕ) (items : List Item) (editor : ℕ) (edit : Record) → is_edit_of editor edit ≡ true
    → TakesNext edits c items edit
edit_takes_none edits c items editor (Put by q name frame) his = tt
edit_takes_none edits c items editor (Drop by q name) his = tt
edit_takes_none edits c items editor (Account by q profile) his = tt
edit_takes_none edits c items editor (Lease by q root account) his = tt
edit_takes_none edits c items editor (Taken up) his = absurd cc

-- the next item of a centre is the next one there, and none of another centre's
pub item_takes_next : (edits : List Record) (from c number : ℕ) (item : Item) (items : ℕ → List Item)
    → slice_get (items from) number ≡ Some item → number ≡ taken_of edits from
    → TakesNext edits c (items c) (record_of (TakeUp from number item))
item_takes_next edits from c number item items there next = by (eqb from c) refl
  where
    by : (test : Bool) → eqb from c ≡ test
        → IfSome (cond test (Some item) None) (λ up. slice_get (items c) (taken_of edits c) ≡ Some up)
    by false is = tt
    by true is =
        let same = eqb-true from c is in
        subst (λ n. slice_get (items n) (taken_of edits n) ≡ Some item) same (ap (slice_get (items from)) (sym next) ∙ there)

-- more items leave the taken ones the first
pub taken_of_more : (edits : List Record) (c : ℕ) (items more longer : List Item) → taken_items edits c ≡ take (taken_of edits c) items
    → longer ≡ items ++ more → taken_items edits c ≡ take (taken_of edits c) longer
taken_of_more edits c items more longer is grown =
    is ∙ sym (ap (take (taken_of edits c)) grown ∙ take-append-le (taken_of edits c) items more (taken_within edits c items is))

-- ---- the judgement

-- the next item of a centre is stored
pub judges_next : (limits : Limits) (edits : List Record) (c number : ℕ) (item : Item) → number ≡ taken_of edits c
    → judge limits edits (TakeUp c number item) ≡ Store (record_of (TakeUp c number item)) (Stored (length edits))
judges_next limits edits c number item next =
    let old : ltb number (taken_of edits c) ≡ false = grind (arith, nat_tests, next) in
    let early : ltb (taken_of edits c) number ≡ false = grind (arith, nat_tests, next) in
    rw (old, early) refl

-- what is stored for an item is its record, and the item is the next one of its centre
pub judged_next : (limits : Limits) (edits : List Record) (c number : ℕ) (item : Item) (edit : Record) (reply : UdcReply)
    → judge limits edits (TakeUp c number item) ≡ Store edit reply → (number ≡ taken_of edits c) × (record_of (TakeUp c number item) ≡ edit)
judged_next limits edits c number item edit reply is = by (ltb number (taken_of edits c)) (ltb (taken_of edits c) number) refl refl
  where
    by : (old early : Bool) → ltb number (taken_of edits c) ≡ old → ltb (taken_of edits c) number ≡ early
        → (number ≡ taken_of edits c) × (record_of (TakeUp c number item) ≡ edit)
    by true early below above =
        let answer : Answer (Old (taken_of edits c)) ≡ Store edit reply = rw below at is in absurd cc
    by false true below above =
        let answer : Answer (Early (taken_of edits c)) ≡ Store edit reply = rw (below, above) at is in absurd cc
    by false false below above =
        let stored : Store (record_of (TakeUp c number item)) (Stored (length edits)) ≡ Store edit reply = rw (below, above) at is in
        (grind (arith, nat_tests, below, above), cc)
