-- The lot that a page is in is that of the longest leased root which covers it.
use Rattle.std.proofs.Common.{◌≡◌, ℕ, ◌⊎◌, inl, inr, Bool, true, false, ◌&&◌, cond, eqb, List, [], ◌∷◌, ◌++◌, Option, Some, None, refl, sym, ap, subst, ◌∙◌, true≢false}
use Rattle.std.specs.Prelude.{reverse, is_some, IsTrue, if◌then◌else◌}
use Rattle.std.proofs.lemmas.Bool.{eq-eqb, eqb-true}
use Rattle.std.proofs.lemmas.List.{reverse-append, reverse-reverse}
use Rattle.std.proofs.lemmas.List.Sums.{fold-append}
use Rattle.pv_fields.specs.Reading.{◌>>=◌}
use Rattle.pv_page.specs.Names.{IsPage, covers}
use Rattle.pv_edits.specs.declared.owner.Lot.{Lot}
use Rattle.pv_edits.specs.declared.record.Record.{Record}
use Rattle.pv_edits.specs.declared.record.Record.TheVariants.{Put, Drop, Account, Lease, Taken}
use Rattle.pv_edits.specs.Record.{IsRecord}
use Rattle.pv_edits.specs.Edits.{leases, last_record}
use Rattle.pv_edits.specs.Owner.{is_as_long, better_lot, lot_in, lot_at, lot_after, lot_of}
use Rattle.pv_edits.proofs.LastRecord.{last_record-push}
use Rattle.pv_edits.proofs.Prefixes.{covers-itself, covers-through, one_covers}

-- ---- the lot of a root, with one record more

module _ (records : List Record) (edit : Record) (root : ℕ) where
  -- it is what the new record gives, or what it was
  pub lot_at-push : lot_at (records ++ edit ∷ []) root ≡ cond (leases root edit) (lot_in edit) (lot_at records root)
  lot_at-push = ap (λ last. last >>= lot_in) (last_record-push (leases root) records edit) ∙ by (leases root edit)
    where
      by : (leased : Bool) → (cond leased (Some edit) (last_record (leases root) records) >>= lot_in)
          ≡ cond leased (lot_in edit) (lot_at records root)
      by true = refl
      by false = refl

-- each leased root is a page, if it was and the new record is one
pub pages-push : (records : List Record) (edit : Record) → IsRecord edit
    → ((root : ℕ) → IsTrue (is_some (lot_at records root)) → IsPage root)
    → (root : ℕ) → IsTrue (is_some (lot_at (records ++ edit ∷ []) root)) → IsPage root
pages-push records edit is pages root has =
    by edit is (leases root edit) refl (ap is_some (sym (lot_at-push records edit root)) ∙ has)
  where
    by : (edit : Record) → IsRecord edit → (leased : Bool) → leases root edit ≡ leased
        → is_some (cond leased (lot_in edit) (lot_at records root)) ≡ true → IsPage root
    by edit is false how has = pages root has
    by (Lease e q r a) is true how has = subst IsPage (sym (eqb-true root r how)) is.1.0
    by (Put e q n f) is true how has = absurd cc
    by (Drop e q n) is true how has = absurd cc
    by (Account e q a) is true how has = absurd cc
    by (Taken t) is true how has = absurd cc

-- ---- the longest

-- the lot is that of a root which covers the page, and each leased root that covers the page covers it
pub record IsLongest (records : List Record) (page : ℕ) (best : Option Lot) : Type 0 where
  pub there : (lot : Lot) → best ≡ Some lot → (covers lot.root page ≡ true) × (lot_at records lot.root ≡ Some lot)
  pub longest : (root : ℕ) (lot : Lot) → covers root page ≡ true → lot_at records root ≡ Some lot
      → (b : Lot) × (best ≡ Some b) × (covers root b.root ≡ true)

module _ (records : List Record) (page : ℕ) (best : Option Lot) (was : IsLongest records page best) where
  -- a record that leases no root changes nothing
  unmoved : (edit : Record) → ((root : ℕ) → leases root edit ≡ false) → IsLongest (records ++ edit ∷ []) page best
  unmoved edit none = record {
    there = λ lot is. ((was.there lot is).0, at lot.root ∙ (was.there lot is).1);
    longest = λ root lot over has. was.longest root lot over (sym (at root) ∙ has);
  }
    where
      at : (root : ℕ) → lot_at (records ++ edit ∷ []) root ≡ lot_at records root
      at root = rw (lot_at-push records edit root, none root) refl

  module _ (e q r a : ℕ) where
    abbrev new : Lot
    new = record { root = r; account = a }

    abbrev edit : Record
    edit = Lease e q r a

    -- the lot of the new root
    at_new : lot_at (records ++ edit ∷ []) r ≡ Some new
    at_new = rw (lot_at-push records edit r, eq-eqb r r refl) refl

    -- the lot of another root
    at_other : (root : ℕ) → eqb root r ≡ false → lot_at (records ++ edit ∷ []) root ≡ lot_at records root
    at_other root other = rw (lot_at-push records edit root, other) refl

    -- the new root covers the page, and is as long as the best
    takes : covers r page ≡ true → is_as_long best r ≡ true → IsLongest (records ++ edit ∷ []) page (Some new)
    takes over long = record {
      there = λ lot is. let same : new ≡ lot = cc in
          subst (λ (l : Lot). (covers l.root page ≡ true) × (lot_at (records ++ edit ∷ []) l.root ≡ Some l)) same (over, at_new);
      longest = λ root lot covered has. (new, refl, under root lot covered has (eqb root r) refl);
    }
      where
        -- the best of before covers the new root
        through : (root : ℕ) (best' : Option Lot) → is_as_long best' r ≡ true → (b : Lot) → best' ≡ Some b → covers root b.root ≡ true
            → covers root r ≡ true
        through root None long b is covered = absurd cc
        through root (Some x) long b is covered =
            let same : x ≡ b = cc in
            covers-through root b.root r covered (subst (λ (l : Lot). covers l.root r ≡ true) same long)

        under : (root : ℕ) (lot : Lot) → covers root page ≡ true → lot_at (records ++ edit ∷ []) root ≡ Some lot → (here : Bool)
            → eqb root r ≡ here → covers root r ≡ true
        under root lot covered has true here = subst (λ n. covers root n ≡ true) (eqb-true root r here) (covers-itself root)
        under root lot covered has false here =
            let b = was.longest root lot covered (sym (at_other root here) ∙ has) in
            through root best long b.0 b.1 b.2

    -- the new root does not cover the page
    outside : covers r page ≡ false → IsLongest (records ++ edit ∷ []) page best
    outside off = record {
      there = λ lot is. (
        (was.there lot is).0,
        at_other lot.root (apart lot.root (was.there lot is).0 (eqb lot.root r) refl)
            ∙ (was.there lot is).1,
      );
      longest = λ root lot covered has. was.longest root lot covered (sym (at_other root (apart root covered (eqb root r) refl)) ∙ has);
    }
      where
        apart : (root : ℕ) → covers root page ≡ true → (here : Bool) → eqb root r ≡ here → eqb root r ≡ false
        apart root covered false here = here
        apart root covered true here = absurd (true≢false (sym covered ∙ ap (λ n. covers n page) (eqb-true root r here) ∙ off))

    -- it covers the page, but is shorter than the best
    shorter : (b : Lot) → best ≡ Some b → covers r page ≡ true → covers b.root r ≡ false → IsLongest (records ++ edit ∷ []) page best
    shorter b is over short = record {
      there = λ lot now.
          let same : b ≡ lot = cc in (
            (was.there lot now).0,
            at_other lot.root (subst (λ (l : Lot). eqb l.root r ≡ false) same (other (eqb b.root r) refl))
                ∙ (was.there lot now).1,
          );
      longest = λ root lot covered has. under root lot covered has (eqb root r) refl;
    }
      where
        other : (here : Bool) → eqb b.root r ≡ here → eqb b.root r ≡ false
        other false here = here
        other true here = absurd (true≢false (sym (covers-itself b.root) ∙ ap (λ n. covers b.root n) (eqb-true b.root r here) ∙ short))

        beneath : (covers b.root r ≡ true) ⊎ (covers r b.root ≡ true) → covers r b.root ≡ true
        beneath (inl longer) = absurd (true≢false (sym longer ∙ short))
        beneath (inr covered) = covered

        under : (root : ℕ) (lot : Lot) → covers root page ≡ true → lot_at (records ++ edit ∷ []) root ≡ Some lot → (here : Bool)
            → eqb root r ≡ here
            → (x : Lot) × (best ≡ Some x) × (covers root x.root ≡ true)
        under root lot covered has true here = (
          b,
          is,
          subst (λ n. covers n b.root ≡ true) (sym (eqb-true root r here))
              (beneath (one_covers b.root r page (was.there b is).0 over)),
        )
        under root lot covered has false here = was.longest root lot covered (sym (at_other root here) ∙ has)

-- one record more
step : (records : List Record) (page : ℕ) (best : Option Lot) (edit : Record) → IsLongest records page best
    → IsLongest (records ++ edit ∷ []) page (lot_after page best edit)
step records page best (Put e q n f) was = unmoved records page best was (Put e q n f) (λ root. refl)
step records page best (Drop e q n) was = unmoved records page best was (Drop e q n) (λ root. refl)
step records page best (Account e q a) was = unmoved records page best was (Account e q a) (λ root. refl)
step records page best (Taken t) was = unmoved records page best was (Taken t) (λ root. refl)
step records page best (Lease e q r a) was = by (covers r page) refl (is_as_long best r) refl
  where
    -- a root that is not as long as the best: there is one
    held : (best' : Option Lot) → best ≡ best' → covers r page ≡ true → is_as_long best' r ≡ false
        → IsLongest (records ++ Lease e q r a ∷ []) page best
    held None is over short = absurd cc
    held (Some b) is over short = shorter records page best was e q r a b is over short

    by : (over : Bool) → covers r page ≡ over → (long : Bool) → is_as_long best r ≡ long
        → IsLongest (records ++ Lease e q r a ∷ []) page (lot_after page best (Lease e q r a))
    by true over true long = rw (over, long) (takes records page best was e q r a over long)
    by true over false short = rw (over, short) (held best refl over short)
    by false off long is = rw off (outside records page best was e q r a off)

-- and so on from the first record
longest_from : (page : ℕ) (before : List Record) → IsLongest (reverse before) page (lot_of (reverse before) page)
longest_from page [] = record { there = λ lot is. absurd cc; longest = λ root lot covered has. absurd cc }
longest_from page (edit ∷ before) =
    let list = reverse-append (edit ∷ []) before in
    let lot = fold-append (lot_after page) None (reverse before) (edit ∷ []) in
    subst (λ (l : List Record). IsLongest l page (lot_of l page)) (sym list)
    (subst (λ best. IsLongest (reverse before ++ edit ∷ []) page best) (sym lot)
    (step (reverse before) page (lot_of (reverse before) page) edit (longest_from page before)))

pub lot_of-longest : (records : List Record) (page : ℕ) → IsLongest records page (lot_of records page)
lot_of-longest records page =
    subst (λ (l : List Record). IsLongest l page (lot_of l page)) (reverse-reverse records) (longest_from page (reverse records))
