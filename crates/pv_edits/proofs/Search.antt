-- The lot that a page is in is found by a search from the page itself to its first digit.
use Rattle.std.proofs.Common.{◌≡◌, ℕ, suc, ◌/◌, ◌<◌, ◌≤◌, Bool, true, false, ltb, cond, List, Option, Some, None, refl, sym, ap, subst, ◌∙◌, arith}
use Rattle.std.specs.Prelude.{is_some, IsTrue}
use Rattle.std.proofs.lemmas.Bool.{ltb-true, ltb-false}
use Rattle.pv_page.specs.Names.{IsPage, covers}
use Rattle.pv_edits.specs.declared.owner.Lot.{Lot}
use Rattle.pv_edits.specs.declared.record.Record.{Record}
use Rattle.pv_edits.specs.Owner.{lot_at, lot_of}
use Rattle.pv_edits.proofs.Lots.{lot_of-longest}
use Rattle.pv_edits.proofs.Prefixes.{covers-itself, covers-through, covers-both, covers-shorter, covers-without_last}

-- the page without its last digit, if it has several
abbrev pub shorter : ℕ → Option ℕ
shorter page = cond (ltb page 10) None (Some (page / 10))

-- one more than the root that is looked up next, or 0
abbrev pub left : Option ℕ → ℕ
left None = 0
left (Some root) = suc root

-- each step of the search leaves a smaller measure
pub left-shorter : (root : ℕ) → left (shorter root) < suc root
left-shorter root = by (ltb root 10) refl
  where
    by : (last : Bool) → ltb root 10 ≡ last → left (cond last None (Some (root / 10))) < suc root
    by true is = omega arith
    by false is = let long = ltb-false root 10 is in omega (arith, long)

-- the next root covers the page, and each leased root that covers the page covers the next
pub record IsSearch (records : List Record) (page : ℕ) (next : Option ℕ) : Type 0 where
  pub over : (root : ℕ) → next ≡ Some root → covers root page ≡ true
  pub rest : (root : ℕ) (lot : Lot) → covers root page ≡ true → lot_at records root ≡ Some lot
      → (r : ℕ) × (next ≡ Some r) × (covers root r ≡ true)

module _ (records : List Record) (page : ℕ) where
  -- it begins with the page
  pub begins : IsSearch records page (Some page)
  begins = record {
    over = λ root is. let same : page ≡ root = cc in subst (λ r. covers r page ≡ true) same (covers-itself page);
    rest = λ root lot covered has. (page, refl, covered);
  }

  -- the root is leased
  pub found : (pages : (root : ℕ) → IsTrue (is_some (lot_at records root)) → IsPage root) (root : ℕ) (lot : Lot)
      → IsSearch records page (Some root) → lot_at records root ≡ Some lot → lot_of records page ≡ Some lot
  found pages root lot search_ has =
      let best = lot_of-longest records page in
      let b = best.longest root lot (search_.over root refl) has in
      let there = best.there b.0 b.1 in
      let next = search_.rest b.0.root b.0 there.0 there.1 in
      let at : root ≡ next.0 = let is = next.1 in cc in
      let back : covers b.0.root root ≡ true = subst (λ r. covers b.0.root r ≡ true) (sym at) next.2 in
      let same : root ≡ b.0.root = covers-both root b.0.root (pages root (ap is_some has)) (pages b.0.root (ap is_some there.1)) b.2 back in
      b.1 ∙ sym there.1 ∙ ap (lot_at records) (sym same) ∙ has

  -- it is not
  pub goes_on : (pages : (root : ℕ) → IsTrue (is_some (lot_at records root)) → IsPage root) (root : ℕ) → IsPage root
      → IsSearch records page (Some root) → lot_at records root ≡ None → IsSearch records page (shorter root)
  goes_on pages root is_page search_ none = by (ltb root 10) refl
    where
      -- a leased root that covers the page is another, and covers the next one
      step : (r : ℕ) (lot : Lot) → covers r page ≡ true → lot_at records r ≡ Some lot → (10 ≤ root) × (covers r (root / 10) ≡ true)
      step r lot covered has =
          let next = search_.rest r lot covered has in
          let at : root ≡ next.0 = let is = next.1 in cc in
          let over : covers r root ≡ true = subst (λ n. covers r n ≡ true) (sym at) next.2 in
          covers-without_last r root (pages r (ap is_some has)) is_page
          (λ same. let no : Some lot ≡ None = sym has ∙ ap (lot_at records) same ∙ none in absurd cc)
          over

      by : (last : Bool) → ltb root 10 ≡ last → IsSearch records page (cond last None (Some (root / 10)))
      by true is = record {
        over = λ r is. absurd cc;
        rest = λ r lot covered has. let short = ltb-true root 10 is in absurd (omega (arith, short, (step r lot covered has).0));
      }
      by false is = record {
        over = λ r same.
            let at : root / 10 ≡ r = cc in
            subst (λ n. covers n page ≡ true) at
            (covers-through (root / 10) root page (covers-shorter root is_page (ltb-false root 10 is)) (search_.over root refl));
        rest = λ r lot covered has. (root / 10, refl, (step r lot covered has).1);
      }

  -- no root is left
  pub ends : IsSearch records page None → lot_of records page ≡ None
  ends search_ = by (lot_of records page) refl
    where
      by : (best : Option Lot) → lot_of records page ≡ best → best ≡ None
      by None is = refl
      by (Some lot) is =
          let there = (lot_of-longest records page).there lot is in
          let next = (search_.rest lot.root lot there.0 there.1).1 in
          absurd cc
