-- The charge lines of an account are found from the last one back: what is before each, and nothing between.
use Rattle.std.proofs.Common.{◌≡◌, ℕ, suc, ◌==◌, Bool, true, false, cond, List, [], ◌∷◌, ◌++◌, take, Option, Some, None, refl, ap, sym, subst, ◌∙◌}
use Rattle.std.specs.Prelude.{slice_get, is_some, option_map}
use Rattle.std.specs.List.{cons_option, filter_map}
use Rattle.std.proofs.lemmas.Bool.{eqb-true}
use Rattle.pv_fields.specs.Reading.{◌>>=◌}
use Rattle.pv_charge.specs.Line.{Charge}
use Rattle.pv_post.specs.declared.item.Item.{Item}
use Rattle.pv_post.specs.declared.item.Item.TheVariants as items
use Rattle.pv_edits.specs.Edits.{last_index, later_or_first}
use Rattle.pv_edits.specs.declared.record.Record.{Record}
use Rattle.pv_edits.specs.declared.record.Record.TheVariants.{Put, Drop, Account, Lease, Taken}
use Rattle.pv_udc.specs.Bills.{line_of_item, billed_line, brings_charge_to, last_charge, charge_of_item, charge_in, charged_to, charge_before}

-- ---- whose line a record brought

-- the line, if it is charged to this account
abbrev pub if_charged : ℕ → Option Charge → Option Charge
if_charged account line = line >>= λ l. cond (l.account == account) (Some l) None

item_line : (account : ℕ) (item : Item) → line_of_item account item ≡ if_charged account (charge_of_item item)
item_line account (items.Charge line) = refl
item_line account (items.Reply reply) = refl
item_line account (items.Mail mail) = refl

-- what is billed of a record is its line
pub billed_line-charge : (account : ℕ) (edit : Record) → billed_line account edit ≡ if_charged account (charge_in edit)
billed_line-charge account (Put editor q name frame) = refl
billed_line-charge account (Drop editor q name) = refl
billed_line-charge account (Account editor q profile) = refl
billed_line-charge account (Lease editor q root lessee) = refl
billed_line-charge account (Taken taken) = item_line account taken.item

-- a line that is billed to an account is charged to it
charged : (account : ℕ) (line : Option Charge) → is_some (if_charged account line) ≡ true
    → option_map (λ (l : Charge). l.account) line ≡ Some account
charged account None is = absurd cc
charged account (Some line) is = by (line.account == account) (eqb-true line.account account) is
  where
    by : (test : Bool) → (test ≡ true → line.account ≡ account) → is_some (cond test (Some line) None) ≡ true
        → Some line.account ≡ Some account
    by true same is = ap Some (same refl)
    by false same is = absurd cc

-- the line before one of an account is the last one of the records before
pub charge_before-line : (records : List Record) (account place : ℕ) (edit : Record) → slice_get records place ≡ Some edit
    → brings_charge_to account edit ≡ true → charge_before records place ≡ last_charge (take place records) account
charge_before-line records account place edit there brings =
    ap (λ (o : Option Record). o >>= charged_to >>= last_charge (take place records)) there
    ∙ ap (λ (o : Option ℕ). o >>= last_charge (take place records))
    (charged account (charge_in edit) (sym (ap (λ (o : Option Charge). is_some o) (billed_line-charge account edit)) ∙ brings))

-- ---- what a function finds of the records that pass a test

-- an element before the first of two lists is before both
onto : {X : Type 0} (found : Option X) (xs ys : List X) → cons_option found (xs ++ ys) ≡ cons_option found xs ++ ys
onto None xs ys = refl
onto (Some x) xs ys = refl

module _ {X : Type 0} (test : Record → Bool) (f : Record → Option X) (only : (edit : Record) → test edit ≡ false → f edit ≡ None) where
  -- if none passes, it finds nothing
  pub filter_map-none : (records : List Record) → last_index test records ≡ None → filter_map f records ≡ []
  filter_map-none [] none = refl
  filter_map-none (x ∷ xs) none = by (last_index test xs) (test x) refl (filter_map-none xs) none
    where
      by : (later : Option ℕ) (passes : Bool) → test x ≡ passes → (later ≡ None → filter_map f xs ≡ [])
          → later_or_first passes later ≡ None → cons_option (f x) (filter_map f xs) ≡ []
      by (Some k) passes how rest is = absurd cc
      by None true how rest is = absurd cc
      by None false how rest is = rw (only x how) (rest refl)

  -- else it finds what it does before the last one, and then that of the last
  pub filter_map-last : (records : List Record) (i : ℕ) (edit : Record) → last_index test records ≡ Some i
      → slice_get records i ≡ Some edit → filter_map f records ≡ filter_map f (take i records) ++ cons_option (f edit) []
  filter_map-last [] i edit last there = absurd cc
  filter_map-last (x ∷ xs) i edit last there =
      by (last_index test xs) (test x) (λ k found at. filter_map-last xs k edit found at) (filter_map-none xs) last
    where
      by : (later : Option ℕ) (passes : Bool)
          → ((k : ℕ) → later ≡ Some k → slice_get xs k ≡ Some edit
          → filter_map f xs ≡ filter_map f (take k xs) ++ cons_option (f edit) [])
          → (later ≡ None → filter_map f xs ≡ []) → later_or_first passes later ≡ Some i
          → cons_option (f x) (filter_map f xs) ≡ filter_map f (take i (x ∷ xs)) ++ cons_option (f edit) []
      by (Some k) passes more none is =
          let next : suc k ≡ i = cc in
          let at : slice_get xs k ≡ Some edit = ap (slice_get (x ∷ xs)) next ∙ there in
          subst (λ (n : ℕ). cons_option (f x) (filter_map f xs) ≡ filter_map f (take n (x ∷ xs)) ++ cons_option (f edit) []) next
          (ap (cons_option (f x)) (more k refl at) ∙ onto (f x) (filter_map f (take k xs)) (cons_option (f edit) []))
      by None true more none is =
          let here : 0 ≡ i = cc in
          let first : Some x ≡ Some edit = ap (slice_get (x ∷ xs)) here ∙ there in
          let same : x ≡ edit = cc in
          subst (λ (n : ℕ). cons_option (f x) (filter_map f xs) ≡ filter_map f (take n (x ∷ xs)) ++ cons_option (f edit) []) here
          (ap (cons_option (f x)) (none refl) ∙ ap (λ (e : Record). cons_option (f e) []) same)
      by None false more none is = absurd cc
