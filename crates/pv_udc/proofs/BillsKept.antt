-- What one record more does to what is kept for the bills.
use Rattle.std.proofs.Common.{◌≡◌, ℕ, suc, ◌+◌, ◌*◌, ◌≤◌, ◌==◌, Bool, true, false, cond, List, [], ◌∷◌, ◌++◌, length, take, Option, Some, None, inl, inr, refl, ap, sym, subst, ◌∙◌, arith}
use Rattle.std.specs.Prelude.{slice_get, is_some, option_map, vec_capacity}
use Rattle.std.specs.List.{cons_option, sum_by}
use Rattle.std.proofs.lemmas.Bool.{cases_order, eqb-true, true≢false}
use Rattle.std.proofs.lemmas.List.{append-nil, length-append, take_at, take-append-le}
use Rattle.std.proofs.lemmas.List.Elements.{filter_map-append}
use Rattle.std.proofs.lemmas.List.Sums.{sum_by_push}
use Rattle.std.proofs.lemmas.Option.{slice_get_past, none-some, same_Some}
use Rattle.pv_fields.specs.Reading.{◌>>=◌}
use Rattle.pv_charge.specs.Line.{Charge}
use Rattle.pv_charge.specs.declared.bill.Bill.{Bill}
use Rattle.pv_charge.specs.declared.line.TheConstants.{MAX_PRICE}
use Rattle.pv_index.specs.Indexes.{index_under}
use Rattle.pv_edits.specs.Indexed.{HasReserve}
use Rattle.pv_edits.specs.declared.record.Record.{Record}
use Rattle.pv_edits.proofs.CallerLemmas.{get_before, get_at_end}
use Rattle.pv_udc.specs.Bills.{billed_line, billed_lines, billed_pence, bill_of, brings_charge_to, last_charge, charge_in, charged_to, charge_before}
use Rattle.pv_udc.specs.Charges.{AreChargesOf, before_at, bill_at}
use Rattle.pv_udc.specs.declared.charges.Charges.{Charges}
use Rattle.pv_udc.specs.declared.charges.Entry.{Entry}
use Rattle.pv_udc.proofs.LastEdits.{last_index-within, last_index-passes, last_index-fails}
use Rattle.pv_udc.proofs.Linking.{if_charged, billed_line-charge, filter_map-none}

-- a bill has at most as many lines as there are records
pub lines_few : (records : List Record) (account : ℕ) → length (billed_lines records account) ≤ length records
lines_few [] account = omega arith
lines_few (x ∷ xs) account = by (billed_line account x) (lines_few xs account)
  where
    by : (line : Option Charge) → length (billed_lines xs account) ≤ length xs
        → length (cons_option line (billed_lines xs account)) ≤ suc (length xs)
    by None few = omega (arith, few)
    by (Some line) few = omega (arith, few)

-- with one line more, of this price
abbrev with_price : Bill → ℕ → Bill
with_price bill price = record { lines = bill.lines + 1; pence = bill.pence + price }

same_parts : (bill before : Bill) (price : ℕ) → bill.lines ≡ before.lines + 1 → bill.pence ≡ before.pence + price
    → bill ≡ with_price before price
same_parts bill before price lines pence =
    ap (λ (n : ℕ). record bill { lines = n }) lines ∙ ap (λ (n : ℕ). record { lines = before.lines + 1; pence = n }) pence

-- an account without lines has the bill of none
pub no_bill : (records : List Record) (account : ℕ) (bill : Bill) → last_charge records account ≡ None → bill.lines ≡ 0 → bill.pence ≡ 0
    → bill ≡ bill_of records account
no_bill records account bill none lines pence =
    let empty : billed_lines records account ≡ [] =
    filter_map-none (brings_charge_to account) (billed_line account) (λ edit. off (billed_line account edit)) records none in
    ap (λ (n : ℕ). record bill { lines = n }) lines ∙ ap (λ (n : ℕ). record { lines = 0; pence = n }) pence
    ∙ sym (ap (λ (l : List Charge). record { lines = length l; pence = sum_by (λ (x : Charge). x.price) l }) empty)
  where
    off : (line : Option Charge) → is_some line ≡ false → line ≡ None
    off None is = refl
    off (Some line) is = absurd cc

-- a record that brought no line is on no bill
pub no_line : (account : ℕ) (edit : Record) → charge_in edit ≡ None → billed_line account edit ≡ None
no_line account edit none = billed_line-charge account edit ∙ ap (if_charged account) none

-- one that brought a line is on the bill of its account
module _ (account : ℕ) (edit : Record) (line : Charge) (is : charge_in edit ≡ Some line) where
  pub its_line : billed_line account edit ≡ cond (line.account == account) (Some line) None
  its_line = billed_line-charge account edit ∙ ap (if_charged account) is

  pub brings-line : brings_charge_to account edit ≡ (line.account == account)
  brings-line = ap (λ (o : Option Charge). is_some o) its_line ∙ by (line.account == account)
    where
      by : (test : Bool) → is_some (cond test (Some line) None) ≡ test
      by true = refl
      by false = refl

module _ (records : List Record) (edit : Record) where
  -- ---- an account's last line

  pub last_charge-push : (account : ℕ) → last_charge (records ++ edit ∷ []) account
      ≡ cond (brings_charge_to account edit) (Some (length records)) (last_charge records account)
  last_charge-push account = by (brings_charge_to account edit) refl
    where
      by : (test : Bool) → brings_charge_to account edit ≡ test
          → last_charge (records ++ edit ∷ []) account ≡ cond test (Some (length records)) (last_charge records account)
      by true is = last_index-passes (brings_charge_to account) records edit is
      by false is = last_index-fails (brings_charge_to account) records edit is

  -- ---- the bills

  lines_push : (account : ℕ)
      → billed_lines (records ++ edit ∷ []) account ≡ billed_lines records account ++ cons_option (billed_line account edit) []
  lines_push account = filter_map-append (billed_line account) records (edit ∷ [])

  module _ (account : ℕ) (none : billed_line account edit ≡ None) where
    same_lines : billed_lines (records ++ edit ∷ []) account ≡ billed_lines records account
    same_lines = lines_push account ∙ ap (λ (o : Option Charge). billed_lines records account ++ cons_option o []) none
        ∙ append-nil (billed_lines records account)

    -- it is as it was
    same_bill : bill_of (records ++ edit ∷ []) account ≡ bill_of records account
    same_bill = ap (λ (l : List Charge). record { lines = length l; pence = sum_by (λ (x : Charge). x.price) l }) same_lines

  module _ (account : ℕ) (line : Charge) (some : billed_line account edit ≡ Some line) where
    more_lines : billed_lines (records ++ edit ∷ []) account ≡ billed_lines records account ++ line ∷ []
    more_lines = lines_push account ∙ ap (λ (o : Option Charge). billed_lines records account ++ cons_option o []) some

    -- it has one line more
    pub bill_of-more : bill_of (records ++ edit ∷ []) account
        ≡ record { lines = length (billed_lines records account) + 1; pence = billed_pence records account + line.price }
    bill_of-more =
        let lines = ap length more_lines ∙ length-append (billed_lines records account) (line ∷ []) in
        let pence = ap (sum_by (λ (x : Charge). x.price)) more_lines
        ∙ sum_by_push (λ (x : Charge). x.price) (billed_lines records account) line in
        rw (lines, pence) refl

  -- the sum is low, as each price is
  low_push : ((line : Charge) → charge_in edit ≡ Some line → line.price ≤ MAX_PRICE) → (account : ℕ)
      → billed_pence records account ≤ MAX_PRICE * length records
      → billed_pence (records ++ edit ∷ []) account ≤ MAX_PRICE * length (records ++ edit ∷ [])
  low_push price account low = by (charge_in edit) refl
    where
      count : length (records ++ edit ∷ []) ≡ length records + 1
      count = length-append records (edit ∷ [])

      its : (line : Charge) → charge_in edit ≡ Some line → (test : Bool) → billed_line account edit ≡ cond test (Some line) None
          → billed_pence (records ++ edit ∷ []) account ≤ MAX_PRICE * length (records ++ edit ∷ [])
      its line is true at = omega (arith, ap (λ (b : Bill). b.pence) (bill_of-more account line at), price line is, low, count)
      its line is false at = omega (arith, ap (λ (b : Bill). b.pence) (same_bill account at), low, count)

      by : (line : Option Charge) → charge_in edit ≡ line
          → billed_pence (records ++ edit ∷ []) account ≤ MAX_PRICE * length (records ++ edit ∷ [])
      by None is = omega (arith, ap (λ (b : Bill). b.pence) (same_bill account (no_line account edit is)), low, count)
      by (Some line) is = its line is (line.account == account) (its_line account edit line is)

  module _ (entries : List Entry) (entry : Entry) (counted : length entries ≡ length records) where
    -- ---- the links

    -- those before are as they were, and the last place has the new one
    links_push : ((place : ℕ) → before_at entries place ≡ charge_before records place)
        → entry.before ≡ (charged_to edit >>= last_charge records) → (place : ℕ)
        → before_at (entries ++ entry ∷ []) place ≡ charge_before (records ++ edit ∷ []) place
    links_push links new place = elim (cases_order place (length records)) [
      | inl here ↦
          let at = get_at_end entries entry place (counted ∙ sym here) in
          let there = get_at_end records edit place (sym here) in
          let before = take_at records (edit ∷ []) place (sym here) in
          ap (λ (o : Option Entry). o >>= λ e. e.before) at ∙ new
          ∙ sym (ap (λ (o : Option Record). o >>= charged_to >>= last_charge (take place (records ++ edit ∷ []))) there
          ∙ ap (λ (l : List Record). charged_to edit >>= last_charge l) before)
      | inr (inl below) ↦
          let at = get_before entries (entry ∷ []) place (omega (arith, below, counted)) in
          let there = get_before records (edit ∷ []) place below in
          let before = take-append-le place records (edit ∷ []) (omega (arith, below)) in
          ap (λ (o : Option Entry). o >>= λ e. e.before) at ∙ links place
          ∙ sym (ap (λ (o : Option Record). o >>= charged_to >>= last_charge (take place (records ++ edit ∷ []))) there
          ∙ ap (λ (l : List Record). slice_get records place >>= charged_to >>= last_charge l) before)
      | inr (inr above) ↦
          let at = slice_get_past (entries ++ entry ∷ []) place (omega (arith, above, counted, length-append entries (entry ∷ []))) in
          let there = slice_get_past (records ++ edit ∷ []) place (omega (arith, above, length-append records (edit ∷ []))) in
          ap (λ (o : Option Entry). o >>= λ e. e.before) at
          ∙ sym (ap (λ (o : Option Record). o >>= charged_to >>= last_charge (take place (records ++ edit ∷ []))) there)
    ]

    -- ---- the bills at the last lines

    bills_push : ((account place : ℕ) → last_charge records account ≡ Some place → bill_at entries place ≡ Some (bill_of records account))
        → ((account : ℕ) → brings_charge_to account edit ≡ true → entry.bill ≡ bill_of (records ++ edit ∷ []) account)
        → (account place : ℕ) → last_charge (records ++ edit ∷ []) account ≡ Some place
        → bill_at (entries ++ entry ∷ []) place ≡ Some (bill_of (records ++ edit ∷ []) account)
    bills_push bills own account place last = by (billed_line account edit) refl
      where
        by : (line : Option Charge) → billed_line account edit ≡ line
            → bill_at (entries ++ entry ∷ []) place ≡ Some (bill_of (records ++ edit ∷ []) account)
        by None is =
            let before : last_charge records account ≡ Some place =
            sym (last_index-fails (brings_charge_to account) records edit (rw is refl)) ∙ last in
            let there = last_index-within (brings_charge_to account) records place before in
            let at = get_before entries (entry ∷ []) place (omega (arith, there, counted)) in
            ap (option_map (λ (e : Entry). e.bill)) at ∙ bills account place before ∙ ap Some (sym (same_bill account is))
        by (Some line) is =
            let brings : brings_charge_to account edit ≡ true = rw is refl in
            let here : Some place ≡ Some (length records) = sym last ∙ last_index-passes (brings_charge_to account) records edit brings in
            let same : place ≡ length records = cc in
            let at = get_at_end entries entry place (counted ∙ sym same) in
            ap (option_map (λ (e : Entry). e.bill)) at ∙ ap Some (own account brings)

-- ---- all of it

-- what the entry of one record more has
pub record IsEntry (records : List Record) (edit : Record) (entry : Entry) : Type 0 where
  pub before : entry.before ≡ (charged_to edit >>= last_charge records)
  pub bill : (account : ℕ) → brings_charge_to account edit ≡ true → entry.bill ≡ bill_of (records ++ edit ∷ []) account
  pub price : (line : Charge) → charge_in edit ≡ Some line → line.price ≤ MAX_PRICE

-- that of a record without a line
pub IsEntry-none : (records : List Record) (edit : Record) (entry : Entry) → charge_in edit ≡ None → entry.before ≡ None
    → IsEntry records edit entry
IsEntry-none records edit entry none before =
    let off : (account : ℕ) → brings_charge_to account edit ≡ false =
    λ account. ap (λ (o : Option Charge). is_some o) (no_line account edit none) in
    record {
      before = before ∙ sym (ap (λ (o : Option Charge). option_map (λ (l : Charge). l.account) o >>= last_charge records) none);
      bill = λ account brings. absurd (true≢false (sym brings ∙ off account));
      price = λ line is. absurd (none-some line (sym none ∙ is));
    }

-- that of a record with one
pub IsEntry-line : (records : List Record) (edit : Record) (entry : Entry) (line : Charge) → charge_in edit ≡ Some line
    → entry.before ≡ last_charge records line.account
    → entry.bill.lines ≡ length (billed_lines records line.account) + 1
    → entry.bill.pence ≡ billed_pence records line.account + line.price → line.price ≤ MAX_PRICE
    → IsEntry records edit entry
IsEntry-line records edit entry line is before lines pence price = record {
  before = before ∙ sym (ap (λ (o : Option Charge). option_map (λ (l : Charge). l.account) o >>= last_charge records) is);
  bill = λ account brings.
      let test : (line.account == account) ≡ true = sym (brings-line account edit line is) ∙ brings in
      let its : billed_line account edit ≡ Some line =
      its_line account edit line is ∙ ap (λ (t : Bool). cond t (Some line) None) test in
      same_parts entry.bill (bill_of records line.account) line.price lines pence
      ∙ ap (λ (n : ℕ). with_price (bill_of records n) line.price) (eqb-true line.account account test)
      ∙ sym (bill_of-more records edit account line its);
  price = λ other at. subst (λ (l : Charge). l.price ≤ MAX_PRICE) (same_Some line other (sym is ∙ at)) price;
}

pub AreChargesOf-push : (charges more : Charges) (room : ℕ) (records : List Record) (edit : Record) (entry : Entry)
    → AreChargesOf charges room records → IsEntry records edit entry
    → more.entries.items ≡ charges.entries.items ++ entry ∷ [] → room ≤ vec_capacity more.entries
    → HasReserve more.last room (length records + 1)
    → ((account : ℕ) → index_under more.last.pairs account
    ≡ cond (brings_charge_to account edit) (Some (length records)) (index_under charges.last.pairs account))
    → AreChargesOf more room (records ++ edit ∷ [])
AreChargesOf-push charges more room records edit entry is new items fit reserved lasts =
    let count : length (records ++ edit ∷ []) ≡ length records + 1 = length-append records (edit ∷ []) in
    let entries = charges.entries.items in
    record {
      fit = fit;
      reserved = rw count reserved;
      counted = rw (items, count) (omega (arith, length-append entries (entry ∷ []), is.counted));
      lasts = λ account. lasts account ∙ rw (is.lasts account) (sym (last_charge-push records edit account));
      links = rw items (links_push records edit entries entry is.counted is.links new.before);
      bills = rw items (bills_push records edit entries entry is.counted is.bills new.bill);
      low = λ account. low_push records edit new.price account (is.low account);
    }
