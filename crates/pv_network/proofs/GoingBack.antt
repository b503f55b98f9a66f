-- The lines of a bill as they are found, from the last one back.
use Rattle.std.proofs.Common.{◌≡◌, ℕ, suc, ◌+◌, ◌<◌, ◌≤◌, false, List, [], ◌++◌, length, get_or, take, reverse, Option, Some, None, refl, ap, sym, ◌∙◌, append_assoc, arith}
use Rattle.std.specs.Prelude.{slice_get, is_some, option_map}
use Rattle.std.specs.List.{cons_option}
use Rattle.std.specs.Option.{option_to_list}
use Rattle.std.proofs.lemmas.List.{append-nil, length-take-le, take_all, take-take, get_or-take, reverse-append}
use Rattle.std.proofs.lemmas.Option.{slice_get-get_or}
use Rattle.pv_charge.specs.Line.{Charge}
use Rattle.pv_edits.specs.declared.record.Record.{Record}
use Rattle.pv_edits.specs.declared.record.Record.TheVariants.{Put, Drop, Account, Lease, Taken}
use Rattle.pv_udc.specs.Bills.{line_of_item, brings_charge_to, last_charge, charge_before}
use Rattle.pv_udc.proofs.CallerLemmas.{last_index-within, last_index-passed, charge_before-line, filter_map-none, filter_map-last}
use Rattle.pv_network.specs.Bills.{billed_in, bill_lines}
use Rattle.pv_network.specs.Charging.{line_at}
use Rattle.pv_network.specs.declared.outcome.BillLine.{BillLine}
use Rattle.pv_network.proofs.Finding.{one_more_at_most}

-- The lines of the last records were found, last first, and those of the first ones are to come.
pub record IsGoingBack (records : List Record) (account : ℕ) (next : Option ℕ) (lines : List BillLine) : Type 0 where
  pub count : ℕ
  pub next_is : next ≡ last_charge (take count records) account
  pub found : bill_lines (take count records) account ++ reverse lines ≡ bill_lines records account
  pub few : length lines + count ≤ length records

-- how many places there are up to the next one
abbrev pub left : Option ℕ → ℕ
left None = 0
left (Some place) = suc place

-- a record that brought no line of the account is on none of its bills
only : (account : ℕ) (edit : Record) → brings_charge_to account edit ≡ false → billed_in account edit ≡ None
only account (Put editor q name frame) is = refl
only account (Drop editor q name) is = refl
only account (Account editor q profile) is = refl
only account (Lease editor q root lessee) is = refl
only account (Taken taken) is = by (line_of_item account taken.item) is
  where
    by : (line : Option Charge) → is_some line ≡ false → option_map (line_at taken.centre) line ≡ None
    by None none = refl
    by (Some line) none = absurd cc

-- one line is the same list from both ends
one_line : (line : Option BillLine) → reverse (option_to_list line) ≡ cons_option line []
one_line None = refl
one_line (Some line) = refl

-- some record
abbrev some : Record
some = Drop 0 0 (record { page = 0; letter = 0 })

module _ (records : List Record) (account : ℕ) where
  -- at first none was found
  pub begins : IsGoingBack records account (last_charge records account) []
  begins =
      let all : take (length records) records ≡ records = take_all (length records) records (omega arith) in
      record {
        count = length records;
        next_is = ap (λ (l : List Record). last_charge l account) (sym all);
        found = append-nil (bill_lines (take (length records) records) account) ∙ ap (λ (l : List Record). bill_lines l account) all;
        few = omega arith;
      }

  -- at last all were
  pub ends : (next : Option ℕ) (lines : List BillLine) → IsGoingBack records account next lines → next ≡ None
      → reverse lines ≡ bill_lines records account
  ends next lines is here =
      let last = sym is.next_is ∙ here in
      let none = filter_map-none (brings_charge_to account) (billed_in account) (only account) (take is.count records) last in
      sym (ap (λ (l : List BillLine). l ++ reverse lines) none) ∙ is.found

  module _ (next : Option ℕ) (place : ℕ) (lines : List BillLine) (is : IsGoingBack records account next lines)
      (here : next ≡ Some place) where
    last : last_charge (take is.count records) account ≡ Some place
    last = sym is.next_is ∙ here

    size : length (take is.count records) ≡ is.count
    size = length-take-le is.count records (let few = is.few in omega (arith, few))

    inside : place < length (take is.count records)
    inside = last_index-within (brings_charge_to account) (take is.count records) place last

    -- the place is that of a record
    pub there : place < length records
    there = let few = is.few in omega (arith, inside, size, few)

    -- fewer lines were found than there are records
    pub fewer : length lines < length records
    fewer = let few = is.few in omega (arith, inside, size, few)

    abbrev edit : Record
    edit = get_or records place some

    at : slice_get (take is.count records) place ≡ Some edit
    at = slice_get-get_or (take is.count records) place some inside
        ∙ ap Some (get_or-take is.count records place some (omega (arith, inside, size)))

    -- the line before it
    before : charge_before records place ≡ last_charge (take place records) account
    before = charge_before-line records account place edit (slice_get-get_or records place some there)
        (last_index-passed (brings_charge_to account) (take is.count records) place edit last at)

    -- is farther back
    pub falls : left (charge_before records place) < suc place
    falls = by (charge_before records place)
        (λ k found. last_index-within (brings_charge_to account) (take place records) k (sym before ∙ found))
      where
        by : (link : Option ℕ) → ((k : ℕ) → link ≡ Some k → k < length (take place records)) → left link < suc place
        by None inside = omega arith
        by (Some k) inside = omega (arith, inside k refl, length-take-le place records (omega (arith, there)))

    -- the line is found
    pub goes_on : (line : Option BillLine) → ((e : Record) → slice_get records place ≡ Some e → line ≡ billed_in account e)
        → IsGoingBack records account (charge_before records place) (lines ++ option_to_list line)
    goes_on line gives =
        let its : line ≡ billed_in account edit = gives edit (slice_get-get_or records place some there) in
        let less : take place (take is.count records) ≡ take place records =
        take-take place is.count records (omega (arith, inside, size)) in
        let found = filter_map-last (brings_charge_to account) (billed_in account) (only account) (take is.count records)
        place edit last at in
        let front = bill_lines (take place records) account in
        record {
          count = place;
          next_is = before;
          found =
              ap (λ (l : List BillLine). front ++ l) (reverse-append lines (option_to_list line)
              ∙ ap (λ (l : List BillLine). l ++ reverse lines) (one_line line))
              ∙ sym (append_assoc front (cons_option line []) (reverse lines))
              ∙ ap (λ (l : List BillLine). l ++ reverse lines)
              (ap (λ (o : Option BillLine). front ++ cons_option o []) its
              ∙ ap (λ (l : List Record). bill_lines l account ++ cons_option (billed_in account edit) []) (sym less) ∙ sym found)
              ∙ is.found;
          few = let few = is.few in omega (arith, few, one_more_at_most lines line, inside, size);
        }
