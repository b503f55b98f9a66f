-- The records one by one: what each adds to the lines of a month, and to their text.
use Rattle.std.proofs.Common.{◌≡◌, ℕ, zero, suc, ◌+◌, ◌*◌, ◌<◌, ◌≤◌, Bool, true, false, cond, List, [], ◌∷◌, ◌++◌, length, take, drop, filter, flat_map, Option, Some, None, refl, sym, ap, ◌∙◌, append_assoc, arith}
use Rattle.std.specs.Prelude.{slice_get}
use Rattle.std.specs.List.{cons_option, filter_map, sum_by}
use Rattle.std.proofs.lemmas.List.{append-nil, length-append}
use Rattle.std.proofs.lemmas.List.Concat.{flat_map-append}
use Rattle.std.proofs.lemmas.List.Elements.{filter-append, filter_map-append}
use Rattle.std.proofs.lemmas.List.Sums.{sum_by-append}
use Rattle.pv_fields.specs.Reading.{◌>>=◌}
use Rattle.pv_charge.specs.Line.{Charge}
use Rattle.pv_edits.specs.declared.record.Record.{Record}
use Rattle.pv_udc.specs.Bills.{billed_line, billed_lines}
use Rattle.pv_statement.specs.Months.{is_in_month}
use Rattle.pv_statement.specs.Statement.{month_lines, month_pence, line_in_month, statement_line, statement_lines, text_of_line, pence_of_line, count_of_line}

module _ {X : Type 0} where
  -- an index that a list has
  pub found : (xs : List X) (i : ℕ) → i < length xs → (x : X) × (slice_get xs i ≡ Some x)
  found [] i within = absurd (omega arith)
  found (x ∷ xs) zero within = (x, refl)
  found (x ∷ xs) (suc i) within = found xs i (omega arith)

  -- the list up to it and one more, and what is after it
  pub take_get : (xs : List X) (i : ℕ) (x : X) → slice_get xs i ≡ Some x → take (suc i) xs ≡ take i xs ++ x ∷ []
  take_get [] i x is = absurd cc
  take_get (y ∷ ys) zero x is = let same : y ≡ x = cc in ap (λ (z : X). z ∷ []) same
  take_get (y ∷ ys) (suc i) x is = ap (λ (l : List X). y ∷ l) (take_get ys i x is)

  pub parted_get : (xs : List X) (i : ℕ) (x : X) → slice_get xs i ≡ Some x → xs ≡ take i xs ++ x ∷ drop (suc i) xs
  parted_get [] i x is = absurd cc
  parted_get (y ∷ ys) zero x is = let same : y ≡ x = cc in ap (λ (z : X). z ∷ ys) same
  parted_get (y ∷ ys) (suc i) x is = ap (λ (l : List X). y ∷ l) (parted_get ys i x is)

module _ (account year month : ℕ) where
  -- the lines of records that follow others
  month_lines-append : (xs ys : List Record)
      → month_lines (xs ++ ys) account year month ≡ month_lines xs account year month ++ month_lines ys account year month
  month_lines-append xs ys =
      ap (filter (λ (line : Charge). is_in_month year month line.moment)) (filter_map-append (billed_line account) xs ys)
      ∙ filter-append (λ (line : Charge). is_in_month year month line.moment) (billed_lines xs account) (billed_lines ys account)

  -- those of one record
  month_lines-one : (edit : Record) → month_lines (edit ∷ []) account year month ≡ cons_option (line_in_month account year month edit) []
  month_lines-one edit = by (billed_line account edit)
    where
      test : (line : Charge) (is : Bool) → cond is (line ∷ []) [] ≡ cons_option (cond is (Some line) None) []
      test line true = refl
      test line false = refl

      by : (found : Option Charge) → filter (λ (line : Charge). is_in_month year month line.moment) (cons_option found [])
          ≡ cons_option (found >>= λ (line : Charge). cond (is_in_month year month line.moment) (Some line) None) []
      by None = refl
      by (Some line) = test line (is_in_month year month line.moment)

  -- the text of the lines of one record, how many they are, and the sum of their prices
  text-one : (found : Option Charge) → flat_map (statement_line year month) (cons_option found []) ≡ text_of_line year month found
  text-one None = refl
  text-one (Some line) = append-nil (statement_line year month line)

  count-one : (found : Option Charge) → length (cons_option found []) ≡ count_of_line found
  count-one None = refl
  count-one (Some line) = refl

  pence-one : (found : Option Charge) → sum_by (λ (line : Charge). line.price) (cons_option found []) ≡ pence_of_line found
  pence-one None = refl
  pence-one (Some line) = omega arith

  module _ (records : List Record) (place : ℕ) (edit : Record) (is : slice_get records place ≡ Some edit) where
    -- the line that the record brought
    abbrev brought : Option Charge
    brought = line_in_month account year month edit

    more : month_lines (take (place + 1) records) account year month
        ≡ month_lines (take place records) account year month ++ cons_option brought []
    more =
        let next : place + 1 ≡ suc place = omega arith in
        ap (λ (n : ℕ). month_lines (take n records) account year month) next
        ∙ ap (λ (l : List Record). month_lines l account year month) (take_get records place edit is)
        ∙ month_lines-append (take place records) (edit ∷ [])
        ∙ ap (λ (l : List Charge). month_lines (take place records) account year month ++ l) (month_lines-one edit)

    -- with one record more: the text, the count, the sum
    pub text_more : statement_lines (take (place + 1) records) account year month
        ≡ statement_lines (take place records) account year month ++ text_of_line year month brought
    text_more =
        ap (flat_map (statement_line year month)) more
        ∙ flat_map-append (statement_line year month) (month_lines (take place records) account year month) (cons_option brought [])
        ∙ ap (λ (l : List ℕ). statement_lines (take place records) account year month ++ l) (text-one brought)

    pub count_more : length (month_lines (take (place + 1) records) account year month)
        ≡ length (month_lines (take place records) account year month) + count_of_line brought
    count_more =
        ap length more ∙ length-append (month_lines (take place records) account year month) (cons_option brought [])
        ∙ ap (λ (n : ℕ). length (month_lines (take place records) account year month) + n) (count-one brought)

    pub pence_more : month_pence (take (place + 1) records) account year month
        ≡ month_pence (take place records) account year month + pence_of_line brought
    pence_more =
        ap (sum_by (λ (line : Charge). line.price)) more
        ∙ sum_by-append (λ (line : Charge). line.price) (month_lines (take place records) account year month) (cons_option brought [])
        ∙ ap (λ (n : ℕ). month_pence (take place records) account year month + n) (pence-one brought)

    -- the text of all records has these parts
    pub text_parted : statement_lines records account year month ≡ statement_lines (take place records) account year month
        ++ text_of_line year month brought ++ statement_lines (drop (suc place) records) account year month
    text_parted =
        let later = drop (suc place) records in
        ap (λ (l : List Record). statement_lines l account year month) (parted_get records place edit is ∙ sym (append_assoc (take place records) (edit ∷ []) later))
        ∙ ap (flat_map (statement_line year month)) (month_lines-append (take place records ++ edit ∷ []) later)
        ∙ flat_map-append (statement_line year month) (month_lines (take place records ++ edit ∷ []) account year month) (month_lines later account year month)
        ∙ ap (λ (l : List ℕ). l ++ statement_lines later account year month)
        (ap (λ (l : List Record). statement_lines l account year month) (sym (take_get records place edit is))
        ∙ ap (λ (n : ℕ). statement_lines (take n records) account year month) next ∙ text_more)
      where
        next : suc place ≡ place + 1
        next = omega arith
