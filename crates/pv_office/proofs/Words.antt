-- What a word of the command line writes as a month.
use Rattle.std.proofs.Common.{◌≡◌, ℕ, ◌+◌, ◌-◌, ◌*◌, ◌/◌, ◌%◌, ◌≤◌, ◌<◌, List, [], ◌∷◌, ◌++◌, length, map, take, drop, decimal, codes, refl, sym, ap, subst, ◌∙◌, get_or, Option, Some, None, arith, length-append, append_assoc}
use Rattle.std.specs.Int.{IsInRange}
use Rattle.std.proofs.Math.Seq.{take-append_seam, drop-append_seam}
use Rattle.itoa.proofs.Decimal.{length_two, length_pair}
use Rattle.pv_statement.specs.Months.{IsMonth}
use Rattle.pv_statement.specs.Statement.{month_text, two_digits}
use Rattle.pv_statement.specs.declared.month.TheConstants.{FIRST_YEAR, LAST_YEAR}

-- a year has four digits
pub length-year : (year : ℕ) → IsInRange FIRST_YEAR LAST_YEAR year → length (decimal year) ≡ 4
length-year year is =
    let hundreds = length_two (year / 100) (omega (arith, is.0, is.1)) (omega (arith, is.0, is.1)) in
    let all = length_pair year (omega (arith, is.0, is.1)) (omega (arith, is.0, is.1)) in
    omega (arith, hundreds, all)

module _ (year month : ℕ) (is : IsMonth year month) (text : List ℕ) (same : text ≡ month_text year month) where
  -- it is the year, and then the month of the year
  parts : text ≡ decimal year ++ (codes "-" ++ two_digits month)
  parts = same ∙ append_assoc (decimal year) (codes "-") (two_digits month)

  -- a month has seven bytes
  pub length-month : length text ≡ 7
  length-month =
      let size = length-year year is.year in
      let whole : length text ≡ length (decimal year ++ (codes "-" ++ two_digits month)) = ap length parts in
      let both : length (decimal year ++ (codes "-" ++ two_digits month)) ≡ length (decimal year) + 3 =
      length-append (decimal year) (codes "-" ++ two_digits month) in
      omega (arith, size, whole, both)

  -- the first four are the year's
  pub year-part : take 4 text ≡ decimal year
  year-part = ap (take 4) parts
      ∙ ap (λ (n : ℕ). take n (decimal year ++ (codes "-" ++ two_digits month))) (sym (length-year year is.year))
      ∙ take-append_seam (decimal year) (codes "-" ++ two_digits month)

  -- and the others the month's
  pub month-part : take (length text - 4) (drop 4 text) ≡ codes "-" ++ two_digits month
  month-part =
      let three : length text - 4 ≡ 3 = (let all = length-month in omega (arith, all)) in
      let rest : drop 4 text ≡ codes "-" ++ two_digits month = ap (drop 4) parts
      ∙ ap (λ (n : ℕ). drop n (decimal year ++ (codes "-" ++ two_digits month))) (sym (length-year year is.year))
      ∙ drop-append_seam (decimal year) (codes "-" ++ two_digits month) in
      rw (three, rest) refl

-- lists of four are equal part by part
pub record AreSame (a b c d a' b' c' d' : List ℕ) : Type 0 where
  pub first : a ≡ a'
  pub second : b ≡ b'
  pub third : c ≡ c'
  pub fourth : d ≡ d'

pub parts_same : (a b c d a' b' c' d' : List ℕ) → a ∷ b ∷ c ∷ d ∷ [] ≡ a' ∷ b' ∷ c' ∷ d' ∷ [] → AreSame a b c d a' b' c' d'
parts_same a b c d a' b' c' d' same = record { first = cc; second = cc; third = cc; fourth = cc }

-- four words, one by one
pub four_words : {X : Type 0} (text : X → List ℕ) (words : List X) (a b c d : X) → length words ≡ 4
    → map text words ≡ text (get_or words 0 a) ∷ text (get_or words 1 b) ∷ text (get_or words 2 c) ∷ text (get_or words 3 d) ∷ []
four_words text [] a b c d four = absurd cc
four_words text (x ∷ []) a b c d four = absurd (omega (arith, four))
four_words text (x ∷ y ∷ []) a b c d four = absurd (omega (arith, four))
four_words text (x ∷ y ∷ z ∷ []) a b c d four = absurd (omega (arith, four))
four_words text (x ∷ y ∷ z ∷ w ∷ []) a b c d four = refl
four_words text (x ∷ y ∷ z ∷ w ∷ v ∷ more) a b c d four = absurd (omega (arith, four))

-- lists of four parts that are equal are equal
pub four_same : {a b c d a' b' c' d' : List ℕ} → a ≡ a' → b ≡ b' → c ≡ c' → d ≡ d' → a ∷ b ∷ c ∷ d ∷ [] ≡ a' ∷ b' ∷ c' ∷ d' ∷ []
four_same p q r s = rw (p, q, r, s) refl

-- a pair that there is
abbrev or_zero : Option (ℕ × ℕ) → ℕ × ℕ
or_zero None = (0, 0)
or_zero (Some p) = p

-- pairs are equal part by part
pub pair_same : (one other : ℕ × ℕ) → Some one ≡ Some other → (one.0 ≡ other.0) × (one.1 ≡ other.1)
pair_same one other is =
    (ap (λ (o : Option (ℕ × ℕ)). (or_zero o).0) is, ap (λ (o : Option (ℕ × ℕ)). (or_zero o).1) is)

-- two words, one by one
pub two_words : {X : Type 0} (text : X → List ℕ) (words : List X) (a b : X) → length words ≡ 2
    → map text words ≡ text (get_or words 0 a) ∷ text (get_or words 1 b) ∷ []
two_words text [] a b two = absurd cc
two_words text (x ∷ []) a b two = absurd (omega (arith, two))
two_words text (x ∷ y ∷ []) a b two = refl
two_words text (x ∷ y ∷ z ∷ more) a b two = absurd (omega (arith, two))

pub two_same : {a b a' b' : List ℕ} → a ≡ a' → b ≡ b' → a ∷ b ∷ [] ≡ a' ∷ b' ∷ []
two_same p q = rw (p, q) refl
