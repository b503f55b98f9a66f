-- What a reader does with a byte: its key, and the keys after it.
use Rattle.std.proofs.Common.{◌≡◌, ℕ, ◌+◌, ◌*◌, ◌/◌, ◌%◌, ◌<◌, ◌≤◌, ◌≢◌, List, [], ◌∷◌, ◌++◌, Option, Some, None, length, decimal, refl, sym, ap, ◌∙◌, append-nil, inl, inr, arith}
use Rattle.std.specs.Fmt.{digits}
use Rattle.std.specs.Str.Parse.{AllDigits, digits_value}
use Rattle.std.proofs.lemmas.Bool.{cases_lt}
use Rattle.std.proofs.lemmas.Fmt.{decimal_digit, decimal_step, length-decimal-le, digits_decimal, digits_value-decimal}
use Rattle.std.proofs.lemmas.Str.Parse.{IsNumeralModel, numerals_by_value, tells_digits, digits_value_short}
use Rattle.pv_page.specs.Names.{IsPage}
use Rattle.pv_keys.specs.declared.command.Command.{Command}
use Rattle.pv_keys.specs.declared.command.Command.TheVariants.{Repeat, Fresh, Slip}
use Rattle.pv_keys.specs.declared.progress.Progress.{Progress}
use Rattle.pv_keys.specs.declared.progress.Progress.TheVariants.{Idle}
use Rattle.pv_keys.specs.Commands.{IsDigit, IsSlipDigit, IsSpelling, keys_of, number_keys}
use Rattle.pv_keys.specs.Reader.{IsProgress, TakesByte, keys_since}
use Rattle.pv_keys.proofs.Laws.{same_first}
use Rattle.pv_keys.proofs.Machine.{none_kept}

-- ---- digits

-- a digit is a number of its own
pub digit_alone : (digit : ℕ) → IsDigit digit → decimal digit ≡ (48 + digit) ∷ []
digit_alone digit is = decimal_digit digit (omega arith)

-- *0 and a digit
pub zero_and_digit : (IsSpelling (number_keys 0 ++ 48 ∷ []) Repeat) × (IsSpelling (number_keys 0 ++ 57 ∷ []) Fresh)
    × ((digit : ℕ) → IsSlipDigit digit → IsSpelling (number_keys 0 ++ (48 + digit) ∷ []) Slip)
unfolding digits
zero_and_digit = (
  refl,
  refl,
  λ digit slips. inl (record { digit = digit; slips = slips; text = rw (digit_alone digit (omega (arith, slips))) refl }),
)

-- nine digits and one more
pub tenth_digit : (page digit : ℕ) → IsPage page → length (decimal page) ≡ 9 → IsDigit digit
    → IsSpelling (number_keys page ++ (48 + digit) ∷ []) Slip
tenth_digit page digit is full is_digit =
    let text = ap (λ (last : List ℕ). number_keys page ++ last) (sym (digit_alone digit is_digit)) in
    inr (inl (record { number = page; page = is; full = full; digit = digit; is_digit = is_digit; text = text }))

-- a number with one more digit
pub longer_number : (page digit : ℕ) → IsDigit digit → page ≢ 0 → page * 10 + digit ≤ 999999999
    → decimal (page * 10 + digit) ≡ decimal page ++ (48 + digit) ∷ []
longer_number page digit is some fits =
    let n = page * 10 + digit in
    let tens : n / 10 ≡ page = omega arith in
    let ones : n % 10 ≡ digit = omega arith in
    decimal_step n (omega arith) (omega arith) ∙ rw (tens, ones) refl

-- a page that takes no tenth digit has nine
pub nine_digits : (page : ℕ) → IsPage page → 99999999 < page → length (decimal page) ≡ 9
nine_digits page is large =
    let own : IsNumeralModel (AllDigits 10) (digits_value 10) = numerals_by_value (AllDigits 10) tells_digits in
    let few = length-decimal-le 9 page (omega arith) (omega arith) (omega arith) in
    elim (cases_lt (length (decimal page)) 9) [
      | inl short ↦
          let value = digits_value_short own (decimal page) 8 (digits_decimal own page (omega arith)) (omega arith) in
          absurd (omega (arith, value, digits_value-decimal own page (omega arith)))
      | inr full ↦ omega (arith, few, full)
    ]

-- ---- bytes

module _ (progress : Progress) (is : IsProgress progress) where
  -- kept keys are no whole command
  never_whole : (keys : List ℕ) → keys_since progress ≡ keys → (command : Command) → IsSpelling keys command
      → ◌≡◌ {A = Option Command} None (Some command)
  never_whole keys same command spelling = absurd (none_kept progress is keys [] command (same ∙ sym (append-nil keys)) spelling)

  -- a key after which more are wanted
  pub waiting : (before : List ℕ) (byte : ℕ) → keys_since progress ≡ before ++ keys_of (byte ∷ [])
      → TakesByte before byte None (keys_since progress)
  waiting before byte same =
      record { given = tt; only = never_whole (before ++ keys_of (byte ∷ [])) same; waits = λ _. same; no_command = none_kept progress is }

  -- a byte that is no key
  pub ignored : (byte : ℕ) → keys_of (byte ∷ []) ≡ [] → TakesByte (keys_since progress) byte None (keys_since progress)
  ignored byte none = waiting (keys_since progress) byte (rw (none, append-nil (keys_since progress)) refl)

-- the last key of a command
pub giving : (before : List ℕ) (byte : ℕ) (command : Command) → IsSpelling (before ++ keys_of (byte ∷ [])) command
    → TakesByte before byte (Some command) []
giving before byte command spelling =
    let keys = before ++ keys_of (byte ∷ []) in
    record {
      given = (spelling, refl);
      only = λ other is. ap Some (same_first keys keys [] [] command other refl spelling is).0;
      waits = λ none. absurd cc;
      no_command = none_kept Idle tt;
    }
