-- Any bytes have answers.
use Rattle.std.proofs.Common.{◌≡◌, ℕ, ◌+◌, ◌-◌, ◌≢◌, ◌⊎◌, ◌==◌, ltb, true, false, List, [], ◌∷◌, ◌++◌, Option, Some, None, refl, sym, ap, append_assoc, inl, inr, arith}
use Rattle.std.specs.Int.{IsInRange}
use Rattle.std.proofs.lemmas.Bool.{cases_eq, cases_lt}
use Rattle.std.proofs.lemmas.Bool.Decides.{nat_tests}
use Rattle.pv_keys.specs.declared.command.Command.{Command}
use Rattle.pv_keys.specs.declared.command.Command.TheVariants.{Slip}
use Rattle.pv_keys.specs.declared.progress.Progress.{Progress}
use Rattle.pv_keys.specs.declared.progress.Progress.TheVariants.{Idle, Star, Number, Starred}
use Rattle.pv_keys.specs.declared.progress.Step.{Step}
use Rattle.pv_keys.specs.declared.progress.Step.TheVariants.{Wait, Give}
use Rattle.pv_keys.specs.Commands.{IsDigit, IsSpelling, is_key, keys_of, number_keys, star, hash, underline}
use Rattle.pv_keys.specs.Reader.{IsProgress, IsStep, TakesByte, TakesBytes, keys_since}
use Rattle.pv_keys.proofs.Keys.{digit_alone, zero_and_digit, tenth_digit, longer_number, nine_digits, waiting, ignored, giving}
use Rattle.pv_keys.proofs.Machine.{on_star, on_hash, on_digit}

-- a key after a number and *
star_and_key : (page key : ℕ) → IsProgress (Starred page) → is_key key ≡ true → key ≢ star
    → IsSpelling (keys_since (Starred page) ++ key ∷ []) Slip
star_and_key page key is key_is other =
    let text = append_assoc (number_keys page) (star ∷ []) (key ∷ []) in
    inr (inr (record { number = page; page = is; key = key; is_key = key_is; other = other; text = text }))

-- * after any keys
star_step : (progress : Progress) → IsProgress progress → IsStep (keys_since progress ++ star ∷ []) (on_star progress)
star_step Idle is = (tt, refl)
star_step Star is = inl refl
star_step (Number page) is = (is, refl)
star_step (Starred page) is = inr (record { number = page; page = is; text = append_assoc (number_keys page) (star ∷ []) (star ∷ []) })

-- # after any keys
hash_step : (progress : Progress) → IsProgress progress → IsStep (keys_since progress ++ hash ∷ []) (on_hash progress)
hash_step Idle is = refl
hash_step Star is = refl
hash_step (Number page) is =
    elim (cases_eq page 90) [
      | inl end ↦ rw end refl
      | inr no_end ↦
          let other : (page == 90) ≡ false = grind (arith, nat_tests) in
          rw other (elim (cases_eq page 930) [
            | inl mail ↦ rw mail refl
            | inr no_mail ↦
                let page_is : (page == 930) ≡ false = grind (arith, nat_tests) in
                rw page_is (record { within = is; no_end = no_end; no_mail = no_mail }, refl)
          ])
    ]
hash_step (Starred page) is = star_and_key page hash is refl (λ e. omega (arith, e))

-- a digit after a number
number_step : (page digit : ℕ) → IsProgress (Number page) → IsDigit digit
    → IsStep (number_keys page ++ (48 + digit) ∷ []) (on_digit (Number page) digit)
number_step page digit is is_digit =
    elim (cases_eq page 0) [
      | inl zero ↦
          rw zero (elim (cases_eq digit 0) [
            | inl repeat ↦ rw repeat zero_and_digit.0
            | inr no_repeat ↦
                let a : (digit == 0) ≡ false = grind (arith, nat_tests) in
                rw a (elim (cases_eq digit 9) [
                  | inl fresh ↦ rw fresh zero_and_digit.1
                  | inr no_fresh ↦
                      let b : (digit == 9) ≡ false = grind (arith, nat_tests) in
                      rw b (zero_and_digit.2 digit (omega (arith, no_repeat), omega (arith, no_fresh, is_digit)))
                ])
          ])
      | inr some ↦
          let a : (page == 0) ≡ false = grind (arith, nat_tests) in
          elim (cases_lt page 100000000) [
            | inl short ↦
                let b : ltb page 100000000 ≡ true = grind (arith, nat_tests) in
                let text = longer_number page digit is_digit some (omega (arith, short, is_digit)) in
                rw (a, b) (omega (arith, short, is_digit), ap (λ (t : List ℕ). star ∷ t) text)
            | inr long ↦
                let b : ltb page 100000000 ≡ false = grind (arith, nat_tests) in
                rw (a, b) (tenth_digit page digit is (nine_digits page is (omega (arith, long))) is_digit)
          ]
    ]

-- a digit after any keys
digit_step : (progress : Progress) (digit : ℕ) → IsProgress progress → IsDigit digit
    → IsStep (keys_since progress ++ (48 + digit) ∷ []) (on_digit progress digit)
digit_step Idle digit is is_digit = (is_digit, sym (digit_alone digit is_digit))
digit_step Star digit is is_digit = (omega (arith, is_digit), ap (λ (t : List ℕ). star ∷ t) (digit_alone digit is_digit))
digit_step (Number page) digit is is_digit = number_step page digit is is_digit
digit_step (Starred page) digit is is_digit =
    let key : is_key (48 + digit) ≡ true = grind (arith, nat_tests) in
    star_and_key page (48 + digit) is key (λ e. omega (arith, e))

-- an answer to a byte, and the keys that are kept after it
abbrev Answer : Progress → ℕ → Type 0
Answer progress byte =
    (answer : Option Command) × (next : Progress) × IsProgress next
    × TakesByte (keys_since progress) byte answer (keys_since next)

-- a key has one
key_answer : (progress : Progress) (byte key : ℕ) (step : Step) → keys_of (byte ∷ []) ≡ key ∷ []
    → IsStep (keys_since progress ++ key ∷ []) step → Answer progress byte
key_answer progress byte key (Wait next) is step = (None, next, step.0, waiting next step.0 (keys_since progress) byte (rw is step.1))
key_answer progress byte key (Give command) is step = (Some command, Idle, tt, giving (keys_since progress) byte command (rw is step))

-- a byte is a digit or none
cases_digit : (byte : ℕ) → IsInRange 48 57 byte ⊎ (IsInRange 48 57 byte → ⊥)
cases_digit byte =
    elim (cases_lt byte 48) [
      | inl low ↦ inr (λ is. omega (arith, low, is.0))
      | inr from ↦
          elim (cases_lt byte 58) [
            | inl to ↦ inl (from, omega (arith, to))
            | inr high ↦ inr (λ is. omega (arith, high, is.1))
          ]
    ]

-- every byte has one
byte_answer : (progress : Progress) (byte : ℕ) → IsProgress progress → Answer progress byte
byte_answer progress byte is =
    elim (cases_eq byte star) [
      | inl star_is ↦ rw star_is (key_answer progress star star (on_star progress) refl (star_step progress is))
      | inr no_star ↦
          elim (cases_eq byte hash) [
            | inl hash_is ↦ rw hash_is (key_answer progress hash hash (on_hash progress) refl (hash_step progress is))
            | inr no_hash ↦
                elim (cases_eq byte underline) [
                  | inl line ↦ rw line (key_answer progress underline hash (on_hash progress) refl (hash_step progress is))
                  | inr no_line ↦ digit_answer no_star no_hash no_line
                ]
          ]
    ]
  where
    digit_answer : byte ≢ star → byte ≢ hash → byte ≢ underline → Answer progress byte
    digit_answer no_star no_hash no_line =
        elim (cases_digit byte) [
          | inl digit ↦
              let key : is_key byte ≡ true = grind (arith, nat_tests) in
              let keys : keys_of (byte ∷ []) ≡ byte ∷ [] = rw key refl in
              let value : 48 + (byte - 48) ≡ byte = omega (arith, digit) in
              let step = digit_step progress (byte - 48) is (omega (arith, digit)) in
              key_answer progress byte byte (on_digit progress (byte - 48)) keys (rw value at step)
          | inr none ↦
              let other : is_key byte ≡ false = grind (arith, nat_tests) in
              let no_key : (byte == underline) ≡ false = grind (arith, nat_tests) in
              (None, progress, is, ignored progress is byte (rw (other, no_key) refl))
        ]

-- so do bytes one by one
answers_from : (bytes : List ℕ) (progress : Progress) → IsProgress progress
    → (answers : List (Option Command)) × (kept : List ℕ) × TakesBytes (keys_since progress) bytes answers kept
answers_from [] progress is = ([], keys_since progress, refl)
answers_from (byte ∷ bytes) progress is =
    let (answer, next, next_is, takes) = byte_answer progress byte is in
    let (answers, kept, more) = answers_from bytes next next_is in
    (answer ∷ answers, kept, (keys_since next, takes, more))

-- a new reader answers any bytes
pub some_answers : (bytes : List ℕ) → (answers : List (Option Command)) × (kept : List ℕ) × TakesBytes [] bytes answers kept
some_answers bytes = answers_from bytes Idle tt
