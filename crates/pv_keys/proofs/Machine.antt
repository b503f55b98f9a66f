-- Keys one by one as far as the first command: where the commands of the table end, and that what is kept is none.
use Rattle.std.proofs.Common.{◌≡◌, ℕ, ◌+◌, ◌-◌, ◌*◌, ◌/◌, ◌%◌, ◌≤◌, ◌≢◌, true, false, ltb, List, [], ◌∷◌, ◌++◌, length, Option, Some, None, decimal, refl, sym, ap, ◌∙◌, inl, inr, arith, if◌then◌else◌}
use Rattle.std.specs.Prelude.{codes, ◌==◌}
use Rattle.std.proofs.lemmas.Bool.{cases_lt, cases_eq}
use Rattle.std.proofs.lemmas.Bool.Decides.{nat_tests}
use Rattle.std.proofs.lemmas.Fmt.{decimal_digit, decimal_by_steps, length-decimal-le}
use Rattle.std.proofs.lemmas.List.{append_assoc, append-nil}
use Rattle.pv_page.specs.Names.{IsPage}
use Rattle.pv_keys.specs.declared.command.Command.{Command}
use Rattle.pv_keys.specs.declared.command.Command.TheVariants.{Route, Next, Go, Back, Repeat, Fresh, Mail, End, Cancel, Slip}
use Rattle.pv_keys.specs.declared.progress.Progress.{Progress}
use Rattle.pv_keys.specs.declared.progress.Progress.TheVariants.{Idle, Star, Number, Starred}
use Rattle.pv_keys.specs.declared.progress.Step.{Step}
use Rattle.pv_keys.specs.declared.progress.Step.TheVariants.{Wait, Give}
use Rattle.pv_keys.specs.Commands.{IsDigit, IsSpelling, HasNoCommand, IsKeyedPage, IsSlipDigit, number_keys, star, hash}
use Rattle.pv_keys.specs.Reader.{IsProgress, keys_since}

-- * after the keys so far
abbrev pub on_star : Progress → Step
on_star Idle = Wait Star
on_star Star = Give Cancel
on_star (Number page) = Wait (Starred page)
on_star (Starred page) = Give Cancel

-- # after them
abbrev pub on_hash : Progress → Step
on_hash Idle = Give Next
on_hash Star = Give Back
on_hash (Number page) = Give (if page == 90 then End else if page == 930 then Mail else Go page)
on_hash (Starred page) = Give Slip

-- a digit after them
abbrev pub on_digit : Progress → ℕ → Step
on_digit Idle digit = Give (Route digit)
on_digit Star digit = Wait (Number digit)
on_digit (Number page) digit =
    if page == 0 then Give (if digit == 0 then Repeat else if digit == 9 then Fresh else Slip)
    else if ltb page 100000000 then Wait (Number (page * 10 + digit)) else Give Slip
on_digit (Starred page) digit = Give Slip

-- a key after them
abbrev on_key : Progress → ℕ → Step
on_key progress key = if key == 42 then on_star progress else if key == 35 then on_hash progress else on_digit progress (key - 48)

-- the first command and the keys after it, if the keys go so far
abbrev after_step : Step → (Progress → Option (Command × List ℕ)) → List ℕ → Option (Command × List ℕ)
after_step (Wait progress) more rest = more progress
after_step (Give command) more rest = Some (command, rest)

abbrev pub first_in : Progress → List ℕ → Option (Command × List ℕ)
first_in progress [] = None
first_in progress (key ∷ keys) = after_step (on_key progress key) (λ next. first_in next keys) keys

-- a digit is no other key
digit_key : (progress : Progress) (digit : ℕ) → IsDigit digit → on_key progress (48 + digit) ≡ on_digit progress digit
digit_key progress digit is =
    let k : 48 + digit - 48 ≡ digit = omega arith in
    let a : (48 + digit == 42) ≡ false = grind (arith, nat_tests) in
    let b : (48 + digit == 35) ≡ false = grind (arith, nat_tests) in
    rw (a, b, k) refl

-- so it makes its step
digit_first : (progress : Progress) (digit : ℕ) → IsDigit digit → (keys : List ℕ)
    → first_in progress ((48 + digit) ∷ keys) ≡ after_step (on_digit progress digit) (λ next. first_in next keys) keys
digit_first progress digit is keys = rw (digit_key progress digit is) refl

-- * and the digits of a page's number are that number
number_first : (page : ℕ) → IsPage page → (rest : List ℕ) → first_in Star (decimal page ++ rest) ≡ first_in (Number page) rest
number_first page is =
    decimal_by_steps (λ n ds. IsPage n → (rest : List ℕ) → first_in Star (ds ++ rest) ≡ first_in (Number n) rest)
    (λ n small is rest. digit_first Star n (omega arith) rest)
    (λ n ds large more is rest.
    let d = n % 10 in
    let m = n / 10 in
    let some : (m == 0) ≡ false = grind (arith, nat_tests) in
    let fits : ltb m 100000000 ≡ true = grind (arith, nat_tests) in
    let whole : m * 10 + d ≡ n = omega arith in
    let step : on_digit (Number m) d ≡ Wait (Number n) = rw (some, fits, whole) refl in
    ap (first_in Star) (append_assoc ds ((48 + d) ∷ []) rest)
    ∙ more (omega arith) ((48 + d) ∷ rest)
    ∙ digit_first (Number m) d (omega arith) rest
    ∙ ap (λ (s : Step). after_step s (λ next. first_in next rest) rest) step)
    page (omega arith) is

-- so keys that begin with a number are its state and the keys after it
numbered : (page : ℕ) → IsPage page → (tail rest : List ℕ)
    → first_in Idle ((number_keys page ++ tail) ++ rest) ≡ first_in (Number page) (tail ++ rest)
numbered page is tail rest = ap (first_in Star) (append_assoc (decimal page) tail rest) ∙ number_first page is (tail ++ rest)

-- a digit that slips after *0
zero_slip : (digit : ℕ) → IsSlipDigit digit → (rest : List ℕ)
    → first_in (Number 0) ((48 + digit) ∷ rest) ≡ Some (Slip, rest)
zero_slip digit is rest =
    let no_repeat : (digit == 0) ≡ false = grind (arith, nat_tests) in
    let no_fresh : (digit == 9) ≡ false = grind (arith, nat_tests) in
    digit_first (Number 0) digit (omega arith) rest ∙ rw (no_repeat, no_fresh) refl

-- a digit after nine
tenth_digit : (page digit : ℕ) → IsPage page → length (decimal page) ≡ 9 → IsDigit digit → (rest : List ℕ)
    → first_in (Number page) ((48 + digit) ∷ rest) ≡ Some (Slip, rest)
tenth_digit page digit is full is_digit rest =
    let large : 100000000 ≤ page =
    elim (cases_lt page 100000000) [
      | inl small ↦ absurd (omega (arith, full, length-decimal-le 8 page (omega arith) (omega arith) (omega arith)))
      | inr large ↦ large
    ] in
    let some : (page == 0) ≡ false = grind (arith, nat_tests) in
    let long : ltb page 100000000 ≡ false = grind (arith, nat_tests) in
    digit_first (Number page) digit is_digit rest ∙ rw (some, long) refl

-- another key than * after a number and *
star_slip : (page key : ℕ) → key ≢ 42 → (rest : List ℕ) → first_in (Starred page) (key ∷ rest) ≡ Some (Slip, rest)
star_slip page key other rest =
    let no_star : (key == 42) ≡ false = grind (arith, nat_tests) in
    elim (cases_eq key 35) [
      | inl hash ↦ let is : (key == 35) ≡ true = grind (arith, nat_tests) in rw (no_star, is) refl
      | inr digit ↦ let is : (key == 35) ≡ false = grind (arith, nat_tests) in rw (no_star, is) refl
    ]

-- a page that can be keyed
keyed_page : (page : ℕ) → IsKeyedPage page → (rest : List ℕ) → first_in (Number page) (35 ∷ rest) ≡ Some (Go page, rest)
keyed_page page is rest =
    let no_end : (page == 90) ≡ false = let other = is.no_end in grind (arith, nat_tests) in
    let no_mail : (page == 930) ≡ false = let other = is.no_mail in grind (arith, nat_tests) in
    rw (no_end, no_mail) refl

-- the keys of a command, whatever follows, are that command first
pub first-spelling : (first rest : List ℕ) (command : Command) → IsSpelling first command
    → first_in Idle (first ++ rest) ≡ Some (command, rest)
first-spelling first rest (Route digit) (is, text) = rw (text, decimal_digit digit (omega arith)) (digit_first Idle digit is rest)
first-spelling first rest Next text = rw text refl
first-spelling first rest (Go page) (is, text) = rw text (numbered page is.within (codes "#") rest ∙ keyed_page page is rest)
first-spelling first rest Back text = rw text refl
first-spelling first rest Repeat text = rw text refl
first-spelling first rest Fresh text = rw text refl
first-spelling first rest Mail text = rw text (numbered 930 (omega arith) (codes "#") rest)
first-spelling first rest End text = rw text (numbered 90 (omega arith) (codes "#") rest)
first-spelling first rest Cancel (inl text) = rw text refl
first-spelling first rest Cancel (inr is) = rw is.text (numbered is.number is.page (codes "**") rest)
first-spelling first rest Slip (inl is) = rw (is.text, decimal_digit is.digit (omega (arith, is.slips))) (zero_slip is.digit is.slips rest)
first-spelling first rest Slip (inr (inl is)) =
    rw (is.text, decimal_digit is.digit (omega (arith, is.is_digit)))
    (numbered is.number is.page ((48 + is.digit) ∷ []) rest ∙ tenth_digit is.number is.digit is.page is.full is.is_digit rest)
first-spelling first rest Slip (inr (inr is)) =
    rw is.text (numbered is.number is.page (star ∷ is.key ∷ []) rest ∙ star_slip is.number is.key is.other rest)

-- the keys that a reader keeps lead to its state
pub first-kept : (progress : Progress) → IsProgress progress → (rest : List ℕ)
    → first_in Idle (keys_since progress ++ rest) ≡ first_in progress rest
first-kept Idle is rest = refl
first-kept Star is rest = refl
first-kept (Number page) is rest = number_first page is rest
first-kept (Starred page) is rest = numbered page is (star ∷ []) rest

-- so they begin with no whole command
pub none_kept : (progress : Progress) → IsProgress progress → HasNoCommand (keys_since progress)
none_kept progress is first rest command same spelling =
    let none = first-kept progress is [] in
    let some = ap (first_in Idle) (append-nil (keys_since progress) ∙ same) ∙ first-spelling first rest command spelling in
    let both : ◌≡◌ {A = Option (Command × List ℕ)} None (Some (command, rest)) = sym none ∙ some in
    absurd cc

-- no spelling is a prefix of another
pub one_spelling : (first rest : List ℕ) (a b : Command) → IsSpelling first a → IsSpelling (first ++ rest) b → (rest ≡ []) × (a ≡ b)
one_spelling first rest a b short long =
    let here = first-spelling first rest a short in
    let there = ap (first_in Idle) (sym (append-nil (first ++ rest))) ∙ first-spelling (first ++ rest) [] b long in
    let both : Some (a, rest) ≡ Some (b, []) = sym here ∙ there in
    let pair : (a, rest) ≡ (b, []) = cc in
    (ap (λ (p : Command × List ℕ). p.1) pair, ap (λ (p : Command × List ℕ). p.0) pair)
