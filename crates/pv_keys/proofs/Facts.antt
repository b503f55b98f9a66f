-- Worked examples, computed from the definitions: each constant at the last value that fits, and the next.
use Rattle.std.proofs.Common.{◌≡◌, [], ◌∷◌, inl, inr, lit≤, refl, arith}
use Rattle.std.specs.Fmt.{digits}
use Rattle.std.specs.Prelude.{codes}
use Rattle.pv_keys.specs.declared.command.Command.TheVariants.{Route, Next, Go, Back, Repeat, Fresh, Mail, End, Cancel, Slip}
use Rattle.pv_keys.specs.declared.progress.Progress.TheVariants.{Star, Number, Starred}
use Rattle.pv_keys.specs.Commands.{IsDigit, IsSlipDigit, IsKeyedPage, IsSpelling, HasNoCommand, AreCommandsOf, keys_of, number_keys}
use Rattle.pv_keys.proofs.Machine.{none_kept}

-- the digits, * and # are keys, and _ is #; their neighbours are none
pub keys : (keys_of (codes "/0189:)*+\"#$^_`") ≡ codes "0189*##") × (keys_of (codes " *1 2a_\n") ≡ codes "*12#")
keys = (refl, refl)

-- a digit is 0 to 9, and one that slips after *0 is 1 to 8
pub digit_values : IsDigit 9 × ¬ IsDigit 10
    × IsSlipDigit 1 × ¬ IsSlipDigit 0 × IsSlipDigit 8 × ¬ IsSlipDigit 9
digit_values = (
  lit≤ tt,
  (λ is. omega (arith, is)),
  (lit≤ tt, lit≤ tt),
  (λ is. omega (arith, is.0)),
  (lit≤ tt, lit≤ tt),
  (λ is. omega (arith, is.1)),
)

-- the numbers that are no page to go to, and their neighbours
pub keyed_pages : ¬ IsKeyedPage 90 × IsKeyedPage 91 × ¬ IsKeyedPage 930 × IsKeyedPage 0 × IsKeyedPage 999999999 × ¬ IsKeyedPage 1000000000
keyed_pages = (
  (λ is. is.no_end refl),
  record { within = lit≤ tt; no_end = λ e. omega (arith, e); no_mail = λ e. omega (arith, e) },
  (λ is. is.no_mail refl),
  record { within = lit≤ tt; no_end = λ e. omega (arith, e); no_mail = λ e. omega (arith, e) },
  record { within = lit≤ tt; no_end = λ e. omega (arith, e); no_mail = λ e. omega (arith, e) },
  (λ is. let within = is.within in omega (arith, within)),
)

-- the keys of each command that has a fixed text, and of pages
pub texts : IsSpelling (codes "7") (Route 7) × IsSpelling (codes "#") Next × IsSpelling (codes "*#") Back
    × IsSpelling (codes "*00") Repeat × IsSpelling (codes "*09") Fresh × IsSpelling (codes "**") Cancel
    × IsSpelling (codes "*90#") End × IsSpelling (codes "*930#") Mail
    × (number_keys 0 ≡ codes "*0") × (number_keys 999999999 ≡ codes "*999999999")
unfolding digits
texts = ((lit≤ tt, refl), refl, refl, refl, refl, inl refl, refl, refl, refl, refl)

-- keys that slip: a digit after *0, a tenth digit, and a key other than * after a number and *
pub slips : IsSpelling (codes "*05") Slip × IsSpelling (codes "*1234567890") Slip × IsSpelling (codes "*12*#") Slip
unfolding digits
slips = (
  inl (record { digit = 5; slips = (lit≤ tt, lit≤ tt); text = refl }),
  inr (inl (record { number = 123456789; page = lit≤ tt; full = refl; digit = 0; is_digit = lit≤ tt; text = refl })),
  inr (inr (record { number = 12; page = lit≤ tt; key = 35; is_key = refl; other = λ e. omega (arith, e); text = refl })),
)

-- keys that wait for more: up to nine digits, and a number with one *
pub waits : HasNoCommand (codes "*0") × HasNoCommand (codes "*123456789") × HasNoCommand (codes "*12*")
unfolding digits
waits = (none_kept (Number 0) (lit≤ tt), none_kept (Number 123456789) (lit≤ tt), none_kept (Starred 12) (lit≤ tt))

-- a caller's bytes: a route, a page, a number that is taken back, and a * that waits for more
pub caller : AreCommandsOf (codes "5*1 2_*3**x*") (Route 5 ∷ Go 12 ∷ Cancel ∷ []) (codes "*")
unfolding digits
caller = (
  codes "5",
  codes "*12#*3***",
  refl,
  (lit≤ tt, refl),
  (
    codes "*12#",
    codes "*3***",
    refl,
    (record { within = lit≤ tt; no_end = λ e. omega (arith, e); no_mail = λ e. omega (arith, e) }, refl),
    (
      codes "*3**",
      codes "*",
      refl,
      inr (record { number = 3; page = lit≤ tt; text = refl }),
      (refl, none_kept Star tt),
    ),
  ),
)
