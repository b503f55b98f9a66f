use Rattle.std.proofs.{Common.{◌≡◌, ◌^◌, ◌<◌, Ok, arith}, lemmas.Str.Parse.{parse_gives, digits_value_short}}
use Rattle.std.specs.Str.Parse.{digits_value}
use Rattle.pv_page.proofs.Decimals.{own}
use Rattle.pv_page.proofs.digits.number_of.Goals as goal

-- what is parsed is the digits' value
pub unwrap-requires-2 : goal.unwrap-requires-2
unwrap-requires-2 c =
    let digits = c.args.digits.now in
    let small : digits_value 10 digits < 10 ^ 19 = digits_value_short own digits 19 c.requires.2 c.requires.1 in
    let parsed : c.parse.result ≡ Ok (digits_value 10 digits) = grind (arith, parse_gives own 64 digits c.parse.result) in
    grind (arith, parsed)
