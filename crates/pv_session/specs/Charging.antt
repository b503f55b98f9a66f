-- What a priced frame costs, and whose charge a call owes.
use Rattle.std.specs.Prelude.{ℕ, ◌<◌, ◌^◌, Option, Some}
use Rattle.pv_fields.specs.Reading.{◌>>=◌}
use Rattle.pv_page.specs.Names.{Name, IsAccount}
use Rattle.pv_charge.specs.Line.{Charge, IsCharge}
use Rattle.pv_post.specs.Spelling.{IsItem}
use Rattle.pv_session.specs.declared.step.Step.{Step}
use Rattle.pv_session.specs.declared.step.Step.TheVariants as steps
use Rattle.pv_session.specs.declared.step.Wish.{Wish}
use Rattle.pv_session.specs.declared.step.Wish.TheVariants as wishes
use Rattle.pv_session.specs.State.{CallState}

-- the charge for a frame, by its name, its price and the moment of its fetch: the caller pays, and the line's number in the call
-- is the count of charges before; a caller who has not logged on cannot be charged
abbrev pub charge_of : CallState → Name → ℕ → ℕ → Option Charge
charge_of call name price moment = call.serial >>= λ serial. call.account >>= λ account. Some (record {
  serial = serial;
  number = call.lines;
  account = account;
  name = name;
  price = price;
  moment = moment;
})

-- what is to be stored is within its ranges
abbrev pub IsSeatWish : Wish → Type 0
IsSeatWish (wishes.LogOn account) = IsAccount account
IsSeatWish (wishes.Charge charge) = IsCharge charge
IsSeatWish (wishes.Post item) = IsItem item
IsSeatWish (wishes.Remove account number) = IsAccount account × (number < 2 ^ 64)

-- what a step owes can be stored
abbrev pub IsStorable : Step → Type 0
IsStorable steps.Quiet = Unit {0}
IsStorable (steps.Show screen) = Unit {0}
IsStorable (steps.Owe wish) = IsSeatWish wish
IsStorable (steps.Ended why screen) = Unit {0}
