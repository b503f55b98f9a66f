use Rattle.std.proofs.Common.{rules}
use Rattle.pv_session.proofs.seat.Seat.line.Goals as goal

-- the parts of a charge are within their ranges
pub invariant_of-result : goal.invariant_of-result
invariant_of-result c = record {
  serial = search rules;
  number = search rules;
  account = search rules;
  name = c.name.ensures.within;
  price = c.price.ensures.within;
  moment = search rules;
}
