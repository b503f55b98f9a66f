use Rattle.std.proofs.Common.{length, ap, arith}
use Rattle.pv_edge_tests.proofs.memory.lines_come_in_in_order_and_come_back_as_they_were_given.Goals as goal

-- two lines have come in, and none was given back
pub finish-requires : goal.finish-requires
finish-requires g c =
    let none = ap length c.in_ok-door.ensures.1 in
    omega (
      arith,
      none,
      c.in_ok-door.ensures.0,
      c.in_ok-first.ensures.accepted,
      c.in_ok-second.ensures.accepted,
      c.let_in_one.ensures.finished,
      c.let_in_one-2.ensures.finished,
    )

-- two lines have come in, and one was given back
pub finish-requires-2 : goal.finish-requires-2
finish-requires-2 g c =
    let none = ap length c.in_ok-door.ensures.1 in
    omega (
      arith,
      none,
      c.in_ok-door.ensures.0,
      c.in_ok-first.ensures.accepted,
      c.in_ok-second.ensures.accepted,
      c.let_in_one.ensures.finished,
      c.let_in_one-2.ensures.finished,
      c.finish.ensures.finished,
      c.finish.ensures.accepted,
    )
