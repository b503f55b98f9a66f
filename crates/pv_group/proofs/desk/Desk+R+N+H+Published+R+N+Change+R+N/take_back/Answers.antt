use Rattle.std.proofs.Common.{arith}
use Rattle.pv_group.proofs.desk.Desk+R+N+H+Published+R+N+Change+R+N.take_back.Goals as goal

-- a record that was told of is now one of which an ask has failed
pub invariant_of-self : goal.invariant_of-self
invariant_of-self g c =
    let i = c.self.invariant in (
      record {
        state_of = i.0.state_of;
        run = i.0.run;
        each = i.0.each;
        meets = i.0.meets;
        reported = omega (arith, i.0.reported, c.count_untold.ensures.total);
        accounted = omega (arith, i.0.accounted, c.count_untold.ensures.total, c.count_failed.ensures.total);
      },
      i.1,
      i.2,
      i.3,
      i.4,
      i.5,
      i.6,
      i.7,
      i.8,
    )
