use Rattle.std.proofs.Common.{rules}
use Rattle.pv_group.proofs.desk.Desk+R+N+H+Published+R+N+Change+R+N.count_up.Goals as goal

-- the books have what all passes have
pub returns-clause-ahead : goal.returns-clause-ahead
returns-clause-ahead g c =
    let i = c.self.invariant.0 in
    rw (← c.self.view_is) (record {
      state_of = i.state_of;
      run = i.run;
      each = i.each;
      meets = i.meets;
      reported = search (rules, i.reported);
      accounted = search (rules, i.accounted);
    })
