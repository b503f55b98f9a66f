use Rattle.std.proofs.Common.{rules, ◌≡◌}
use Rattle.pv_udc.proofs.state.UdcState.copy.Goals as goal

-- the copy has the same base, and the same is kept beside it
pub invariant_of-result : goal.invariant_of-result
invariant_of-result c =
    let base : c.in_ok-copy.field-0 ≡ c.self.inside.base = search rules in
    let kept = c.self.invariant in
    rw base (record {
      same_limits = kept.same_limits;
      in_order = kept.in_order;
      counted = kept.counted;
      within = kept.within;
      taken_up = kept.taken_up;
      charged = c.in_ok-copy-2.ensures c.self.inside.base.records kept.charged;
      replied = c.in_ok-copy-3.ensures c.self.inside.base.records kept.replied;
    })
