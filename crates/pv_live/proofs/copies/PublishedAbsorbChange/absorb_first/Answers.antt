use Rattle.std.proofs.Common.{◌≡◌, ◌+◌, ◌-◌, length, arith, ◌∙◌}
use Rattle.pv_live.specs.Entries.{with_opening}
use Rattle.pv_live.proofs.Lists.{with_count, last_count}
use Rattle.pv_live.proofs.States.{next_change, made_fits, next_state}
use Rattle.pv_live.proofs.copies.PublishedAbsorbChange.absorb_first.Goals as goal

pub absorb-requires-clause-room : goal.absorb-requires-clause-room
absorb-requires-clause-room g c =
    let laws = g.met.R.Rules in
    let log = c.self.inside.known in
    let ends = c.operation.invariant in
    let more : length c.operation.inside.known ≡ length log + 1 =
    omega (
      arith,
      c.if-length-place.false,
      c.length.ensures,
      c.length-place.ensures,
      last_count ends.before c.operation.inside.known c.operation.inside.entry ends.is,
    ) in
    let next = next_change g.R.Rules g.N.Run.limits g.N.Run.opening log c.operation.inside.known c.operation.inside.entry ends
    (c.is_prefix_of.ensures.yes c.if-not-is_prefix_of.false) more in
    (made_fits g.R.Rules g.N.Run.limits g.N.Run.opening laws.stored laws.same_room c.self.inside.state (with_opening g.N.Run.opening log)
    c.operation.inside.entry.rec c.self.invariant next.1).1

pub invariant_of-self : goal.invariant_of-self
invariant_of-self g c =
    let laws = g.met.R.Rules in
    let log = c.self.inside.known in
    let ends = c.operation.invariant in
    let more : length c.operation.inside.known ≡ length log + 1 =
    omega (
      arith,
      c.if-length-place.false,
      c.length.ensures,
      c.length-place.ensures,
      last_count ends.before c.operation.inside.known c.operation.inside.entry ends.is,
    ) in
    let next = next_change g.R.Rules g.N.Run.limits g.N.Run.opening log c.operation.inside.known c.operation.inside.entry ends
    (c.is_prefix_of.ensures.yes c.if-not-is_prefix_of.false) more in
    let place : c.length-place.result - 1 ≡ length (with_opening g.N.Run.opening log) =
    omega (arith, c.if-length-place.false, c.length.ensures, with_count g.N.Run.opening log) in
    rw (c.absorb.ensures, place, c.copy.ensures ∙ next.0)
    (next_state g.R.Rules g.N.Run.limits g.N.Run.opening laws.stored laws.same_room laws.grows laws.limits_stay c.self.inside.state log
    c.operation.inside.entry c.self.invariant next.1)
