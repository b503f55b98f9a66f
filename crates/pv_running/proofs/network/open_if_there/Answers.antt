use Rattle.std.proofs.Common.{◌≤◌, length, map, lit<, ap, arith, length-append}
use Rattle.std.specs.Vec.Iter.{into_iter_items}
use Rattle.std.proofs.lemmas.List.{length-map}
use denote.Param.{number}
use Rattle.pv_irc.specs.contracts.rules.IrcRulesRules.TheImpl as irc
use Rattle.pv_centres.specs.Opening.{IsReady, weigh}
use Rattle.pv_centres.proofs.Bringing.{at_some}
use Rattle.pv_centres.proofs.Passes.{taken_new}
use Rattle.pv_running.proofs.network.open_if_there.Goals as goal

-- the node that is there is ready for its run
pub open_next-requires-after_bounds : goal.open_next-requires-after_bounds
open_next-requires-after_bounds g c κs within =
    let ready = at_some c.args.opened c.in-Some.opened c.in-Some.is
    (λ o. IsReady (irc.ghosts (number g.row.C)) g.D.Reports g.N.Run.opening g.N.Run.limits o.node) c.requires.ready in
    let passes = taken_new c.args.udc.now.items c.pop.new.self.items c.pop.result c.unwrap-pass.result c.pop.ensures.items
    c.unwrap-pass.ensures c.requires.new_udc in
    let doors : c.args.plan.ports ≤ length (into_iter_items c.args.doors.now) =
    omega (arith, c.requires.doors, ap (λ o. weigh (λ x. c.args.plan.ports) o) c.in-Some.is) in (
      lit< tt,
      (
        lit< tt,
        (
          c.requires.centre,
          (
            ready.stands,
            (
              ready.at_rest,
              (
                ready.limited,
                (
                  doors,
                  (
                    c.requires.fresh,
                    (
                      c.requires.passes,
                      (passes.1, c.requires.start),
                    ),
                  ),
                ),
              ),
            ),
          ),
        ),
      ),
    )

-- the other passes are new
pub returns-in_err-centre-clause-new_udc : goal.returns-in_err-centre-clause-new_udc
returns-in_err-centre-clause-new_udc g c =
    (taken_new c.args.udc.now.items c.pop.new.self.items c.pop.result c.unwrap-pass.result c.pop.ensures.items
    c.unwrap-pass.ensures c.requires.new_udc).0

pub returns-clause-new_udc : goal.returns-clause-new_udc
returns-clause-new_udc g c =
    (taken_new c.args.udc.now.items c.pop.new.self.items c.pop.result c.unwrap-pass.result c.pop.ensures.items
    c.unwrap-pass.ensures c.requires.new_udc).0

-- as many doors are left as there were without the ports
pub returns-clause-left : goal.returns-clause-left
returns-clause-left g c =
    let centre = c.in_ok-centre.centre in
    let taken = c.in_ok-centre.ensures in
    omega (
      arith,
      ap length taken.doors,
      length-append (map (λ s. s.door.value) centre.callers.items) (into_iter_items c.open_next.new.doors),
      length-map centre.callers.items (λ s. s.door.value),
      taken.fresh.counted,
      ap (λ o. weigh (λ x. c.args.plan.ports) o) c.in-Some.is,
    )
