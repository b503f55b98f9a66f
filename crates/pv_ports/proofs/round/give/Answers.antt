use Rattle.std.proofs.Common.{true, None, Some, refl, subst}
use Rattle.std.specs.Prelude.{Ok, Err}
use Rattle.pv_ports.specs.Round.{Gave}
use Rattle.pv_ports.specs.declared.round_end.RoundEnd.TheVariants as stops
use Rattle.pv_ports.proofs.Rounds.{given_if}
use Rattle.pv_ports.proofs.round.give.Goals as goal

pub returns-in-Ok-clause-gives : goal.returns-in-Ok-clause-gives
returns-in-Ok-clause-gives g c = λ packet is.
    given_if g.L.Link packet c.args.bytes.now c.args.size c.in-Some.size c.args.link.now c.give.new.self c.args.trip.now
    (record c.args.trip.now { moved = true }) None c.in-Some.is is (λ one ranges same. (
      ranges,
      Ok tt,
      subst (λ b. Gave g.L.Link b c.args.link.now c.give.new.self (Ok tt)) same (record {
        account = c.in-Ok.ensures.account;
        given = c.in-Ok.ensures.given;
        taken = c.in-Ok.ensures.taken;
        packets = c.in-Ok.ensures.packets;
        only = c.in-Ok.ensures.only;
      }),
      (refl, refl),
    ))

pub returns-in-Err-clause-gives : goal.returns-in-Err-clause-gives
returns-in-Err-clause-gives g c = λ packet is.
    given_if g.L.Link packet c.args.bytes.now c.args.size c.in-Some.size c.args.link.now c.give.new.self c.args.trip.now
    c.args.trip.now (Some stops.LinkFault) c.in-Some.is is (λ one ranges same. (
      ranges,
      Err c.in-Err.field-0,
      subst (λ b. Gave g.L.Link b c.args.link.now c.give.new.self (Err c.in-Err.field-0)) same (record {
        account = c.in-Err.ensures.account;
        given = c.in-Err.ensures.given;
        taken = c.in-Err.ensures.taken;
        packets = c.in-Err.ensures.packets;
        only = c.in-Err.ensures.only;
      }),
      (refl, refl),
    ))
