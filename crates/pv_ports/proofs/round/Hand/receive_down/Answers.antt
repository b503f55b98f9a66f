use Rattle.std.proofs.Common.{Some, refl, subst}
use Rattle.std.specs.Prelude.{Ok}
use Rattle.pv_ports.specs.Round.{Took, round_stop}
use Rattle.pv_ports.proofs.round.Hand.receive_down.Goals as goal

pub returns-in-Some-handle_down-clause-receives : goal.returns-in-Some-handle_down-clause-receives
returns-in-Some-handle_down-clause-receives g c = (
  c.take.new.self,
  c.take.new.into,
  Ok (Some c.in-Ok-Some.size),
  subst (λ o. Took g.L.Link c.take.new.into c.args.down.now c.take.new.self (Ok o)) c.in-Ok-Some.field-0-is (record {
    account = c.in-Ok-Some.ensures.account;
    given = c.in-Ok-Some.ensures.given;
    taken = c.in-Ok-Some.ensures.taken;
    packets = c.in-Ok-Some.ensures.packets;
    held = c.in-Ok-Some.ensures.held;
    only = c.in-Ok-Some.ensures.only;
  }),
  (
    Some c.in-Some.packet,
    Some (round_stop c.in-Some-handle_down.end),
    c.in-Some.ensures,
    c.in-Some-handle_down.ensures.handles c.take.new.self,
    refl,
  ),
)
