use Rattle.std.proofs.Common.{inl, inr, refl}
use Rattle.pv_ports.specs.Round.{round_at, round_stop}
use Rattle.pv_ports.proofs.round.Hand.carry_up.Goals as goal

pub returns-in-Some : goal.returns-in-Some
returns-in-Some g c = λ going is. inl (round_stop c.in-Some.end, (c.in-Some.ensures.gives going is, refl), refl)

pub returns-in-None : goal.returns-in-None
returns-in-None g c = λ going is.
    inr (
      round_at c.args.self.now.udc c.args.self.now.centre c.give.new.trip c.args.down.now c.give.new.link,
      (c.in-None.ensures.gives going is, refl),
      c.receive.ensures,
    )
