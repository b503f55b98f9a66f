use Rattle.std.proofs.Common.{inl, inr, refl}
use Rattle.pv_ports.specs.Round.{round_at, round_stop}
use Rattle.pv_ports.proofs.round.Hand.carry.Goals as goal

pub returns-in-Some : goal.returns-in-Some
returns-in-Some g c = λ going_down going_up down up. inl (round_stop c.in-Some.end, (c.in-Some.ensures.gives going_down down, refl), refl)

pub returns-in-None : goal.returns-in-None
returns-in-None g c = λ going_down going_up down up.
    inr (
      round_at c.args.self.now.udc c.args.self.now.centre c.give.new.trip c.give.new.link c.args.up.now,
      (c.in-None.ensures.gives going_down down, refl),
      c.carry_up.ensures going_up up,
    )
