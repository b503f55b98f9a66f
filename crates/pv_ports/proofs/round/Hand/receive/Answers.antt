use Rattle.std.proofs.Common.{inl, inr, refl}
use Rattle.pv_ports.specs.Round.{round_at, round_stop}
use Rattle.pv_ports.proofs.round.Hand.receive.Goals as goal

pub returns-in-Some : goal.returns-in-Some
returns-in-Some g c = inl (round_stop c.in-Some.end, c.in-Some.ensures.receives, refl)

pub returns-in-None : goal.returns-in-None
returns-in-None g c =
    let mid = c.receive_records.new in
    inr (round_at mid.self.udc mid.self.centre mid.self.trip mid.down mid.up, c.in-None.ensures.receives, c.receive_items.ensures)
