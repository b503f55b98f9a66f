use Rattle.std.proofs.Common.{true, false, refl}
use Rattle.std.specs.Prelude.{Ok}
use Rattle.pv_ports.specs.Round.{round_at, came_in}
use Rattle.pv_ports.proofs.round.Hand.receive_records.Goals as goal

pub returns-in-Ok-true-clause-receives : goal.returns-in-Ok-true-clause-receives
returns-in-Ok-true-clause-receives g c = (
  round_at c.receive_down.new.self.udc c.receive_down.new.self.centre c.receive_down.new.self.trip c.receive_down.new.down
      c.receive_down.new.up,
  Ok true,
  rw c.in-Ok-true.field-0-test at c.in-Ok-true.ensures.receives,
  (came_in c.receive_down-in-Ok-true.result, c.receive_down-in-Ok-true.ensures.receives, c.stop_in.ensures),
)

pub returns-in-Ok-false-clause-receives : goal.returns-in-Ok-false-clause-receives
returns-in-Ok-false-clause-receives g c = (
  round_at c.receive_down.new.self.udc c.receive_down.new.self.centre c.receive_down.new.self.trip c.receive_down.new.down
      c.receive_down.new.up,
  Ok false,
  rw c.in-Ok-false.field-0-test at c.in-Ok-false.ensures.receives,
  (refl, refl),
)
