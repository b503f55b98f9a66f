use Rattle.std.proofs.Common.{true, false, refl}
use Rattle.std.specs.Prelude.{Ok}
use Rattle.pv_ports.specs.Round.{round_at, came_in}
use Rattle.pv_ports.proofs.round.Hand.receive_items.Goals as goal

pub returns-in-Ok-true : goal.returns-in-Ok-true
returns-in-Ok-true g c = (
  round_at c.receive_up.new.self.udc c.receive_up.new.self.centre c.receive_up.new.self.trip c.receive_up.new.down c.receive_up.new.up,
  Ok true,
  rw c.in-Ok-true.field-0-test at c.in-Ok-true.ensures.receives,
  (came_in c.receive_up-in-Ok-true.result, c.receive_up-in-Ok-true.ensures.receives, c.stop_in.ensures),
)

pub returns-in-Ok-false : goal.returns-in-Ok-false
returns-in-Ok-false g c = (
  round_at c.receive_up.new.self.udc c.receive_up.new.self.centre c.receive_up.new.self.trip c.receive_up.new.down c.receive_up.new.up,
  Ok false,
  rw c.in-Ok-false.field-0-test at c.in-Ok-false.ensures.receives,
  (refl, refl),
)
