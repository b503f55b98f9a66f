use Rattle.std.proofs.Common.{Some, refl, sym, ap, ◌∙◌}
use Rattle.pv_network.proofs.Performing.{found_genuine}
use Rattle.pv_network.proofs.network.Network.arrive.Goals as goal

-- what is there is genuine
pub apply-requires-clause-genuine : goal.apply-requires-clause-genuine
apply-requires-clause-genuine c = λ w stands. (
  refl,
  (found_genuine _ w (rw (← c.self.view_is) at stands) c.args.centre c.args.way c.args.index _
      (sym (c.in-Some-Down.is ∙ ap Some c.in-Some-Down.field-0-is) ∙ c.packet.ensures)).1,
)

pub take_up-requires-clause-genuine : goal.take_up-requires-clause-genuine
take_up-requires-clause-genuine c = λ w stands. (
  refl,
  (found_genuine _ w (rw (← c.self.view_is) at stands) c.args.centre c.args.way c.args.index _
      (sym (c.in-Some-Up.is ∙ ap Some c.in-Some-Up.field-0-is) ∙ c.packet.ensures)).1,
)

pub hear-requires-clause-genuine : goal.hear-requires-clause-genuine
hear-requires-clause-genuine c = λ w stands. (
  refl,
  (found_genuine _ w (rw (← c.self.view_is) at stands) c.args.centre c.args.way c.args.index _
      (sym (c.in-Some-DownHeard.is ∙ ap Some c.in-Some-DownHeard.field-0-is) ∙ c.packet.ensures)).1,
)

pub hear-requires-in-Some-UpHeard-clause-genuine : goal.hear-requires-in-Some-UpHeard-clause-genuine
hear-requires-in-Some-UpHeard-clause-genuine c = λ w stands. (
  refl,
  (found_genuine _ w (rw (← c.self.view_is) at stands) c.args.centre c.args.way c.args.index _
      (sym (c.in-Some-UpHeard.is ∙ ap Some c.in-Some-UpHeard.field-0-is) ∙ c.packet.ensures)).1,
)
