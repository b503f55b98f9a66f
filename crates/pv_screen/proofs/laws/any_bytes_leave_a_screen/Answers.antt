use Rattle.pv_screen.proofs.Displays.{IsDisplay-terminal_after}
use Rattle.pv_screen.proofs.laws.any_bytes_leave_a_screen.Goals as goal

pub returns : goal.returns
returns c = λ t is bytes. IsDisplay-terminal_after bytes t is
