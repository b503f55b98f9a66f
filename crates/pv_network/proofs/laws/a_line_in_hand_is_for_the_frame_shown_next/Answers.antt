use Rattle.pv_network.proofs.Charged.{shown_for_line}
use Rattle.pv_network.proofs.laws.a_line_in_hand_is_for_the_frame_shown_next.Goals as goal

-- the frame was kept aside with the charge
pub returns : goal.returns
returns c = λ w centre port call line sound charged is in_hand. shown_for_line w centre port call line sound charged is in_hand
