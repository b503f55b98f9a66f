use Rattle.std.proofs.Common.{◌∙◌}
use Rattle.pv_ports.proofs.Rounds.{of_another}
use Rattle.pv_ports.proofs.round.packet_of.Goals as goal

pub returns-else-centre_of : goal.returns-else-centre_of
returns-else-centre_of g c =
    of_another c.a_packet_is_read_as_it_is_spelled.ensures.read g.row.C c.args.bytes.now c.in-Ok.packet c.in-Ok.ensures.found.0
    c.in-Ok.ensures.found.1 (λ own. c.if-centre_of.false (c.centre_of.ensures ∙ own))
