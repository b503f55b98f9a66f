use Rattle.pv_packet.proofs.Readings.{packet_read, packet_size}
use Rattle.pv_packet.proofs.law.a_packet_is_read_as_it_is_spelled.Goals as goal

pub returns-clause-read : goal.returns-clause-read
returns-clause-read c = packet_read

pub returns-clause-size : goal.returns-clause-size
returns-clause-size c = packet_size
