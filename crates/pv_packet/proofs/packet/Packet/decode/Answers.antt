use Rattle.std.proofs.Common.{inl, rules}
use Rattle.pv_packet.specs.Packet.{Refuses}
use Rattle.pv_packet.specs.declared.error.PacketError.TheVariants.{Body}
use Rattle.pv_packet.proofs.Refusals.{never_refused}
use Rattle.pv_packet.proofs.packet.Packet.decode.Goals as goal

pub returns-in-Err-clause-missing : goal.returns-in-Err-clause-missing
returns-in-Err-clause-missing c = λ err. never_refused _ c.in-Err.error (inl (search rules))

pub returns-in-None-clause-missing : goal.returns-in-None-clause-missing
returns-in-None-clause-missing c = λ err. let refuses : Refuses c.args.bytes.now Body = search rules in never_refused _ Body refuses

pub returns-in-None-item_of-clause-missing : goal.returns-in-None-item_of-clause-missing
returns-in-None-item_of-clause-missing c = λ err. let refuses : Refuses c.args.bytes.now Body = search rules in never_refused _ Body refuses
