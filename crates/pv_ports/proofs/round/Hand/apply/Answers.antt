use Rattle.std.proofs.Common.{◌+◌, Some, refl, ap, ◌∙◌}
use Rattle.std.specs.Prelude.{Ok, Err, option_map}
use denote.Param.{number}
use Rattle.pv_irc.specs.contracts.rules.IrcRulesRules.TheImpl as irc
use Rattle.pv_irc.specs.declared.request.IrcRequest.TheVariants.{Apply}
use Rattle.pv_packet.specs.declared.packet.Packet.TheVariants.{DownHeard}
use Rattle.pv_ports.specs.Round.{round_stop, applied_by, trip_after_record}
use Rattle.pv_ports.specs.Session.{ask_fault}
use Rattle.pv_ports.proofs.Rounds.{answered_to, same_stop}
use Rattle.pv_ports.proofs.Sessions.{failed_as}
use Rattle.pv_ports.proofs.round.Hand.apply.Goals as goal

pub returns-in-Ok-clause-handles : goal.returns-in-Ok-clause-handles
returns-in-Ok-clause-handles g c = λ link. (
  c.ask.new.pass,
  Ok c.in-Ok.told,
  record {
    asks = record { prefix = c.ask.ensures.seen; same = c.ask.ensures.same };
    comes = (c.in-Ok.ensures.told, c.in-Ok.ensures.not_failed);
  },
  (
    answered_to g.L.Link c.records_heard-heard.result (option_map (DownHeard g.row.C) (applied_by c.args.n c.in-Ok.told.reply))
        c.args.up.now
        c.acknowledge.new.link c.count_record.new.self (trip_after_record c.in-Ok.told.reply c.args.self.now.trip) c.acknowledge.new.trip
        (option_map round_stop c.acknowledge.result) c.records_heard-heard.ensures.value c.count_record.ensures.value
        c.acknowledge.ensures.gives,
    refl,
  ),
)

pub returns-in-Err-clause-handles : goal.returns-in-Err-clause-handles
returns-in-Err-clause-handles g c = λ link. (
  c.ask.new.pass,
  Err (ask_fault c.in-Err.fault),
  record {
    asks = record { prefix = c.ask.ensures.seen; same = c.ask.ensures.same };
    comes = failed_as (irc.ghosts (number g.row.C)) g.N.Run.limits g.N.Run.opening (Apply c.args.n c.args.rec.now) c.args.self.now.centre
        c.ask.new.pass c.in-Err.fault
        c.in-Err.ensures.failed;
  },
  (refl, ap Some (c.ask_stop.ensures ∙ same_stop (g.row.C + 1) c.in-Err.fault)),
)
