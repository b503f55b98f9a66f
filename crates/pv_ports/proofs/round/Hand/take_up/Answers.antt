use Rattle.std.proofs.Common.{Some, refl, ap, ◌∙◌}
use Rattle.std.specs.Prelude.{Ok, Err, option_map}
use Rattle.pv_udc.specs.contracts.rules.UdcRulesRules.TheImpl as udc
use Rattle.pv_udc.specs.declared.request.UdcRequest.TheVariants.{TakeUp}
use Rattle.pv_packet.specs.declared.packet.Packet.TheVariants.{UpHeard}
use Rattle.pv_ports.specs.Round.{round_stop, taken_by, trip_after_item}
use Rattle.pv_ports.specs.Session.{ask_fault}
use Rattle.pv_ports.proofs.Rounds.{answered_to, same_stop}
use Rattle.pv_ports.proofs.Sessions.{failed_as}
use Rattle.pv_ports.proofs.round.Hand.take_up.Goals as goal

pub returns-in-Ok-clause-handles : goal.returns-in-Ok-clause-handles
returns-in-Ok-clause-handles g c = λ link. (
  c.ask.new.pass,
  Ok c.in-Ok.told,
  record {
    asks = record { prefix = c.ask.ensures.seen; same = c.ask.ensures.same };
    comes = (c.in-Ok.ensures.told, c.in-Ok.ensures.not_failed);
  },
  (
    answered_to g.L.Link c.items_heard-heard.result (option_map (UpHeard g.row.C) (taken_by c.args.k c.in-Ok.told.reply)) c.args.down.now
        c.acknowledge.new.link c.count_item.new.self (trip_after_item c.in-Ok.told.reply c.args.self.now.trip) c.acknowledge.new.trip
        (option_map round_stop c.acknowledge.result) c.items_heard-heard.ensures.value c.count_item.ensures.value
        c.acknowledge.ensures.gives,
    refl,
  ),
)

pub returns-in-Err-clause-handles : goal.returns-in-Err-clause-handles
returns-in-Err-clause-handles g c = λ link. (
  c.ask.new.pass,
  Err (ask_fault c.in-Err.fault),
  record {
    asks = record { prefix = c.ask.ensures.seen; same = c.ask.ensures.same };
    comes = failed_as udc.ghosts g.U.Run.limits g.U.Run.opening (TakeUp g.row.C c.args.k c.args.item.now) c.args.self.now.udc
        c.ask.new.pass c.in-Err.fault
        c.in-Err.ensures.failed;
  },
  (refl, ap Some (c.ask_stop.ensures ∙ same_stop 0 c.in-Err.fault)),
)
