use Rattle.std.specs.Prelude.{option_map}
use denote.Param.{number}
use Rattle.pv_irc.specs.contracts.rules.IrcRulesRules.TheImpl as irc
use Rattle.pv_udc.specs.contracts.rules.UdcRulesRules.TheImpl as udc
use Rattle.pv_ports.specs.Round.{round_at, round_stop}
use Rattle.pv_ports.proofs.Rounds.{round_of}
use Rattle.pv_ports.proofs.carrier.Carrier.make_round.Goals as goal

pub returns : goal.returns
returns g c =
    rw (← c.self.view_is) (round_of udc.ghosts (irc.ghosts (number g.row.C)) g.L.Link g.U.Run.limits g.N.Run.limits g.U.Run.opening
    g.N.Run.opening g.row.C c.self.inside.hand.udc c.look_down.new.self.udc c.look_up.new.self.udc c.self.inside.hand.centre
    c.look_down.new.self.centre c.look_up.new.self.centre c.self.inside.hand.trip c.begin.new.self c.look_down.new.self.trip
    c.look_up.new.self.trip c.look_down.ensures.looks.0 c.look_up.ensures.looks.0 c.args.down.now c.args.up.now
    (round_at c.carry-stop.new.self.udc c.carry-stop.new.self.centre c.carry-stop.new.self.trip c.carry-stop.new.down c.carry-stop.new.up)
    (option_map round_stop c.carry-stop.result) (round_stop c.ending.result) c.begin.ensures c.look_down.ensures.looks.1
    c.look_down.ensures.same.0 c.look_down.ensures.same.1 c.look_up.ensures.looks.1 c.look_up.ensures.same.0 c.look_up.ensures.same.2
    (c.carry-stop.ensures c.look_down.ensures.looks.0 c.look_up.ensures.looks.0
    (rw c.look_up.ensures.same.1 c.look_down.ensures.looks.2) c.look_up.ensures.looks.2) c.ending.ensures)
