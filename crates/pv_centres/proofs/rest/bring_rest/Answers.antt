use Rattle.std.proofs.Common.{◌≡◌, None}
use Rattle.std.specs.Prelude.{IfSome}
use denote.Param.{number}
use Rattle.pv_udc.specs.contracts.rules.UdcRulesRules.TheImpl as udc
use Rattle.pv_irc.specs.contracts.rules.IrcRulesRules.TheImpl as irc
use Rattle.pv_centres.specs.Rest.{AddsRecords}
use Rattle.pv_centres.proofs.Bringing.{if_some_there}
use Rattle.pv_centres.proofs.Carrying.{carried}
use Rattle.pv_centres.proofs.rest.bring_rest.Goals as goal

-- the items went up first, and the records down then
pub returns-clause-first_carried : goal.returns-clause-first_carried
returns-clause-first_carried g c none =
    carried (irc.ghosts (number 0)) g.D.Reports udc.ghosts c.args.nodes.now.update c.bring_up.new.update 0 c.args.nodes.now.first
    c.bring_down.new.first c.bring_up.new.ends.no_room c.bring_down.new.ends.no_room c.bring_down.ensures.noted
    (c.bring_up.ensures.first (c.bring_down.ensures.disk none))
    (c.bring_down.ensures.first_applies none)

pub returns-clause-second_carried : goal.returns-clause-second_carried
returns-clause-second_carried g c none =
    carried (irc.ghosts (number 1)) g.D.Reports udc.ghosts c.args.nodes.now.update c.bring_up.new.update 1 c.args.nodes.now.second
    c.bring_down.new.second c.bring_up.new.ends.no_room c.bring_down.new.ends.no_room c.bring_down.ensures.noted
    (c.bring_up.ensures.second (c.bring_down.ensures.disk none))
    (c.bring_down.ensures.second_applies none)

pub returns-clause-third_carried : goal.returns-clause-third_carried
returns-clause-third_carried g c none =
    carried (irc.ghosts (number 2)) g.D.Reports udc.ghosts c.args.nodes.now.update c.bring_up.new.update 2 c.args.nodes.now.third
    c.bring_down.new.third c.bring_up.new.ends.no_room c.bring_down.new.ends.no_room c.bring_down.ensures.noted
    (c.bring_up.ensures.third (c.bring_down.ensures.disk none))
    (c.bring_down.ensures.third_applies none)

pub returns-clause-fourth_carried : goal.returns-clause-fourth_carried
returns-clause-fourth_carried g c none =
    carried (irc.ghosts (number 3)) g.D.Reports udc.ghosts c.args.nodes.now.update c.bring_up.new.update 3 c.args.nodes.now.fourth
    c.bring_down.new.fourth c.bring_up.new.ends.no_room c.bring_down.new.ends.no_room c.bring_down.ensures.noted
    (λ edits stands. c.bring_up.ensures.fourth (c.bring_down.ensures.disk none))
    (c.bring_down.ensures.fourth_applies none)

-- nothing is in hand
pub returns-clause-rests : goal.returns-clause-rests
returns-clause-rests g c none =
    let down = c.bring_down.ensures in
    let each = down.rests none in
    let update : IfSome c.bring_down.new.first (λ n. c.bring_up.new.update.hand ≡ None) =
    if_some_there (AddsRecords (irc.ghosts (number 0)) g.D.Reports) (c.bring_up.new.update.hand ≡ None) c.args.nodes.now.first
    c.bring_down.new.first down.first (c.bring_up.ensures.rests (down.disk none)) in
    (update, each.0, each.1, each.2, each.3)

-- what was brought goes on as a run
pub returns-clause-runs : goal.returns-clause-runs
returns-clause-runs g c none =
    let down = c.bring_down.ensures in
    (c.bring_up.ensures.runs (down.disk none), down.first_runs none, down.second_runs none, down.third_runs none, down.fourth_runs none)
