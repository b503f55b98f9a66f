use Rattle.std.proofs.Common.{List, ◌++◌, map, ap, subst, ◌∙◌}
use Rattle.std.specs.Prelude.{option_to_list}
use Rattle.std.specs.Option.{option_map}
use denote.Param.{number}
use Rattle.pv_irc.specs.contracts.rules.IrcRulesRules.TheImpl as irc
use Rattle.pv_irc.specs.declared.record.CentreRecord.{CentreRecord}
use Rattle.pv_live.specs.Pass.{Standing}
use Rattle.pv_centres.specs.Served.{IsGivenBack}
use Rattle.pv_centres.proofs.Storing.{centre_closed}
use Rattle.pv_centres.proofs.centre.close_centre.Goals as goal

-- the node was closed with the passes of its ports, and then its carrier's
pub returns-in-Some-clause-closed : goal.returns-in-Some-clause-closed
returns-in-Some-clause-closed g c =
    let ports = map (λ s. s.port.pass) c.args.centre.callers.items in
    let own = option_to_list (option_map (λ s. s.centre) c.args.centre.carrier) in
    rw c.in-Some.is (centre_closed (irc.ghosts (number g.row.C)) g.D.Reports g.N.Run.limits g.U.Run.opening g.N.Run.opening g.row.C ports _
    c.args.centre.carrier c.close_live.result
    (subst (λ (ps : List (Standing CentreRecord)). IsGivenBack (irc.ghosts (number g.row.C)) g.D.Reports g.N.Run.limits
    g.N.Run.opening ps c.close_live.result)
    (c.in_ok-take_carrier.ensures.own ∙ ap (λ (ps : List (Standing CentreRecord)). ps ++ own)
    (c.in_ok-take_callers.ensures.passes ∙ ap (λ (ps : List (Standing CentreRecord)). ps ++ ports) c.new-passes.ensures.items))
    c.close_live.ensures) (λ quiet. (c.in_ok-take_carrier.ensures.quiet quiet).1))
