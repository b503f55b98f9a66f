use Rattle.std.proofs.Common.{List, ◌++◌, map, ap, ◌∙◌}
use Rattle.pv_edits.specs.declared.record.Record.{Record}
use Rattle.pv_live.specs.Pass.{Standing}
use Rattle.pv_udc.specs.contracts.rules.UdcRulesRules.TheImpl as udc
use Rattle.pv_centres.proofs.Storing.{udc_pass, update_closed}
use Rattle.pv_running.proofs.closing.close_network.Goals as goal

-- the Update Centre was closed with the passes of its ports, and then those that the carriers had
pub returns-clause-update : goal.returns-clause-update
returns-clause-update g c =
    let carriers = c.args.network.carriers in
    let own = udc_pass carriers.first ++ (udc_pass carriers.second ++ (udc_pass carriers.third ++ udc_pass carriers.fourth)) in
    update_closed udc.ghosts g.D.Reports g.U.Run.limits g.U.Run.opening g.N0.Run.opening g.N1.Run.opening g.N2.Run.opening
    g.N3.Run.opening (map (λ s. s.port.pass) c.args.network.ports.editors.items) carriers.first carriers.second carriers.third
    carriers.fourth _ c.close_centres.new.collected.passes.items c.in_ok-update.update.node c.in_ok-update.ensures.closed
    (c.in_ok-closed.ensures.udc ∙ ap (λ (ps : List (Standing Record)). ps ++ own) c.new-collected.ensures.2)
    (λ quiet. let stored = c.in_ok-closed.ensures.quiet quiet in (stored.1, stored.2, stored.3, stored.4))
