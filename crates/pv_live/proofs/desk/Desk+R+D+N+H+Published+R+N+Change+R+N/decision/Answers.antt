use Rattle.std.proofs.Common.{ap, sym, ◌∙◌}
use Rattle.pv_live.proofs.Desks.{node_state}
use Rattle.pv_live.proofs.desk.Desk+R+D+N+H+Published+R+N+Change+R+N.decision.Goals as goal

-- the node's state is one of all records
pub returns-clause-judged : goal.returns-clause-judged
returns-clause-judged g c =
    let d = c.self.inside in
    rw (← ap (λ b. b.log) c.self.view_is) (
      d.node.state,
      node_state g.R.Rules g.D.Reports g.N.Run.limits g.N.Run.opening d.known d.told.total d.failed.total d.node c.self.invariant.0,
      sym (c.decide.ensures ∙ ap (λ s. g.R.Rules.judgement s c.args.request.now) c.state.ensures),
    )
