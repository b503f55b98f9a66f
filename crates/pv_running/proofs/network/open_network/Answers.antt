use Rattle.std.proofs.Common.{sym, ◌∙◌}
use Rattle.pv_running.proofs.Ports.{all_of_them}
use Rattle.pv_running.proofs.network.open_network.Goals as goal

-- each centre has its doors
pub open_centres-requires-clause-doors : goal.open_centres-requires-clause-doors
open_centres-requires-clause-doors g c κs within =
    let nodes = c.args.nodes in
    sym (all_of_them c.args.plan.ports nodes.first nodes.second nodes.third nodes.fourth) ∙ c.requires.callers
