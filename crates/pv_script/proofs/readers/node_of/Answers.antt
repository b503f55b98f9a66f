use Rattle.std.proofs.Common.{rules, ◌≡◌, arith}
use Rattle.std.specs.Prelude.{codes}
use Rattle.pv_script.proofs.Nodes.{only_update}
use Rattle.pv_script.proofs.readers.node_of.Goals as goal

-- the letter names no centre
pub returns-then-eq : goal.returns-then-eq
returns-then-eq c =
    let is : c.args.text.now ≡ codes "u" = search rules in
    record { found = is; only = only_update c.args.centres c.args.text.now (omega arith) is }
