use Rattle.pv_serve.proofs.Asked.{parts_of_each}
use Rattle.pv_serve_tests.proofs.parts.are_asked.Goals as goal

-- the words ask for one server at most, so that the parts of this one are those of each
pub returns-in-Ok : goal.returns-in-Ok
returns-in-Ok c = λ are options asked.
    parts_of_each _ c.in-Ok.options options c.args.disks c.args.callers c.args.editors c.in-Ok.ensures.ok asked
    (c.are_parts_of.ensures are)
