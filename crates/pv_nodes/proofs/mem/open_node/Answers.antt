use Rattle.std.proofs.Common.{[], ap}
use Rattle.std.specs.Option.{unwrap_or}
use Rattle.pv_nodes.proofs.Opened.{only_memory}
use Rattle.pv_nodes.proofs.mem.open_node.Goals as goal

pub returns-in-Ok-clause-opened : goal.returns-in-Ok-clause-opened
returns-in-Ok-clause-opened g c = record {
  stands = (c.requires.records, c.in-Ok.ensures.found c.requires.records c.requires.stands);
  hand = c.in-Ok.ensures.none_in_hand;
  endless = rw c.in-Ok.ensures.limits (c.in-Ok.ensures.reads_only.spends.endless _ c.requires.endless);
}

pub returns-clause-memory : goal.returns-clause-memory
returns-clause-memory g c = only_memory _
    (c.in-Err.ensures.opens c.requires.records c.requires.stands c.requires.meets)
    (c.in-Err.ensures.handed_back.passes _ c.requires.endless)

pub returns-in-Ok-clause-bytes : goal.returns-in-Ok-clause-bytes
returns-in-Ok-clause-bytes g c = ap (λ text. unwrap_or text []) c.in-Ok.ensures.reads_only.same.reads
