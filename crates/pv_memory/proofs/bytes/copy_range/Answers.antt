use Rattle.std.proofs.Common.{rules, ◌≡◌}
use Rattle.std.specs.List.{slice_range}
use Rattle.pv_memory.proofs.BytesLemmas.{part_copied}
use Rattle.pv_memory.proofs.bytes.copy_range.Goals as goal

pub returns : goal.returns
returns c = λ place h.
    let bytes : c.copy_from_slice.new.self ≡ slice_range c.args.text.now c.min-from.result c.min-end.result = search rules in
    rw bytes (part_copied c.args.copy.now c.args.text.now c.args.range.at c.args.range.size _ _ place c.min-from.ensures c.min-end.ensures c.requires.shorter h)
