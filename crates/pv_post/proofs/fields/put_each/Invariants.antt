use Rattle.std.proofs.Common.{take}
use Rattle.std.specs.Prelude.{flat_map}
use Rattle.pv_fields.specs.Out.{Appends}
use Rattle.pv_post.specs.Item.{filled_bytes}
use Rattle.pv_post.proofs.fields.put_each.Given as goal

-- the fields so far are appended
abbrev pub invariant-loop-filled : goal.invariant-loop-filled
invariant-loop-filled l = Appends l.initial.out l.out (flat_map filled_bytes (take l.filled-index l.fields))
