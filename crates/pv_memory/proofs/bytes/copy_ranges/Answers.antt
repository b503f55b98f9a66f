use Rattle.std.proofs.Common.{length, sym, ◌∙◌, ap, arith}
use Rattle.std.proofs.lemmas.List.{drop_all, ext_get_or, get_or-take, length-take-le}
use Rattle.pv_memory.specs.Medium.{is_pending}
use Rattle.pv_memory.proofs.bytes.copy_ranges.Goals as goal

pub returns : goal.returns
returns c =
    let count = length c.args.copy.now in
    ext_get_or 0 _ _ (omega (arith, length-take-le count c.args.text.now c.requires.shorter)) (λ k h.
    c.loop-range.invariant k (omega arith) (ap (λ ranges. is_pending ranges k) (drop_all c.loop-range.range-index c.args.pending.now (omega arith)))
    ∙ sym (get_or-take count c.args.text.now k 0 (omega arith)))
