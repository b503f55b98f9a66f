use Rattle.std.proofs.Common.{flat_map, drop, suc}
use Rattle.pv_gen.proofs.Blocks.{parted_at}
use Rattle.pv_gen.proofs.Writes.{fails-after}
use Rattle.pv_gen.proofs.line.put_all.Goals as goal

-- the parts after the one that failed are not written
pub returns-in_err-put : goal.returns-in_err-put
returns-in_err-put g c =
    let later = flat_map (λ part. part.now) (drop (suc c.loop-part.part-index) c.args.parts.now) in
    fails-after c.from_residual.result later c.from_residual.ensures.0
    (parted_at (λ part. part.now) c.args.parts.now c.loop-part.part-index _ c.loop-part-test.true)
    c.loop-part.invariant c.in_err-put.ensures
