use Rattle.std.proofs.Common.{◌-◌, ◌++◌, List, ℕ, length, take, drop, sym, ap, subst, ◌∙◌, arith, length-take}
use Rattle.std.proofs.Math.Seq.{take-add, take-take}
use Rattle.std.specs.Io.KnownBytes.{Appends}
use Rattle.pv_files.proofs.Appending.{Appends-both}
use Rattle.pv_files.proofs.retry.write_whole.Goals as goal

-- what the writer took comes after what it had taken
pub loop-at-preserved : goal.loop-at-preserved
loop-at-preserved g c =
    let at = c.loop-at.at in
    let count = c.in-Ok.count in
    let bytes = c.args.bytes.now in
    let fits = c.in-Ok.ensures.within in
    let most = length-take (length bytes - at) (drop at bytes) in
    let joined =
    ap (λ (l : List ℕ). take at bytes ++ l) (take-take count (length bytes - at) (drop at bytes) (omega arith))
    ∙ sym (take-add at count bytes) in
    record {
      within = omega arith;
      written = subst (Appends _ _) joined (Appends-both _ _ _ _ _ c.loop-at.invariant.written c.in-Ok.ensures.bytes);
    }
