use Rattle.std.proofs.Common.{◌≡◌, ℕ, ◌+◌, suc, arith, ap, ◌∙◌}
use Rattle.pv_live.specs.Pass.{new_passes}
use Rattle.pv_live.proofs.live.make_passes.Goals as goal

-- one pass more was made, with a part of each share
pub loop-number-preserved : goal.loop-number-preserved
loop-number-preserved g c =
    let i = c.loop-number.invariant in
    let next : suc c.loop-number.number ≡ c.loop-number.number + 1 = omega arith in
    let told = c.split_off.ensures in
    let failed = c.split_off-in-loop-number.ensures in (
      c.in_ok-push.ensures.items ∙ rw (i.0, c.copy.ensures ∙ c.requires.known, told.amount, failed.amount)
          (ap (new_passes {T = g.row.R-Rec.Denot}) next),
      c.in_ok-push.ensures.len ∙ ap (λ (n : ℕ). n + 1) i.1,
      omega (arith, i.2, told.parts_left),
      omega (arith, i.3, told.amount_left),
      omega (arith, i.4, failed.parts_left),
      omega (arith, i.5, failed.amount_left),
    )
