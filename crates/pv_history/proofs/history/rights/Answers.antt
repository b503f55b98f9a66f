use Rattle.std.proofs.Common.{◌≡◌, ◌+◌, [], ◌∷◌, length, subst, arith, length-append}
use Rattle.pv_history.specs.History.{IsRight, AreRights}
use Rattle.pv_history.proofs.Entries.{rights-push}
use Rattle.pv_history.proofs.history.rights.Goals as goal

-- one right more was given
pub loop-number-preserved : goal.loop-number-preserved
loop-number-preserved g c =
    let book = c.args.seen.now.book in
    let before = c.loop-number.rights.items in
    let size : length before ≡ c.loop-number.number = c.loop-number.invariant.0 in
    let number : c.from.result + 1 ≡ 1 + length before = omega (arith, size, c.from.ensures) in
    let items = c.in_ok-push_back.ensures.items in
    let given : IsRight book (1 + length before) c.in_ok-right.field-0 = subst (λ n. IsRight book n c.in_ok-right.field-0) number c.in_ok-right.ensures in (
      rw items (omega (arith, size, length-append before (c.in_ok-right.field-0 ∷ []))),
      rw items (rights-push book 1 before c.in_ok-right.field-0 c.loop-number.invariant.1 given),
    )
