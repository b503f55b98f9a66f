use Rattle.std.proofs.Common.{inl, inr, ℕ, List, Some, length, refl, arith, rules, take, ◌∙◌, sym, ap}
use Rattle.std.proofs.lemmas.List.{length-take-le}
use Rattle.std.proofs.lemmas.List.Sorted.{length_permutation}
use Rattle.pv_account.proofs.Rising.{refused, not_refused, one_order, AllByRecursion-take}
use Rattle.pv_account.proofs.groups.Groups.of_list.Goals as goal

pub invariant_of-result : goal.invariant_of-result
invariant_of-result g c =
    let padded = c.in_order-numbers.ensures.padded in
    record {
      small = c.requires;
      padded = padded;
      groups = record {
        numbers = AllByRecursion-take _ (length c.args.list.now) c.in_order-numbers.result (search rules);
        fits = omega (
          arith,
          length-take-le (length c.args.list.now) c.in_order-numbers.result (omega (
            arith,
            padded.len,
            padded.fits,
          )),
          padded.fits,
        );
        rises = sym c.rise.ensures ∙ c.if-rise.true;
      };
    }

-- the sorted list rises
pub returns-then-rise-clause-none : goal.returns-then-rise-clause-none
returns-then-rise-clause-none g c =
    let sorted = take (length c.args.list.now) c.in_order-numbers.result in
    let list = c.args.list.now in (
      λ no. absurd cc,
      λ bad. elim bad [
        | inl long ↦ absurd (omega (arith, long, c.if-count.false))
        | inr other ↦ absurd (not_refused list sorted c.in_order-numbers.ensures.moved (sym c.rise.ensures ∙ c.if-rise.true) other)
      ],
    )

-- it does not
pub returns-else-rise-clause-none : goal.returns-else-rise-clause-none
returns-else-rise-clause-none g c =
    let sorted = take (length c.args.list.now) c.in_order-numbers.result in (
      λ yes. inr (
          refused c.args.list.now sorted c.in_order-numbers.ensures.moved c.in_order-numbers.ensures.sorted
          (sym c.rise.ensures ∙ c.if-rise.false)
          ),
      λ bad. refl,
    )

-- a list that is too long has no order that is short enough
pub returns-then-count-clause-only : goal.returns-then-count-clause-only
returns-then-count-clause-only g c = λ groups order are.
    absurd (omega (arith, c.if-count.true, length_permutation c.args.list.now groups order, are.fits))

-- the sorted list is the one that rises
pub returns-then-rise-clause-only : goal.returns-then-rise-clause-only
returns-then-rise-clause-only g c = λ groups order are.
    let sorted = take (length c.args.list.now) c.in_order-numbers.result in
    ap (λ (list : List ℕ). Some list)
    (one_order c.args.list.now sorted groups c.in_order-numbers.ensures.moved order (sym c.rise.ensures ∙ c.if-rise.true) are.rises)

-- none rises
pub returns-else-rise-clause-only : goal.returns-else-rise-clause-only
returns-else-rise-clause-only g c = λ groups order are.
    let sorted = take (length c.args.list.now) c.in_order-numbers.result in
    absurd (not_refused c.args.list.now groups order are.rises
    (refused c.args.list.now sorted c.in_order-numbers.ensures.moved c.in_order-numbers.ensures.sorted
    (sym c.rise.ensures ∙ c.if-rise.false)))
