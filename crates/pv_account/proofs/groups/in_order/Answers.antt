use Rattle.std.proofs.Common.{◌≡◌, ℕ, List, ◌++◌, take, drop, length, replicate, ap, arith, ◌∙◌}
use Rattle.std.proofs.lemmas.List.{take_at, drop_at, drop-replicate, length-append, length-drop, length-replicate}
use Rattle.std.proofs.lemmas.List.Sorted.{IsNonDecreasingBy-from_sort}
use Rattle.pv_account.proofs.groups.in_order.Goals as goal

-- the used places hold the sorted list
pub returns-clause-sorted : goal.returns-clause-sorted
returns-clause-sorted g c =
    let sorted = c.sort_unstable.new.self in
    let count = length c.args.list.now in
    let same : take count (sorted ++ drop count (replicate g.row.N 0)) ≡ sorted =
    take_at sorted (drop count (replicate g.row.N 0)) count (omega (
      arith,
      c.sort_unstable.ensures.len,
      ap length
          c.copy_from_slice.ensures.after,
    )) in
    rw same (IsNonDecreasingBy-from_sort (λ x. x) sorted c.sort_unstable.ensures.sorted)

-- the others hold 0
pub returns-clause-padded : goal.returns-clause-padded
returns-clause-padded g c =
    let sorted = c.sort_unstable.new.self in
    let count = length c.args.list.now in
    let zeros : List ℕ = replicate g.row.N 0 in
    record {
      len = omega (
        arith,
        length-append sorted (drop count zeros),
        length-drop count zeros,
        length-replicate {A = ℕ} g.row.N 0,
        c.sort_unstable.ensures.len,
        ap length c.copy_from_slice.ensures.after,
        c.requires,
      );
      fits = c.requires;
      rest = drop_at sorted (drop count (replicate g.row.N 0)) count (omega (arith, c.sort_unstable.ensures.len)) ∙ drop-replicate
          count g.row.N 0;
    }
