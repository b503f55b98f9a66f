use Rattle.std.proofs.Common.{arith, rules, sym, ap, take, ◌∙◌}
use Rattle.std.proofs.lemmas.List.{length-take-le}
use Rattle.pv_account.specs.Groups.{rises}
use Rattle.pv_account.proofs.Rising.{AllByRecursion-take}
use Rattle.pv_account.proofs.groups.Groups.read.Goals as goal

pub invariant_of-result : goal.invariant_of-result
invariant_of-result g c =
    let padded = c.in_ok-numbers.ensures.padded in
    record {
      small = c.requires;
      padded = padded;
      groups = record {
        numbers = AllByRecursion-take _ c.in_ok-count.count c.in_ok-numbers.numbers (search rules);
        fits = omega (
          arith,
          length-take-le c.in_ok-count.count c.in_ok-numbers.numbers (omega (arith, padded.len, padded.fits)),
          padded.fits,
        );
        rises = ap (λ n. rises 0 (take n c.in_ok-numbers.numbers)) (sym c.from.ensures) ∙ sym c.rise.ensures ∙ c.if-rise.true;
      };
    }
