use Rattle.std.proofs.Common.{◌≡◌, length, rules, arith, sym, ◌∙◌}
use Rattle.pv_post.proofs.Filling.{IsFilledInside-written}
use Rattle.pv_post.proofs.filled.Filled.read.Goals as goal

pub invariant_of-result : goal.invariant_of-result
invariant_of-result c =
    let text = c.run.new.into in
    let len : length text ≡ c.in_ok-length.length = search rules in
    rw (c.from.ensures, ← len) (
    IsFilledInside-written text (record {
      fits = omega (arith, len, c.in_ok-length.ensures.range);
      bytes = sym c.are_field_bytes.ensures ∙ c.if-are_field_bytes.true;
    }))
