use Rattle.std.proofs.Common.{sym, ◌∙◌}
use Rattle.pv_post.proofs.Filling.{IsFilledInside-written}
use Rattle.pv_post.proofs.filled.Filled.of_text.Goals as goal

pub invariant_of-result : goal.invariant_of-result
invariant_of-result c =
    rw c.copy_from_slice.ensures.after (
    IsFilledInside-written c.args.text.now (record {
      fits = c.if-text-gt-FILLED_BYTES.false;
      bytes = sym c.are_field_bytes.ensures ∙ c.if-not-are_field_bytes.false;
    }))
