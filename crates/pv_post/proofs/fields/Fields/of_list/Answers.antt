use Rattle.pv_post.proofs.fields.Fields.of_list.Goals as goal

pub invariant_of-result : goal.invariant_of-result
invariant_of-result c = record {
  padded = c.places_of.ensures.padded;
  fields = rw c.places_of.ensures.same (record {
    filled = c.places_of.ensures.filled;
    some = c.if-count-lt1.false;
    fit = c.if-count-gt-MAX_FIELDS.false;
  });
}
