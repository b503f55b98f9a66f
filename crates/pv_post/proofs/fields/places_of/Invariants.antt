use Rattle.std.proofs.Common.{◌≡◌, [], take, All}
use Rattle.pv_fields.specs.Padded.{IsPadded}
use Rattle.pv_post.specs.Item.{IsFilled}
use Rattle.pv_post.specs.declared.fields.TheConstants.{MAX_FIELDS}
use Rattle.pv_post.proofs.fields.places_of.Given as goal

-- the fields so far are copied
abbrev pub invariant-loop-i : goal.invariant-loop-i
invariant-loop-i l = record {
  padded : IsPadded [] MAX_FIELDS l.i l.places;
  same : take l.i l.places ≡ take l.i l.list;
  filled : All IsFilled (take l.i l.list);
}
