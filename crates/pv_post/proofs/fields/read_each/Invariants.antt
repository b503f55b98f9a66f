use Rattle.std.proofs.Common.{◌≡◌, ◌-◌, [], take, All}
use Rattle.pv_fields.specs.Padded.{IsPadded}
use Rattle.pv_fields.specs.Reading.{times, with_prefix}
use Rattle.pv_post.specs.Item.{filled_at, IsFilled}
use Rattle.pv_post.specs.declared.fields.TheConstants.{MAX_FIELDS}
use Rattle.pv_post.proofs.fields.read_each.Given as goal

-- the fields so far are read, and the others will be
abbrev pub invariant-loop-i : goal.invariant-loop-i
invariant-loop-i l = record {
  padded : IsPadded [] MAX_FIELDS l.i l.places;
  filled : All IsFilled (take l.i l.places);
  read : with_prefix (take l.i l.places) (times filled_at (l.count - l.i) l.from) ≡ times filled_at l.count l.initial.from;
}
