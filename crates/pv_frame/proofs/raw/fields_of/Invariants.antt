use Rattle.std.proofs.Common.{◌≡◌, map, take}
use Rattle.pv_frame.proofs.Vocabulary.{IsPadded, FIELDS, field_of, no_field}
use Rattle.pv_frame.proofs.raw.fields_of.Given as goal

-- the fields so far are read, and the other places are empty
abbrev pub invariant-loop-i : goal.invariant-loop-i
invariant-loop-i l = record {
  places : IsPadded no_field FIELDS l.i l.fields;
  read : take l.i l.fields ≡ map field_of (take l.i l.chunks);
}
