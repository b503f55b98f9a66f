use Rattle.std.{proofs.Common.take, specs.Prelude.flat_map}
use Rattle.pv_frame.proofs.Vocabulary.{Appends, field_bytes}
use Rattle.pv_frame.proofs.frame.put_fields.Given as goal

-- the fields so far are appended
abbrev pub invariant-loop-field : goal.invariant-loop-field
invariant-loop-field l = Appends l.initial.out l.out (flat_map field_bytes (take l.field-index l.fields))
