use Rattle.std.proofs.{Common.{refl, arith}, lemmas.Grind.common_steps}
use Rattle.pv_fields.proofs.CallerLemmas.{room_for_one}
use Rattle.pv_frame.specs.Codes.{field_bytes}
use Rattle.pv_frame.proofs.frame.put_fields.Goals as goal

pub put_run-requires : goal.put_run-requires
put_run-requires c = grind (arith, common_steps, room_for_one 4 field_bytes (λ _. refl) c.args.fields.now c.loop-field.field-index)
