use Rattle.std.proofs.Common.{◌<◌, Result, Ok, Err, List, ℕ, length, refl}
use Rattle.std.specs.Prelude.{OnOk, IsErr}
use Rattle.pv_fields.specs.Out.{Appends, Puts, room_of}
use Rattle.pv_fields.specs.declared.writing.Out.{Out}
use Rattle.pv_fields.proofs.CallerLemmas.{puts_then}
use Rattle.pv_edits.specs.Record.{put_bytes}
use Rattle.pv_edits.proofs.parts.put_frame.Goals as goal

-- a call that appends, or has no room
puts_from : {T E : Type 0} (old new : Out) (bytes : List ℕ) (result : Result T E) → OnOk result (Appends old new bytes)
    → (IsErr result → room_of old < length bytes) → Puts result old new bytes
puts_from old new bytes (Ok x) ok refused = ok
puts_from old new bytes (Err e) ok refused = refused refl

pub returns : goal.returns
unfolding put_bytes
returns c =
    rw (← c.frame.ensures.value) (
    puts_then _ _ _ c.in_ok-put_editor.ensures (puts_then _ _ _ c.in_ok-put.ensures (puts_from _ _ _ c.encode.result
    c.encode.ensures.ok c.encode.ensures.refused.0)))
