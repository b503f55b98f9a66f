-- A byte that leaves what a caller is asked for.
use Rattle.std.proofs.Common.{◌≡◌, ℕ, ◌+◌, Bool, true, false, cond, refl}
use Rattle.pv_session.specs.Entries.{leaves_mode}
use Rattle.pv_session.specs.Filling.{browsing_call}
use Rattle.pv_session.specs.State.{CallState}
use Rattle.pv_session.specs.Turns.{reading_call}

-- it may be counted before it leaves or after
pub left_counted : (call : CallState) (byte : ℕ) → reading_call (record call { bytes = call.bytes + 1 }) byte
    ≡ record (reading_call call byte) { bytes = (reading_call call byte).bytes + 1 }
left_counted call byte = by (leaves_mode call.mode byte)
  where
    by : (leaves : Bool) → cond leaves (browsing_call (record call { bytes = call.bytes + 1 })) (record call { bytes = call.bytes + 1 })
        ≡ record (cond leaves (browsing_call call) call) { bytes = (cond leaves (browsing_call call) call).bytes + 1 }
    by true = refl
    by false = refl
