-- Worked examples: each code, and the reply that an editor gets.
use Rattle.std.proofs.Common.{◌≡◌, refl}
use Rattle.pv_editor.specs.declared.replies.UdcReplyView.TheVariants as views
use Rattle.pv_udc.specs.declared.reply.UdcReply.TheVariants.{Stored, Again}
use Rattle.pv_verdicts.specs.Views.{editor_view}
use Rattle.pv_verdicts.specs.declared.view.TheConstants.{FULL, DISK, MEMORY}

pub codes : (FULL ≡ 14) × (DISK ≡ 15) × (MEMORY ≡ 16)
codes = (refl, refl, refl)

-- a repeated request reads as the new one did
pub repeated : editor_view (Again 7) ≡ editor_view (Stored 7)
repeated = refl

pub stored : editor_view (Stored 7) ≡ views.Stored 7
stored = refl
