-- What the Update Centre's reply is to an editor.
use Rattle.pv_editor.specs.declared.replies.UdcReplyView.{UdcReplyView}
use Rattle.pv_editor.specs.declared.replies.UdcReplyView.TheVariants as views
use Rattle.pv_udc.specs.declared.reply.UdcReply.{UdcReply}
use Rattle.pv_udc.specs.declared.reply.UdcReply.TheVariants.{Stored, Again, Old, Early, Refused}

-- the reply as an editor gets it, the same to a repeated request as to a new one; the replies to items go to no editor
abbrev pub editor_view : UdcReply → UdcReplyView
editor_view (Stored place) = views.Stored place
editor_view (Again place) = views.Stored place
editor_view (Refused code) = views.Refused code.code code.shown
editor_view (Old count) = views.Stored count
editor_view (Early count) = views.Stored count
