-- What the Update Centre makes of an editor's request: the record that it stores, and its reply.
use Rattle.std.specs.Prelude.{nat_le, if◌then◌else◌, Option, Some, None, length}
use Rattle.pv_edits.specs.declared.record.Record.{Record}
use Rattle.pv_node.specs.declared.decision.Decision.{Decision}
use Rattle.pv_node.specs.declared.decision.Decision.TheVariants.{Answer, Store}
use Rattle.pv_udc.specs.EditList.{EditList}
use Rattle.pv_udc.specs.Judgement.{judge}
use Rattle.pv_udc.specs.declared.reply.UdcReply.{UdcReply}
use Rattle.pv_udc.specs.declared.reply.UdcReply.TheVariants.{Stored, Again, Old, Early, Refused}
use Rattle.pv_udc.specs.declared.request.UdcRequest.{UdcRequest}
use Rattle.pv_editor.specs.declared.replies.UdcReplyView.{UdcReplyView}
use Rattle.pv_editor.specs.declared.replies.UdcReplyView.TheVariants as told
use Rattle.pv_network.specs.declared.arrival.Arrival.{Arrival}
use Rattle.pv_network.specs.declared.arrival.Arrival.TheVariants as arrivals
use Rattle.pv_verdicts.specs.Views.{editor_view}
use Rattle.pv_verdicts.specs.declared.view.TheConstants.{FULL}

-- the record that is stored, if one is, and the editor's reply
pub record Verdict : Type 0 where
  pub stored : Option Record
  pub reply : UdcReplyView

-- the verdict of a decision: a record that is one too many is refused after all
abbrev pub verdict_by : EditList → Decision Record UdcReply → Verdict
verdict_by u (Answer reply) = record { stored = None; reply = editor_view reply }
verdict_by u (Store edit reply) =
    if nat_le u.limits.records (length u.records) then record { stored = None; reply = told.Refused FULL (length u.records) }
    else record { stored = Some edit; reply = editor_view reply }

-- the verdict on a request
abbrev pub verdict_of : EditList → UdcRequest → Verdict
verdict_of u request = verdict_by u (judge u.limits u.records request)

-- ---- items

-- what was done with an item, by the reply to it: an item is never repeated to an editor, nor refused
abbrev pub item_arrival : UdcReply → Arrival
item_arrival (Stored place) = arrivals.Taken
item_arrival (Old count) = arrivals.Old
item_arrival (Early count) = arrivals.Early
item_arrival (Again place) = arrivals.Old
item_arrival (Refused code) = arrivals.Early

-- the record that is stored with it, if it is taken
abbrev pub stored_on : Arrival → Record → Option Record
stored_on arrivals.Taken edit = Some edit
stored_on _ edit = None
