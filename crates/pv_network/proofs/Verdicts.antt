-- What the Update Centre's node answers to a request is the verdict on it.
use Rattle.std.proofs.Common.{◌≡◌, ℕ, Bool, true, false, leb, length, Result, Ok, Err, refl}
use Rattle.pv_edits.specs.declared.record.Record.{Record}
use Rattle.pv_node.specs.declared.decision.Decision.{Decision}
use Rattle.pv_node.specs.declared.decision.Decision.TheVariants.{Answer, Store}
use Rattle.pv_node.specs.declared.decision.Told.{Told}
use Rattle.pv_nodes.specs.Nodes.{told_of, stored_of}
use Rattle.pv_udc.specs.EditList.{EditList}
use Rattle.pv_udc.specs.declared.reply.UdcReply.{UdcReply}
use Rattle.pv_editor.specs.declared.replies.UdcReplyView.{UdcReplyView}
use Rattle.pv_editor.specs.declared.replies.UdcReplyView.TheVariants as replies
use Rattle.pv_verdicts.specs.declared.view.TheConstants.{FULL}
use Rattle.pv_verdicts.specs.Views.{editor_view}
use Rattle.pv_network.specs.Verdict.{verdict_by}

-- the editor's reply to what the node answers
abbrev pub reply_to : Result (Told UdcReply) ℕ → UdcReplyView
reply_to (Ok told) = editor_view told.reply
reply_to (Err count) = replies.Refused FULL count

module _ (u : EditList) where
  -- the node is full
  abbrev is_full : Bool
  is_full = leb u.limits.records (length u.records)

  -- its answer is the reply of the verdict
  pub told_reply : (d : Decision Record UdcReply) → reply_to (told_of u.limits.records (length u.records) d) ≡ (verdict_by u d).reply
  told_reply (Answer reply) = refl
  told_reply (Store edit reply) = by is_full refl
    where
      by : (full : Bool) → is_full ≡ full
          → reply_to (told_of u.limits.records (length u.records) (Store edit reply)) ≡ (verdict_by u (Store edit reply)).reply
      by true is = rw is refl
      by false is = rw is refl

  -- it stores what the verdict stores
  pub stored_same : (d : Decision Record UdcReply) → stored_of u.limits.records (length u.records) d ≡ (verdict_by u d).stored
  stored_same (Answer reply) = refl
  stored_same (Store edit reply) = by is_full refl
    where
      by : (full : Bool) → is_full ≡ full
          → stored_of u.limits.records (length u.records) (Store edit reply) ≡ (verdict_by u (Store edit reply)).stored
      by true is = rw is refl
      by false is = rw is refl
