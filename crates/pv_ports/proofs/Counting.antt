-- The records that a pass counts in a session are those that its edits stored.
use Rattle.std.proofs.Common.{◌≡◌, ℕ, ◌+◌, List, [], ◌∷◌, Option, Some, None, is_some, MatchOption, if◌then◌else◌, ap, arith}
use Rattle.std.specs.Prelude.{Ok, Err}
use Rattle.pv_outside.specs.declared.limits.Limits.{Limits}
use Rattle.pv_node.specs.declared.rules.Rules as rules
use Rattle.pv_edits.specs.declared.record.Record.{Record}
use Rattle.pv_edits.specs.declared.wish.EditWish.{EditWish}
use Rattle.pv_editor.specs.declared.seat.EditorSeat.{EditorSeat}
use Rattle.pv_live.specs.Asking.{HasAnswered, HasStoredFor}
use Rattle.pv_live.specs.Pass.{Standing}
use Rattle.pv_live.specs.declared.fault.LiveFault.TheVariants as faults
use Rattle.pv_udc.specs.EditList.{EditList}
use Rattle.pv_udc.specs.declared.reply.UdcReply.{UdcReply}
use Rattle.pv_udc.specs.declared.request.UdcRequest.{UdcRequest}
use Rattle.pv_ports.specs.Session.{AskResult, Exchange, Said, Left, Judged, Traffic, IsJudged, IsSession, ask_count, stored_by_ask, disk_faults_by_ask}

module _ {S : Type 0} (r : rules.Ghosts S EditList UdcRequest Record UdcReply) (limits : Limits) (opening : List Record) where
  told_by : (place : Option ℕ) (request : UdcRequest) (old new : Standing Record) (reply : UdcReply)
      → MatchOption place (HasAnswered r limits opening request old new reply) (HasStoredFor r limits opening request old new reply)
      → new.told ≡ old.told + (if is_some place then 1 else 0)
  told_by None request old new reply is = omega (arith, is.told)
  told_by (Some place) request old new reply is = omega (arith, is.told)

  told_ask : (verdict : AskResult) (editor q : ℕ) (wish : EditWish) (old new : Standing Record)
      → IsJudged r limits opening editor q wish old verdict new → new.told ≡ old.told + stored_by_ask verdict
  told_ask (Ok told) editor q wish old new is = told_by told.number _ old new told.reply is.comes.0
  told_ask (Err (faults.Memory None)) editor q wish old new is = omega (arith, is.comes.0)
  told_ask (Err (faults.Memory (Some place))) editor q wish old new is = omega (arith, is.comes.0)
  told_ask (Err (faults.Disk failure)) editor q wish old new is = omega (arith, is.comes.0)
  told_ask (Err (faults.Full count)) editor q wish old new is = omega (arith, is.comes.0)

  failed_ask : (verdict : AskResult) (editor q : ℕ) (wish : EditWish) (old new : Standing Record)
      → IsJudged r limits opening editor q wish old verdict new → new.failed ≡ old.failed + disk_faults_by_ask verdict
  failed_ask (Ok told) editor q wish old new is = omega (arith, is.comes.1)
  failed_ask (Err (faults.Memory None)) editor q wish old new is = omega (arith, is.comes.1)
  failed_ask (Err (faults.Memory (Some place))) editor q wish old new is = omega (arith, is.comes.1)
  failed_ask (Err (faults.Disk failure)) editor q wish old new is = omega (arith, is.comes.1)
  failed_ask (Err (faults.Full count)) editor q wish old new is = omega (arith, is.comes.1)

  pub told_session : (happened : List Exchange) (start pass : Standing Record) (seat : EditorSeat) (said : Traffic)
      → IsSession r limits opening happened start pass seat said → pass.told ≡ start.told + ask_count stored_by_ask happened
  told_session [] start pass seat said is = omega (arith, ap (λ (p : Standing Record). p.told) is.0)
  told_session (Said line reply ∷ earlier) start pass seat said is =
      omega (arith, told_session earlier start is.0 is.1 is.2 is.3, ap (λ (p : Standing Record). p.told) is.7.looks.same)
  told_session (Left line ∷ earlier) start pass seat said is =
      omega (arith, told_session earlier start is.0 is.1 is.2 is.3, ap (λ (p : Standing Record). p.told) is.7.looks.same)
  told_session (Judged line verdict ∷ earlier) start pass seat said is =
      omega (
        arith,
        told_session earlier start is.0 is.1 is.2 is.3,
        ap (λ (p : Standing Record). p.told) is.7.takes.looks.same,
        told_ask verdict is.7.editor is.7.q is.7.wish is.7.looked pass is.7.judged,
      )

  pub failed_session : (happened : List Exchange) (start pass : Standing Record) (seat : EditorSeat) (said : Traffic)
      → IsSession r limits opening happened start pass seat said → pass.failed ≡ start.failed + ask_count disk_faults_by_ask happened
  failed_session [] start pass seat said is = omega (arith, ap (λ (p : Standing Record). p.failed) is.0)
  failed_session (Said line reply ∷ earlier) start pass seat said is =
      omega (arith, failed_session earlier start is.0 is.1 is.2 is.3, ap (λ (p : Standing Record). p.failed) is.7.looks.same)
  failed_session (Left line ∷ earlier) start pass seat said is =
      omega (arith, failed_session earlier start is.0 is.1 is.2 is.3, ap (λ (p : Standing Record). p.failed) is.7.looks.same)
  failed_session (Judged line verdict ∷ earlier) start pass seat said is =
      omega (
        arith,
        failed_session earlier start is.0 is.1 is.2 is.3,
        ap (λ (p : Standing Record). p.failed) is.7.takes.looks.same,
        failed_ask verdict is.7.editor is.7.q is.7.wish is.7.looked pass is.7.judged,
      )
