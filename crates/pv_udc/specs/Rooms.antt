-- A record that is stored is within its ranges, and has room.
use Rattle.std.proofs.Common.{◌≡◌, ℕ, Bool, true, ◌&&◌, List, length, None, refl, subst}
use Rattle.pv_outside.specs.declared.limits.Limits.{Limits}
use Rattle.pv_fields.specs.Refusals.{first_of}
use Rattle.pv_fields.proofs.CallerLemmas.{all_missing, some_if-none, option_map-none_back}
use Rattle.pv_frame.specs.Errors.{error_of}
use Rattle.pv_post.specs.declared.item.Item.{Item}
use Rattle.pv_edits.specs.Record.{IsRecord, IsEditor}
use Rattle.pv_edits.specs.Room.{has_editor, has_room}
use Rattle.pv_edits.specs.declared.room.TheConstants.{MAX_ACCOUNTS, MAX_LEASES}
use Rattle.pv_edits.specs.declared.record.Record.{Record}
use Rattle.pv_edits.specs.declared.wish.EditWish.{EditWish}
use Rattle.pv_edits.specs.declared.wish.EditWish.TheVariants.{Put, Drop, Account, Lease}
use Rattle.pv_node.specs.declared.decision.Decision.TheVariants.{Store}
use Rattle.pv_udc.specs.Requests.{IsWish, IsRequest, edit_of, record_of}
use Rattle.pv_udc.specs.Judgement.{refusals_of, refusal_of, answers_of, judge}
use Rattle.pv_udc.specs.declared.refusal.Refusal.TheVariants.{FramesFull, AccountsFull, BadFrame, LeasesFull}
use Rattle.pv_udc.specs.declared.reply.UdcReply.{UdcReply}
use Rattle.pv_udc.specs.declared.request.UdcRequest.{UdcRequest}
use Rattle.pv_udc.specs.declared.request.UdcRequest.TheVariants.{Edit, TakeUp}
use Rattle.pv_udc.specs.Deciding.{of_not, is_stored, is_done}

-- both hold
both : (one other : Bool) → one ≡ true → other ≡ true → (one && other) ≡ true
both one other is also = rw (is, also) refl

module _ (limits : Limits) (records : List Record) (editor q : ℕ) where
  -- there is room for the record of a wish that is not refused
  room_wished : (wish : EditWish) → has_editor records editor ≡ true → refusal_of limits records editor q wish ≡ None
      → has_room limits records (edit_of editor q wish) ≡ true
  room_wished (Put name frame) known none =
      let missing = all_missing (refusals_of limits records editor q (Put name frame)) none in
      both _ _ known (of_not _ (some_if-none _ (FramesFull limits.frames) missing.1.1.0))
  room_wished (Drop name) known none = known
  room_wished (Account account) known none =
      let missing = all_missing (refusals_of limits records editor q (Account account)) none in
      both _ _ known (of_not _ (some_if-none _ (AccountsFull MAX_ACCOUNTS) missing.1.0))
  room_wished (Lease root account) known none =
      let missing = all_missing (refusals_of limits records editor q (Lease root account)) none in
      both _ _ known (of_not _ (some_if-none _ (LeasesFull MAX_LEASES) missing.1.1.0))

  -- each part of it is within its range
  record_wished : (wish : EditWish) → IsEditor editor q → IsWish wish → refusal_of limits records editor q wish ≡ None
      → IsRecord (edit_of editor q wish)
  record_wished (Put name frame) is ranges none =
      let missing = all_missing (refusals_of limits records editor q (Put name frame)) none in
      (is, (ranges.0, record { holds = ranges.1; valid = option_map-none_back BadFrame (error_of frame) missing.1.1.1.0 }))
  record_wished (Drop name) is ranges none = (is, ranges)
  record_wished (Account account) is ranges none = (is, ranges)
  record_wished (Lease root account) is ranges none = (is, ranges)

module _ (limits : Limits) (records : List Record) where
  -- what a request asks for that is stored
  asked_is : (centre k : ℕ) (item : Item) (edit : Record) (reply : UdcReply)
      → judge limits records (TakeUp centre k item) ≡ Store edit reply
      → record_of (TakeUp centre k item) ≡ edit
  asked_is centre k item edit reply is =
      (is_stored (first_of (answers_of limits records (TakeUp centre k item))) _ edit (length records) reply is).1

  -- there is room for a record that is stored
  pub has_room-judged : (request : UdcRequest) (edit : Record) (reply : UdcReply) → judge limits records request ≡ Store edit reply
      → has_room limits records edit ≡ true
  has_room-judged (Edit editor q wish) edit reply is =
      let done = is_done limits records editor q wish edit reply is in
      subst (λ e. has_room limits records e ≡ true) done.edit_is
      (room_wished limits records editor q wish done.has_account done.not_refused)
  has_room-judged (TakeUp centre k item) edit reply is =
      subst (λ e. has_room limits records e ≡ true) (asked_is centre k item edit reply is) refl

  -- it is within its ranges if the request is within its own
  pub has_room-stored : (request : UdcRequest) (edit : Record) (reply : UdcReply) → IsRequest request
      → judge limits records request ≡ Store edit reply → IsRecord edit × (has_room limits records edit ≡ true)
  has_room-stored (Edit editor q wish) edit reply ranges is =
      let done = is_done limits records editor q wish edit reply is in (
        subst IsRecord done.edit_is (record_wished limits records editor q wish ranges.0 ranges.1 done.not_refused),
        has_room-judged (Edit editor q wish) edit reply is,
      )
  has_room-stored (TakeUp centre k item) edit reply ranges is =
      (subst IsRecord (asked_is centre k item edit reply is) ranges, has_room-judged (TakeUp centre k item) edit reply is)
