-- The laws of the Update Centre's rules. A law of a trait cites specs alone, so that what it rests on stands here too, and in Deciding,
-- Rooms and Sizes.
use Rattle.std.proofs.Common.{◌≡◌, ℕ, ◌+◌, ◌<◌, true, List, [], ◌∷◌, ◌++◌, length, Option, Some, None, refl, ap, sym, ◌∙◌, arith}
use Rattle.std.proofs.lemmas.List.{length-append}
use Rattle.pv_journal.specs.Text.{IsBody}
use Rattle.pv_edits.specs.Record.{IsRecord, record_bytes, record_at}
use Rattle.pv_edits.specs.Room.{has_room}
use Rattle.pv_edits.specs.declared.record.Record.{Record}
use Rattle.pv_edits.proofs.CallerLemmas.{Reads-record}
use Rattle.pv_node.specs.declared.decision.Decision.TheVariants.{Store}
use Rattle.pv_udc.specs.EditList.{EditList, with_record}
use Rattle.pv_udc.specs.Requests.{IsRequest}
use Rattle.pv_udc.specs.Judgement.{judge}
use Rattle.pv_udc.specs.declared.reply.UdcReply.{UdcReply}
use Rattle.pv_udc.specs.declared.request.UdcRequest.{UdcRequest}
use Rattle.pv_udc.specs.Rooms.{has_room-stored}
use Rattle.pv_udc.specs.Sizes.{IsBody-record}

-- a spelling is a body of a journal
pub sized : (edit : Record) → IsRecord edit → IsBody (record_bytes edit)
sized = IsBody-record

-- the record of what was read, or this one
abbrev read_or : Record → Option (Record × List ℕ) → Record
read_or other None = other
read_or other (Some read) = read.0

-- a spelling has one meaning
pub one_meaning : (one other : Record) → IsRecord one → IsRecord other → record_bytes one ≡ record_bytes other → one ≡ other
one_meaning one other is_one is_other same =
    ap (read_or one) (sym (Reads-record.again one [] refl is_one) ∙ ap (λ bytes. record_at (bytes ++ [])) same
    ∙ Reads-record.again other [] refl is_other)

-- a record that is stored is within its ranges and has room
pub stored : (list : EditList) (request : UdcRequest) (edit : Record) (reply : UdcReply) → IsRequest request
    → judge list.limits list.records request ≡ Store edit reply
    → IsRecord edit × (has_room list.limits list.records edit ≡ true)
stored list request edit reply ranges is = has_room-stored list.limits list.records request edit reply ranges is

-- with one record more, a list stands for one record more
pub grows : (list : EditList) (records : List Record) (edit : Record) → list.records ≡ records → IsRecord edit
    → has_room list.limits list.records edit ≡ true → length records < list.limits.records
    → (with_record list edit).records ≡ records ++ edit ∷ []
grows list records edit is ranges room within = ap (λ l. l ++ edit ∷ []) is

-- lists of the same records and limits have the same room
pub same_room : (one other : EditList) (records : List Record) (edit : Record) → one.records ≡ records → other.records ≡ records
    → one.limits ≡ other.limits → has_room one.limits one.records edit ≡ true → has_room other.limits other.records edit ≡ true
same_room one other records edit is also limits room =
    let same : one.records ≡ other.records = is ∙ sym also in
    sym (λ i. has_room (limits i) (same i) edit) ∙ room

-- and they judge alike
pub judged_alike : (one other : EditList) (records : List Record) (request : UdcRequest) → one.records ≡ records → other.records ≡ records
    → one.limits ≡ other.limits → IsRequest request
    → judge one.limits one.records request ≡ judge other.limits other.records request
judged_alike one other records request is also limits ranges =
    let same : one.records ≡ other.records = is ∙ sym also in
    λ i. judge (limits i) (same i) request

-- one record more is counted
pub counts_on : (list : EditList) (edit : Record) (place : ℕ) → length (with_record list edit).records ≡ length list.records + 1
counts_on list edit place = omega (arith, length-append list.records (edit ∷ []))
