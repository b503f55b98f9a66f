-- The laws of a centre's rules.
use Rattle.std.proofs.Common.{◌≡◌, ℕ, ◌+◌, Bool, true, false, not, List, [], ◌∷◌, ◌++◌, length, Option, Some, None, refl, ap, sym, subst, ◌∙◌}
use Rattle.pv_fields.specs.Refusals.{first_of}
use Rattle.pv_fields.proofs.CallerLemmas.{all_missing, some_if-none}
use Rattle.pv_journal.specs.Text.{IsBody}
use Rattle.pv_post.specs.Boxes.{has_letter}
use Rattle.pv_edits.specs.declared.down.DownRecord.{DownRecord}
use Rattle.pv_node.specs.declared.decision.Decision.{Decision}
use Rattle.pv_node.specs.declared.decision.Decision.TheVariants.{Answer, Store}
use Rattle.pv_irc.specs.Record.{IsCentreRecord, centre_bytes, centre_record_at}
use Rattle.pv_irc.specs.History.{CentreState, centre_state_of, letters_for, state_count, with_centre_record}
use Rattle.pv_irc.specs.Deciding.{IsCentreRequest, down_fits, centre_has_room, reasons_against, applied_unless, removed_if, centre_judgement}
use Rattle.pv_irc.specs.Growing.{grown, counted_state, record_count-with, limits-with}
use Rattle.pv_irc.specs.Lengths.{IsBody-centre}
use Rattle.pv_irc.specs.Reading.{Reads-centre}
use Rattle.pv_irc.specs.declared.record.CentreRecord.{CentreRecord}
use Rattle.pv_irc.specs.declared.record.CentreRecord.TheVariants as records
use Rattle.pv_irc.specs.declared.reply.IrcReply.{IrcReply}
use Rattle.pv_irc.specs.declared.reply.IrcReply.TheVariants.{NoRoom}
use Rattle.pv_irc.specs.declared.request.IrcRequest.{IrcRequest}
use Rattle.pv_irc.specs.declared.request.IrcRequest.TheVariants.{Apply, LogOn, Keep, Remove}

-- a spelling is a body of a journal
pub sized : (rec : CentreRecord) → IsCentreRecord rec → IsBody (centre_bytes rec)
sized = IsBody-centre

-- the record that was read, or this one
abbrev read_or : CentreRecord → Option (CentreRecord × List ℕ) → CentreRecord
read_or other None = other
read_or other (Some read) = read.0

-- a spelling has one meaning
pub one_meaning : (one other : CentreRecord) → IsCentreRecord one → IsCentreRecord other
    → centre_bytes one ≡ centre_bytes other → one ≡ other
one_meaning one other is_one is_other same =
    ap (read_or one) (sym (Reads-centre.again one [] refl is_one) ∙ ap (λ bytes. centre_record_at (bytes ++ [])) same
    ∙ Reads-centre.again other [] refl is_other)

-- ---- what is stored

-- nothing is stored
abbrev IsAnswer : Decision CentreRecord IrcReply → Type 0
IsAnswer (Answer reply) = Unit {0}
IsAnswer (Store rec reply) = ⊥

-- the record that is stored, or this one
abbrev pub stored_or : CentreRecord → Decision CentreRecord IrcReply → CentreRecord
stored_or other (Answer reply) = other
stored_or other (Store rec reply) = rec

-- what is known of what came down and is stored: its record is stored, and nothing stands against it
pub is_applied : (reason : Option IrcReply) (n : ℕ) (down : DownRecord) (rec : CentreRecord) (reply : IrcReply)
    → applied_unless reason n down ≡ Store rec reply → (reason ≡ None) × (records.Applied n down ≡ rec)
is_applied None n down rec reply is = (refl, ap (stored_or rec) is)
is_applied (Some other) n down rec reply is = absurd (subst IsAnswer is tt)

-- what is known of a removal that is stored: its record is stored
pub is_removed : (waits : Bool) (account number : ℕ) (rec : CentreRecord) (reply : IrcReply)
    → removed_if waits account number ≡ Store rec reply
    → records.Removed account number ≡ rec
is_removed true account number rec reply is = ap (stored_or rec) is
is_removed false account number rec reply is = absurd (subst IsAnswer is tt)

-- a test whose negation fails holds
of_not : (test : Bool) → not test ≡ false → test ≡ true
of_not true is = refl
of_not false is = absurd cc

-- it has room
has_room_down : (state : CentreState) (n : ℕ) (down : DownRecord) → first_of (reasons_against state n down) ≡ None
    → down_fits state down ≡ true
has_room_down state n down none =
    let missing = all_missing (reasons_against state n down) none in
    of_not (down_fits state down) (some_if-none _ (NoRoom state.applied) missing.1.1.0)

-- a record that is stored is within its ranges and has room
pub stored : (state : CentreState) (request : IrcRequest) (rec : CentreRecord) (reply : IrcReply) → IsCentreRequest request
    → centre_judgement state request ≡ Store rec reply → IsCentreRecord rec × (centre_has_room state rec ≡ true)
stored state (Apply n down) rec reply ranges is =
    let one = is_applied (first_of (reasons_against state n down)) n down rec reply is in
    subst (λ r. IsCentreRecord r × (centre_has_room state r ≡ true)) one.1 (ranges, has_room_down state n down one.0)
stored state (LogOn account) rec reply ranges is =
    subst (λ r. IsCentreRecord r × (centre_has_room state r ≡ true)) (ap (stored_or rec) is) (ranges, refl)
stored state (Keep item) rec reply ranges is =
    subst (λ r. IsCentreRecord r × (centre_has_room state r ≡ true)) (ap (stored_or rec) is) (ranges, refl)
stored state (Remove account number) rec reply ranges is =
    subst (λ r. IsCentreRecord r × (centre_has_room state r ≡ true))
    (is_removed (has_letter (letters_for state account) number) account number rec reply is)
    (ranges, refl)

-- ---- what a state stands for

-- the state is that of these records
abbrev Stands : ℕ → CentreState → List CentreRecord → Type 0
Stands centre state records = state ≡ centre_state_of centre state.limits records

-- with one record more, it is that of one record more
pub grows : (centre : ℕ) (state : CentreState) (records : List CentreRecord) (rec : CentreRecord) → Stands centre state records
    → Stands centre (with_centre_record state rec) (records ++ rec ∷ [])
grows centre state records rec is =
    ap (λ s. with_centre_record s rec) is ∙ grown centre state.limits records rec
    ∙ ap (λ limits. centre_state_of centre limits (records ++ rec ∷ [])) (sym (limits-with state rec))

-- states of the same records and limits are the same
one_state : (centre : ℕ) (one other : CentreState) (records : List CentreRecord) → Stands centre one records
    → Stands centre other records → one.limits ≡ other.limits → one ≡ other
one_state centre one other records is also limits = is ∙ ap (λ l. centre_state_of centre l records) limits ∙ sym also

-- so they have the same room
pub same_room : (centre : ℕ) (one other : CentreState) (records : List CentreRecord) (rec : CentreRecord) → Stands centre one records
    → Stands centre other records → one.limits ≡ other.limits → centre_has_room one rec ≡ true → centre_has_room other rec ≡ true
same_room centre one other records rec is also limits room =
    subst (λ s. centre_has_room s rec ≡ true) (one_state centre one other records is also limits) room

-- and they judge alike
pub judged_alike : (centre : ℕ) (one other : CentreState) (records : List CentreRecord) (request : IrcRequest)
    → Stands centre one records → Stands centre other records → one.limits ≡ other.limits
    → centre_judgement one request ≡ centre_judgement other request
judged_alike centre one other records request is also limits =
    ap (λ s. centre_judgement s request) (one_state centre one other records is also limits)

-- a state has taken in as many records as it stands for
pub counted : (centre : ℕ) (state : CentreState) (records : List CentreRecord) → Stands centre state records
    → state_count state ≡ length records
counted centre state records is = ap state_count is ∙ counted_state centre state.limits records

-- and one more with each
pub counts_on : (state : CentreState) (rec : CentreRecord) → state_count (with_centre_record state rec) ≡ state_count state + 1
counts_on = record_count-with

-- its limits stay
pub limits_stay : (state : CentreState) (rec : CentreRecord) → (with_centre_record state rec).limits ≡ state.limits
limits_stay = limits-with
