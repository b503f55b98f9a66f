-- Lists of records that a centre's judgement made, and the places of what it has applied in them.
use Rattle.std.specs.Prelude.{◌≡◌, ℕ, List, ◌∷◌, ◌++◌, Option, Some, None}
use Rattle.std.specs.List.{filter_map, range_with_len}
use Rattle.pv_outside.specs.declared.limits.Limits.{Limits}
use Rattle.pv_node.specs.declared.decision.Decision.TheVariants.{Store}
use Rattle.pv_irc.specs.History.{centre_state_of}
use Rattle.pv_irc.specs.Deciding.{centre_judgement}
use Rattle.pv_irc.specs.declared.record.CentreRecord.{CentreRecord}
use Rattle.pv_irc.specs.declared.record.CentreRecord.TheVariants.{Applied, LogOn, Kept, Removed}
use Rattle.pv_irc.specs.declared.reply.IrcReply.{IrcReply}
use Rattle.pv_irc.specs.declared.request.IrcRequest.{IrcRequest}

-- after these records, this one is stored on some request
abbrev pub IsStoredAfter : ℕ → Limits → List CentreRecord → CentreRecord → Type 0
IsStoredAfter centre limits before rec =
    (request : IrcRequest) × (reply : IrcReply) × (centre_judgement (centre_state_of centre limits before) request ≡ Store rec reply)

-- each record of the list was stored on some request after the records before it
abbrev pub IsCentreRun : ℕ → Limits → List CentreRecord → Type 0
IsCentreRun centre limits records = (before later : List CentreRecord) (rec : CentreRecord) → records ≡ before ++ rec ∷ later
    → IsStoredAfter centre limits before rec

-- the place in the edit list of what was applied in a record
abbrev pub place_in : CentreRecord → Option ℕ
place_in (Applied n rec) = Some n
place_in (LogOn account) = None
place_in (Kept item) = None
place_in (Removed account number) = None

-- the places of all that was applied, in the order of the list
abbrev pub applied_places : List CentreRecord → List ℕ
applied_places records = filter_map place_in records

-- the places 0, 1, 2 and on, this many
abbrev pub first_places : ℕ → List ℕ
first_places count = range_with_len 0 count
