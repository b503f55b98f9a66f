-- Edit lists that the judgement made, and the numbers of an editor's edits in them.
use Rattle.std.specs.Prelude.{◌≡◌, ℕ, List, ◌∷◌, ◌++◌, Option, None, if◌then◌else◌}
use Rattle.std.specs.List.{filter_map, range_with_len}
use Rattle.pv_outside.specs.declared.limits.Limits.{Limits}
use Rattle.pv_edits.specs.Edits.{is_edit_of, number_in}
use Rattle.pv_edits.specs.declared.record.Record.{Record}
use Rattle.pv_node.specs.declared.decision.Decision.TheVariants.{Store}
use Rattle.pv_udc.specs.Judgement.{judge}
use Rattle.pv_udc.specs.declared.reply.UdcReply.{UdcReply}
use Rattle.pv_udc.specs.declared.request.UdcRequest.{UdcRequest}

-- at these records, this one is stored on some request
abbrev pub IsStoredAt : Limits → List Record → Record → Type 0
IsStoredAt limits before edit = (request : UdcRequest) × (reply : UdcReply) × (judge limits before request ≡ Store edit reply)

-- each record of the list was stored on some request at the records before it
abbrev pub IsJudgedRun : Limits → List Record → Type 0
IsJudgedRun limits records = (before later : List Record) (edit : Record) → records ≡ before ++ edit ∷ later → IsStoredAt limits before edit

-- the number of a record, if it is this editor's edit
abbrev pub number_by : ℕ → Record → Option ℕ
number_by editor edit = if is_edit_of editor edit then number_in edit else None

-- the numbers of an editor's edits, in the order of the list
abbrev pub numbers_of : ℕ → List Record → List ℕ
numbers_of editor records = filter_map (number_by editor) records

-- the numbers 1, 2, 3 and on, this many
abbrev pub from_one : ℕ → List ℕ
from_one count = range_with_len 1 count
