-- Which edits of a tape a run asks for, and how their asking ends.
use Rattle.std.specs.Prelude.{◌≡◌, ◌⊎◌, ℕ, ◌+◌, ◌-◌, ◌<◌, ◌≤◌, ◌==◌, nat_le, List, [], ◌∷◌, ◌++◌, length, take, drop, Option, Some, None}
use Rattle.std.specs.Prelude.{if◌then◌else◌}
use Rattle.pv_outside.specs.Counts.{Rose}
use Rattle.pv_outside.specs.declared.reports.Reports as reports
use Rattle.pv_journal.specs.Journal.{LeavesOnly}
use Rattle.pv_edits.specs.declared.record.Record.{Record}
use Rattle.pv_edits.specs.Owner.{owner_of}
use Rattle.pv_edits.specs.declared.wish.EditWish.{EditWish}
use Rattle.pv_edits.specs.declared.wish.EditWish.TheVariants as wishes
use Rattle.pv_node.specs.Parts.{Parts}
use Rattle.pv_node.specs.Standing.{Stands, StandsFor, KeepsAll}
use Rattle.pv_node.specs.declared.decision.Decision.{Decision}
use Rattle.pv_node.specs.declared.decision.Decision.TheVariants.{Answer, Store}
use Rattle.pv_node.specs.declared.rules.Rules as rules
use Rattle.pv_udc.specs.EditList.{EditList}
use Rattle.pv_udc.specs.Codes.{code_number, shown_number}
use Rattle.pv_udc.specs.Judgement.{last_edit, next_number, judge}
use Rattle.pv_udc.specs.Requests.{edit_of}
use Rattle.pv_udc.specs.declared.refusal.Refusal.{Refusal}
use Rattle.pv_udc.specs.declared.refusal.Refusal.TheVariants.{NotOwner, BadNumber}
use Rattle.pv_udc.specs.declared.reply.UdcReply.{UdcReply}
use Rattle.pv_udc.specs.declared.reply.UdcReply.TheVariants as replies
use Rattle.pv_udc.specs.declared.request.UdcRequest.{UdcRequest}
use Rattle.pv_udc.specs.declared.request.UdcRequest.TheVariants.{Edit}
use Rattle.pv_editor.specs.Say.{number_of_last}
use Rattle.pv_tape.specs.Tape.{TapeEdit, wish_on_line, working_after}
use Rattle.pv_tape.specs.declared.end.TapeEnd.{TapeEnd}
use Rattle.pv_tape.specs.declared.end.TapeEnd.TheVariants.{Done, Refused, Full, DiskFault}
use Rattle.pv_tape.specs.declared.head.Head.{Head}
use Rattle.pv_tape.specs.declared.line.TapeLine.{TapeLine}
use Rattle.pv_tape.specs.declared.progress.Numbers.{Numbers}
use Rattle.pv_tape.specs.declared.progress.Progress.{Progress}

-- ---- the records of a tape

-- an account's last number
abbrev pub last_number_of : List Record → ℕ → ℕ
last_number_of records account = number_of_last (last_edit records account)

-- the records of edits, whose numbers are counted on from this one
abbrev pub edit_records : ℕ → ℕ → List TapeEdit → List Record
edit_records account q [] = []
edit_records account q (edit ∷ later) = edit_of account q edit.wish ∷ edit_records account (q + 1) later

-- those of them whose numbers are above this last one
abbrev pub records_above : ℕ → ℕ → ℕ → List TapeEdit → List Record
records_above last account q edits = drop (last + 1 - q) (edit_records account q edits)

-- what a run of a tape asks for at these records: the edits whose numbers are above the account's last
abbrev pub wanted_records : List Record → Head → List TapeEdit → List Record
wanted_records records head edits = records_above (last_number_of records head.account) head.account head.first edits

-- why an edit is refused whose number is above the account's next: its page is another's, or the number is not the next
abbrev pub refusal_ahead : List Record → ℕ → EditWish → Refusal
refusal_ahead records account (wishes.Put name frame) =
    if owner_of records name.page == account then BadNumber (next_number records account) else NotOwner
refusal_ahead records account (wishes.Drop name) =
    if owner_of records name.page == account then BadNumber (next_number records account) else NotOwner
refusal_ahead records account wish = BadNumber (next_number records account)

-- ---- one line

-- what is asked for if this edit comes next
abbrev pub asked_records : ℕ → Numbers → EditWish → List Record
asked_records account n wish = if nat_le n.next n.last then [] else edit_of account n.next wish ∷ []

-- how far the numbers are after an edit
abbrev pub numbers_after_edit : Numbers → Numbers
numbers_after_edit n = if nat_le n.next n.last
    then record { next = n.next + 1; last = n.last; stored = n.stored }
    else record { next = n.next + 1; last = n.next; stored = n.stored + 1 }

-- and if there may be none
abbrev pub numbers_after_wish : Numbers → Option EditWish → Numbers
numbers_after_wish n None = n
numbers_after_wish n (Some wish) = numbers_after_edit n

abbrev pub asked_by_wish : ℕ → Numbers → Option EditWish → List Record
asked_by_wish account n None = []
asked_by_wish account n (Some wish) = asked_records account n wish

-- how far a run is after a line
abbrev pub progress_after : Progress → TapeLine → Progress
progress_after p line = record {
  working = working_after p.working line;
  line = p.line + 1;
  numbers = numbers_after_wish p.numbers (wish_on_line p.working line);
}

-- what a line asks for
abbrev pub asked_by_line : ℕ → Progress → TapeLine → List Record
asked_by_line account p line = asked_by_wish account p.numbers (wish_on_line p.working line)

-- a line further, and at most an edit
pub record IsLineOn (old new : Progress) : Type 0 where
  pub line : new.line ≡ old.line + 1
  pub next : new.numbers.next ≤ old.numbers.next + 1
  pub stored : new.numbers.stored + old.numbers.next ≤ old.numbers.stored + new.numbers.next

-- ---- the node

-- the judgement is that something is stored
abbrev pub IsToStore : {Rec Reply : Type 0} → Decision Rec Reply → Type 0
IsToStore (Answer reply) = ⊥
IsToStore (Store rec reply) = Unit {0}

-- the edit under this number is to be stored at a node
abbrev pub CanAsk : {D : Type 0} → Parts D EditList Record → ℕ → ℕ → EditWish → Type 0
CanAsk node account q wish = IsToStore (judge node.state.limits node.state.records (Edit account q wish))

module _ {S D : Type 0} (r : rules.Ghosts S EditList UdcRequest Record UdcReply) (g : reports.Ghosts D)
    (old new : Parts D EditList Record) where
  -- whatever records the node stood for, it stands for these after them now
  abbrev pub GainsAll : List Record → Type 0
  GainsAll more = (records : List Record) → StandsFor r g old records → StandsFor r g new (records ++ more)

  -- a crash at any moment leaves the records that there were and a prefix of these
  abbrev pub LeavesPrefix : List Record → Type 0
  LeavesPrefix more = (records : List Record) → StandsFor r g old records
      → LeavesOnly g old.journal.disk new.journal.disk (λ image. (n : ℕ) × Stands r image (records ++ take n more))

  -- why an edit that was asked for is not stored: it was refused, or there are as many records as the limit, and nothing has
  -- changed; or a call of the disk failed, and it is in hand
  abbrev pub IsAskEnd : {F : Type 0} → ℕ → ℕ → ℕ → EditWish → TapeEnd D F → Type 0
  IsAskEnd account line q wish (Refused refused code shown) = (new ≡ old) × (refused ≡ line)
      × (judge old.state.limits old.state.records (Edit account q wish) ≡ Answer (replies.Refused (record { code = code; shown = shown })))
  IsAskEnd account line q wish (Full count) = (new ≡ old) × (count ≡ old.state.limits.records) × CanAsk old account q wish
  IsAskEnd account line q wish (DiskFault failure) = KeepsAll r g old new × (new.hand ≡ Some (edit_of account q wish))
      × Rose (g.faults old.journal.disk) (g.faults new.journal.disk) × CanAsk old account q wish
  IsAskEnd account line q wish _ = ⊥

  -- A line was done that asked for this, if for anything: without an edit the node is as it was, and an edit that was asked for was
  -- to be stored.
  abbrev pub IsLineDone : ℕ → Numbers → Option EditWish → Type 0
  IsLineDone account n None = new ≡ old
  IsLineDone account n (Some wish) = n.last < n.next → CanAsk old account n.next wish

  -- a line that asks for nothing is never in vain, and one with an edit only if its number is above the account's last
  abbrev pub IsLineStop : {F : Type 0} → ℕ → ℕ → Numbers → Option EditWish → TapeEnd D F → Type 0
  IsLineStop account line n None end = ⊥
  IsLineStop account line n (Some wish) end = (n.last < n.next) × IsAskEnd account line n.next wish end

-- ---- all lines

module _ {D : Type 0} (g : reports.Ghosts D) (disk : D) (new : Parts D EditList Record) where
  -- Why this edit of a tape, under its number, is not stored: it was refused; it was to be stored and there are as many records as
  -- the limit; or a call of the disk failed, the count of whose faults has risen since this disk, and the edit is in hand.
  abbrev pub IsEditEnd : {F : Type 0} → ℕ → ℕ → TapeEdit → TapeEnd D F → Type 0
  IsEditEnd account q edit (Refused line code shown) = (line ≡ edit.line) × (new.hand ≡ None)
      × (judge new.state.limits new.state.records (Edit account q edit.wish)
      ≡ Answer (replies.Refused (record { code = code; shown = shown })))
  IsEditEnd account q edit (Full count) = (count ≡ new.state.limits.records) × (new.hand ≡ None) × CanAsk new account q edit.wish
  IsEditEnd account q edit (DiskFault failure) =
      (new.hand ≡ Some (edit_of account q edit.wish)) × Rose (g.faults disk) (g.faults new.journal.disk)
  IsEditEnd account q edit _ = ⊥

  module _ (Gained : List Record → Type 0) (records : List Record) (head : Head) where
    -- All edits of a tape are there: those whose numbers were above the account's last at these records are stored after them. If
    -- there are any, the account's last number is now at least that of the last of them.
    pub record IsLoaded (edits : List TapeEdit) (stored skipped : ℕ) : Type 0 where
      pub counted : stored + skipped ≡ length edits
      pub asked : stored ≡ length (wanted_records records head edits)
      pub gained : Gained (wanted_records records head edits)
      pub hand : new.hand ≡ None
      pub reached : (length edits ≡ 0) ⊎ (head.first + length edits ≤ last_number_of new.state.records head.account + 1)

    -- One edit of a tape, which was asked for as its number is above the account's last at these records, is not stored. Of those
    -- before it, the ones that were asked for are.
    pub record IsStoppedAt {F : Type 0} (edits : List TapeEdit) (end : TapeEnd D F) : Type 0 where
      pub before : List TapeEdit
      pub edit : TapeEdit
      pub later : List TapeEdit
      pub edits_are : edits ≡ before ++ edit ∷ later
      pub asked : last_number_of records head.account < head.first + length before
      pub gained : Gained (wanted_records records head before)
      pub ended : IsEditEnd head.account (head.first + length before) edit end

    -- how the asking for the edits of a tape ends, from these records on
    abbrev pub IsLoadEnd : {F : Type 0} → List TapeEdit → TapeEnd D F → Type 0
    IsLoadEnd edits (Done stored skipped) = IsLoaded edits stored skipped
    IsLoadEnd edits end = IsStoppedAt edits end

-- How a tape ends whose first number is above the account's next: its first edit, if it has one, is refused.
abbrev pub IsTooHigh : {D F : Type 0} → List Record → Head → List TapeEdit → TapeEnd D F → Type 0
IsTooHigh records head [] end = end ≡ Done 0 0
IsTooHigh records head (edit ∷ later) end =
    let refusal = refusal_ahead records head.account edit.wish in
    end ≡ Refused edit.line (code_number refusal) (shown_number refusal)
