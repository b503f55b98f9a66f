-- A tape whose first number is above the account's next: its first edit is refused, since its page is another's or its number is not
-- the next.
use Rattle.std.proofs.Common.{◌≡◌, ℕ, ◌+◌, ◌-◌, ◌<◌, Bool, true, false, not, eqb, List, [], ◌∷◌, length, Option, Some, None}
use Rattle.std.proofs.Common.{refl, sym, ap, subst, ◌∙◌, arith}
use Rattle.std.specs.Prelude.{option_map, if◌then◌else◌}
use Rattle.std.specs.Option.{option_map_or}
use Rattle.std.proofs.lemmas.Bool.{ne_eqb}
use Rattle.pv_outside.specs.declared.limits.Limits.{Limits}
use Rattle.pv_outside.specs.declared.reports.Reports as reports
use Rattle.pv_fields.specs.Reading.{◌>>=◌}
use Rattle.pv_fields.specs.Refusals.{first_of, some_if}
use Rattle.pv_fields.proofs.CallerLemmas.{first_of-some, first_of-none, some_if-false, option_map-some, option_map-none}
use Rattle.pv_edits.specs.Owner.{owner_of}
use Rattle.pv_edits.specs.Room.{has_editor}
use Rattle.pv_edits.specs.declared.record.Record.{Record}
use Rattle.pv_edits.specs.declared.wish.EditWish.{EditWish}
use Rattle.pv_edits.specs.declared.wish.EditWish.TheVariants.{Put, Drop, Account, Lease}
use Rattle.pv_node.specs.Parts.{Parts}
use Rattle.pv_node.specs.declared.decision.Decision.{Decision}
use Rattle.pv_node.specs.declared.decision.Decision.TheVariants.{Answer}
use Rattle.pv_node.specs.declared.rules.Rules as rules
use Rattle.pv_udc.specs.Codes.{code_of, code_number, shown_number}
use Rattle.pv_udc.specs.EditList.{EditList}
use Rattle.pv_udc.specs.Judgement.{last_edit, next_number, kept_place, editor_refusal, number_refusal, missing_refusal, frames_refusal}
use Rattle.pv_udc.specs.Judgement.{frame_refusal, refusal_of, reply_to, answers_of, decision_of, judge}
use Rattle.pv_udc.specs.Requests.{edit_of}
use Rattle.pv_udc.specs.declared.refusal.Refusal.{Refusal}
use Rattle.pv_udc.specs.declared.refusal.Refusal.TheVariants.{NotLoggedOn, NotOwner, BadNumber}
use Rattle.pv_udc.specs.declared.reply.Code.{Code}
use Rattle.pv_udc.specs.declared.reply.UdcReply.{UdcReply}
use Rattle.pv_udc.specs.declared.reply.UdcReply.TheVariants.{Again, Refused}
use Rattle.pv_udc.specs.declared.request.UdcRequest.{UdcRequest}
use Rattle.pv_udc.specs.declared.request.UdcRequest.TheVariants.{Edit}
use Rattle.pv_editor.specs.Say.{number_of_last}
use Rattle.pv_tape.specs.Lines.{IsTapeLine}
use Rattle.pv_tape.specs.Loading.{last_number_of, refusal_ahead, progress_after, numbers_after_wish, IsToStore, CanAsk, IsLineDone}
use Rattle.pv_tape.specs.Loading.{IsLineStop, IsTooHigh}
use Rattle.pv_tape.specs.Tape.{TapeEdit, AreGood, edits_with, wish_on_line, second_line}
use Rattle.pv_tape.specs.declared.end.TapeEnd.{TapeEnd}
use Rattle.pv_tape.specs.declared.end.TapeEnd.TheVariants as ends
use Rattle.pv_tape.specs.declared.head.Head.{Head}
use Rattle.pv_tape.specs.declared.line.TapeLine.{TapeLine}
use Rattle.pv_tape.specs.declared.progress.Progress.{Progress}

-- ---- the judgement

-- the next number is one more than the last
pub next_after_last : (records : List Record) (account : ℕ) → next_number records account ≡ last_number_of records account + 1
next_after_last records account = by (last_edit records account)
  where
    by : (last : Option (ℕ × ℕ)) → option_map_or (λ (l : ℕ × ℕ). l.0) last 0 + 1 ≡ number_of_last last + 1
    by None = refl
    by (Some last) = refl

module _ (limits : Limits) (records : List Record) (editor q : ℕ) (ahead : next_number records editor < q) where
  -- it is not his last edit again
  not_kept : kept_place records editor q ≡ None
  not_kept = by (last_edit records editor) refl
    where
      by : (last : Option (ℕ × ℕ)) → last_edit records editor ≡ last → (last >>= λ edit. some_if (eqb edit.0 q) edit.1) ≡ None
      by None is = refl
      by (Some last) is =
          let next : next_number records editor ≡ last.0 + 1 =
          ap (λ (o : Option (ℕ × ℕ)). option_map_or (λ (l : ℕ × ℕ). l.0) o 0 + 1) is in
          some_if-false (eqb last.0 q) last.1 (ne_eqb last.0 q (λ same. omega (arith, next, same, ahead)))

  -- its number is not his next
  bad_number : number_refusal records editor q ≡ Some (BadNumber (next_number records editor))
  bad_number =
      let other : eqb q (next_number records editor) ≡ false =
      ne_eqb q (next_number records editor) (λ same. omega (arith, same, ahead)) in
      rw other refl

  -- whose page it is comes first
  by_owner : (own : Bool) (others : List (Option Refusal))
      → first_of (some_if (not own) NotOwner ∷ number_refusal records editor q ∷ others)
      ≡ Some (if own then BadNumber (next_number records editor) else NotOwner)
  by_owner true others = first_of-some (number_refusal records editor q) others (BadNumber (next_number records editor)) bad_number
  by_owner false others = refl

  refused : (wish : EditWish) → refusal_of limits records editor q wish ≡ Some (refusal_ahead records editor wish)
  refused (Put name frame) =
      by_owner (eqb (owner_of records name.page) editor) (frames_refusal limits records name ∷ frame_refusal frame ∷ [])
  refused (Drop name) = by_owner (eqb (owner_of records name.page) editor) (missing_refusal records name ∷ [])
  refused (Account account) = first_of-some (number_refusal records editor q) _ (BadNumber (next_number records editor)) bad_number
  refused (Lease root account) = first_of-some (number_refusal records editor q) _ (BadNumber (next_number records editor)) bad_number

  -- so it is refused
  pub judged_ahead : (wish : EditWish) → has_editor records editor ≡ true
      → judge limits records (Edit editor q wish) ≡ Answer (reply_to (refusal_ahead records editor wish))
  judged_ahead wish has =
      let refusal = refusal_of limits records editor q wish in
      let known : editor_refusal records editor ≡ None =
      some_if-false (not (has_editor records editor)) NotLoggedOn (ap not has) in
      let answer : first_of (answers_of limits records (Edit editor q wish)) ≡ Some (reply_to (refusal_ahead records editor wish)) =
      first_of-none (option_map reply_to (editor_refusal records editor))
      (option_map Again (kept_place records editor q) ∷ option_map reply_to refusal ∷ [])
      (option_map-none reply_to (editor_refusal records editor) known)
      ∙ first_of-none (option_map Again (kept_place records editor q)) (option_map reply_to refusal ∷ [])
      (option_map-none Again (kept_place records editor q) not_kept)
      ∙ first_of-some (option_map reply_to refusal) [] (reply_to (refusal_ahead records editor wish))
      (option_map-some reply_to refusal (refusal_ahead records editor wish) (refused wish)) in
      ap (λ (o : Option UdcReply). decision_of o (edit_of editor q wish) (length records)) answer

  pub never_stored : (wish : EditWish) → has_editor records editor ≡ true
      → IsToStore (judge limits records (Edit editor q wish)) → ⊥
  never_stored wish has stores = subst (λ (d : Decision Record UdcReply). IsToStore d) (judged_ahead wish has) stores

-- ---- the lines

-- the reply of an answer, as a code
abbrev code_in : Decision Record UdcReply → Code
code_in (Answer (Refused code)) = code
code_in _ = code_of NotOwner

module _ {S D : Type 0} (r : rules.Ghosts S EditList UdcRequest Record UdcReply) (g : reports.Ghosts D) (head : Head)
    (old : Parts D EditList Record) (lines : List (List ℕ)) where
  -- no edit was asked for yet: all are in the lines to come
  pub record IsWaiting (node : Parts D EditList Record) (p : Progress) (later : List (List ℕ)) : Type 0 where
    pub state : node.state ≡ old.state
    pub next : p.numbers.next ≡ head.first
    pub last : p.numbers.last ≡ last_number_of old.state.records head.account
    pub stored : p.numbers.stored ≡ 0
    pub good : (edits : List TapeEdit) → AreGood None second_line lines edits → AreGood p.working p.line later edits

  module _ (has : has_editor old.state.records head.account ≡ true) (ahead : next_number old.state.records head.account < head.first)
      (node : Parts D EditList Record) (p : Progress) (text : List ℕ) (texts : List (List ℕ)) (waiting : IsWaiting node p (text ∷ texts))
    where
      -- an edit cannot be asked for
      cannot_ask : (wish : EditWish) → CanAsk node head.account p.numbers.next wish → ⊥
      cannot_ask wish can =
          never_stored old.state.limits old.state.records head.account p.numbers.next (rw waiting.next ahead) wish has
          (rw waiting.state at can)

      numbers_ahead : p.numbers.last < p.numbers.next
      numbers_ahead =
          let one = next_after_last old.state.records head.account in
          omega (arith, one, ahead, waiting.next, waiting.last)

      -- a line that is done has none
      pub waits_on : (new : Parts D EditList Record) (after : Progress) (line : TapeLine)
          → ((other : TapeLine) → IsTapeLine text other → line ≡ other)
          → after ≡ progress_after p line → IsLineDone r g node new head.account p.numbers (wish_on_line p.working line)
          → IsWaiting new after texts
      waits_on new after line only is done = by (wish_on_line p.working line) refl done
        where
          by : (wish : Option EditWish) → wish_on_line p.working line ≡ wish → IsLineDone r g node new head.account p.numbers wish
              → IsWaiting new after texts
          by None none same =
              let numbers : after.numbers ≡ p.numbers =
              ap (λ (q : Progress). q.numbers) is ∙ ap (numbers_after_wish p.numbers) none in
              record {
                state = ap (λ (n : Parts D EditList Record). n.state) same ∙ waiting.state;
                next = rw numbers waiting.next;
                last = rw numbers waiting.last;
                stored = rw numbers waiting.stored;
                good = λ edits are.
                    let was = waiting.good edits are in
                    let this : line ≡ was.0 = only was.0 was.2 in
                    let nothing : wish_on_line p.working was.0 ≡ None = ap (wish_on_line p.working) (sym this) ∙ none in
                    let all : edits ≡ was.1 = was.5 ∙ ap (λ (w : Option EditWish). edits_with p.line w was.1) nothing in
                    let next = progress_after p was.0 in
                    let later = subst (λ (l : List TapeEdit). AreGood next.working next.line texts l) (sym all) was.4 in
                    let now : after ≡ progress_after p was.0 = is ∙ ap (progress_after p) this in
                    subst (λ (q : Progress). AreGood q.working q.line texts edits) (sym now) later;
              }
          by (Some wish) some can = absurd (cannot_ask wish (can numbers_ahead))

      -- a line that stops the run is the first edit, and is refused
      pub stops_ahead : {F : Type 0} (new : Parts D EditList Record) (line : TapeLine) (end : TapeEnd D F)
          → ((other : TapeLine) → IsTapeLine text other → line ≡ other)
          → IsLineStop r g node new head.account p.line p.numbers (wish_on_line p.working line) end
          → (edits : List TapeEdit) → AreGood None second_line lines edits → IsTooHigh old.state.records head edits end
      stops_ahead {F} new line end only stop edits are = by (wish_on_line p.working line) end refl stop
        where
          first_edit : (wish : EditWish) → wish_on_line p.working line ≡ Some wish
              → edits ≡ (record { line = p.line; wish = wish }) ∷ (waiting.good edits are).1
          first_edit wish some =
              let was = waiting.good edits are in
              was.5 ∙ ap (λ (w : Option EditWish). edits_with p.line w was.1)
              (ap (wish_on_line p.working) (sym (only was.0 was.2)) ∙ some)

          by : (wish : Option EditWish) (end : TapeEnd D F) → wish_on_line p.working line ≡ wish
              → IsLineStop r g node new head.account p.line p.numbers wish end → IsTooHigh old.state.records head edits end
          by None end none stopped = absurd stopped
          by (Some wish) (ends.Refused at_line code shown) some stopped =
              let refusal = refusal_ahead old.state.records head.account wish in
              let judged = judged_ahead old.state.limits old.state.records head.account p.numbers.next (rw waiting.next ahead)
              wish has in
              let said = rw waiting.state at stopped.1.2 in
              let codes : record { code = code; shown = shown } ≡ code_of refusal = ap code_in (sym said ∙ judged) in
              let code_is : code ≡ code_number refusal = ap (λ (c : Code). c.code) codes in
              let shown_is : shown ≡ shown_number refusal = ap (λ (c : Code). c.shown) codes in
              subst (λ (l : List TapeEdit). IsTooHigh {D = D} {F = F} old.state.records head l (ends.Refused at_line code shown))
              (sym (first_edit wish some)) (rw (stopped.1.1, code_is, shown_is) refl)
          by (Some wish) (ends.Full count) some stopped = absurd (cannot_ask wish stopped.1.2)
          by (Some wish) (ends.DiskFault failure) some stopped = absurd (cannot_ask wish stopped.1.3)
          by (Some wish) (ends.Done stored skipped) some stopped = absurd stopped.1
          by (Some wish) ends.ReadFault some stopped = absurd stopped.1
          by (Some wish) ends.TooLong some stopped = absurd stopped.1
          by (Some wish) (ends.BadTape line) some stopped = absurd stopped.1
          by (Some wish) ends.NotKnown some stopped = absurd stopped.1
          by (Some wish) ends.Memory some stopped = absurd stopped.1

  -- before the first line
  abbrev first_progress : Progress
  first_progress = record {
    working = None;
    line = second_line;
    numbers = record { next = head.first; last = last_number_of old.state.records head.account; stored = 0 };
  }

  pub waits_first : (p : Progress) → p ≡ first_progress → IsWaiting old p lines
  waits_first p is = subst (λ (q : Progress). IsWaiting old q lines) (sym is)
      (record { state = refl; next = refl; last = refl; stored = refl; good = λ edits are. are })

  -- no line is left: there was no edit
  pub none_ahead : (F : Type 0) (node : Parts D EditList Record) (p : Progress) → IsWaiting node p []
      → (edits : List TapeEdit) → AreGood None second_line lines edits
      → IsTooHigh {D = D} {F = F} old.state.records head edits
      (ends.Done p.numbers.stored (p.numbers.next - head.first - p.numbers.stored))
  none_ahead F node p waiting edits are =
      let none : edits ≡ [] = waiting.good edits are in
      let skipped : p.numbers.next - head.first - p.numbers.stored ≡ 0 = omega (arith, waiting.next) in
      subst (λ (l : List TapeEdit). IsTooHigh {D = D} {F = F} old.state.records head l
      (ends.Done p.numbers.stored (p.numbers.next - head.first - p.numbers.stored)))
      (sym none) (rw (skipped, waiting.stored) refl)
