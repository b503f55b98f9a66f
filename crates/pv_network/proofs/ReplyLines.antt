-- Each reply to an editor stands on one row, and begins with a capital letter.
use Rattle.std.proofs.Common.{◌≡◌, ℕ, zero, suc, ◌-◌, lit≤, true, List, [], ◌∷◌, ◌++◌, Option, Some, None, length, refl, ap, subst, arith}
use Rattle.std.specs.Prelude.{All, decimal, codes, ◌==◌, slice_get, option_map, replicate}
use Rattle.std.specs.List.{list_all}
use Rattle.std.proofs.lemmas.Bool.{and_parts, and_from}
use Rattle.std.proofs.lemmas.Bool.Decides.{nat_tests}
use Rattle.std.proofs.lemmas.List.Elements.{All-head, All-tail}
use Rattle.pv_fields.specs.Reading.{◌>>=◌}
use Rattle.pv_fields.specs.Refusals.{first_of}
use Rattle.pv_page.specs.Names.{Name, IsName, IsLetter, name_text, account_text, zero_digit}
use Rattle.pv_page.specs.declared.account_no.TheConstants.{ACCOUNT_DIGITS}
use Rattle.pv_post.specs.Item.{Response, IsResponse, IsFilled, is_field_byte}
use Rattle.pv_post.specs.Spelling.{IsItem}
use Rattle.pv_post.specs.declared.item.Item.{Item}
use Rattle.pv_post.specs.declared.item.Item.TheVariants as items
use Rattle.pv_edits.specs.Edits.{last_of}
use Rattle.pv_edits.specs.Record.{IsRecord}
use Rattle.pv_edits.specs.declared.record.Record.{Record}
use Rattle.pv_edits.specs.declared.record.Record.TheVariants as records
use Rattle.pv_udc.specs.Replies.{reply_place}
use Rattle.pv_editor.specs.Replies.{words_with, other_words, refusal_words, reply_of, barred_fields, joined_fields, response_reply, responses_reply}
use Rattle.pv_editor.specs.Say.{refusals, plain, number_of_last, by_editor, with_working, step_of, turn_by, turn_of}
use Rattle.pv_editor.specs.declared.line.EditLine.{EditLine}
use Rattle.pv_editor.specs.declared.line.EditLine.TheVariants as lines
use Rattle.pv_editor.specs.declared.replies.UdcReplyView.{UdcReplyView}
use Rattle.pv_editor.specs.declared.replies.UdcReplyView.TheVariants.{Stored, Refused}
use Rattle.pv_editor.specs.declared.seat.EditorSeat.{EditorSeat}
use Rattle.pv_editor.specs.declared.seat.Working.{Working}
use Rattle.pv_editor.specs.declared.step.EditStep.{EditStep}
use Rattle.pv_editor.specs.declared.step.EditStep.TheVariants as steps
use Rattle.pv_network.specs.Editing.{step_of_said}
use Rattle.pv_udc.specs.declared.request.UdcRequest.TheVariants.{Edit}
use Rattle.pv_verdicts.specs.Search.{first_reply, taken_item}
use Rattle.pv_network.specs.Verdict.{verdict_of}
use Rattle.pv_network.specs.World.{World}
use Rattle.pv_network.specs.Replies.{is_not_line_end, HasNoLineEnd, IsReplyLine, RepliesByLine}
use Rattle.pv_network.proofs.CallerLemmas.{unbroken-append, unbroken-decimal, either}
use Rattle.pv_network.proofs.Lists.{all_get}

-- ---- the words of a reply

-- words and a number
with_number : (words : List ℕ) (n : ℕ) → HasNoLineEnd words → HasNoLineEnd (words_with words n)
with_number words n whole = unbroken-append words (decimal n) whole (unbroken-decimal n)

others_unbroken : (code shown : ℕ) → HasNoLineEnd (other_words code shown)
others_unbroken code shown =
    either (code == 11) _ _ refl (either (code == 12) _ _ refl (either (code == 13) _ _ refl
    (either (code == 14) _ _ (with_number (codes "FULL ") shown refl) (either (code == 15) _ _ refl (either (code == 16) _ _ refl refl)))))

words_unbroken : (code shown : ℕ) → HasNoLineEnd (refusal_words code shown)
words_unbroken code shown =
    let wanted = unbroken-append (words_with (codes "NUMBER ") shown) (codes " WANTED") (with_number (codes "NUMBER ") shown refl) refl in
    either (code == 1) _ _ refl (either (code == 2) _ _ refl (either (code == 3) _ _ wanted (either (code == 4) _ _ refl
    (either (code == 5) _ _ (with_number (codes "FRAMES FULL ") shown refl)
    (either (code == 6) _ _ (with_number (codes "ACCOUNTS FULL ") shown refl)
    (either (code == 7) _ _ (with_number (codes "BAD FRAME ") shown refl) (either (code == 8) _ _ refl
    (either (code == 9) _ _ (with_number (codes "LEASES FULL ") shown refl)
    (either (code == 10) _ _ refl (others_unbroken code shown))))))))))

-- the reply to a request
pub verdict_line : (reply : UdcReplyView) → IsReplyLine (reply_of reply)
verdict_line (Stored place) =
    record { whole = with_number (codes "OK ") place refl; first = _; rest = _; is = refl; capital = (lit≤ tt, lit≤ tt) }
verdict_line (Refused code shown) =
    let words = unbroken-append (codes " ") (refusal_words code shown) refl (words_unbroken code shown) in
    let number = unbroken-append (decimal code) (codes " " ++ refusal_words code shown) (unbroken-decimal code) words in
    record {
      whole = unbroken-append (codes "NO ") (decimal code ++ (codes " " ++ refusal_words code shown)) refl number;
      first = _;
      rest = _;
      is = refl;
      capital = (lit≤ tt, lit≤ tt);
    }

-- ---- what callers keyed

field_byte : (byte : ℕ) → is_field_byte byte ≡ true → is_not_line_end byte ≡ true
field_byte byte is = grind (arith, nat_tests)

field_unbroken : (text : List ℕ) → list_all is_field_byte text ≡ true → HasNoLineEnd text
field_unbroken [] is = refl
field_unbroken (byte ∷ text) is =
    let parts = and_parts (is_field_byte byte) _ is in and_from _ _ (field_byte byte parts.0) (field_unbroken text parts.1)

barred_unbroken : (fields : List (List ℕ)) → All IsFilled fields → HasNoLineEnd (barred_fields fields)
barred_unbroken [] all = refl
barred_unbroken (field ∷ fields) all =
    let here = unbroken-append (codes "|") field refl (field_unbroken field (All-head IsFilled field fields all).bytes) in
    unbroken-append (codes "|" ++ field) (barred_fields fields) here (barred_unbroken fields (All-tail IsFilled field fields all))

joined_unbroken : (fields : List (List ℕ)) → All IsFilled fields → HasNoLineEnd (joined_fields fields)
joined_unbroken [] all = refl
joined_unbroken (field ∷ fields) all =
    unbroken-append field (barred_fields fields) (field_unbroken field (All-head IsFilled field fields all).bytes)
    (barred_unbroken fields (All-tail IsFilled field fields all))

zeros_unbroken : (n : ℕ) → HasNoLineEnd (replicate n 48)
zeros_unbroken zero = refl
zeros_unbroken (suc n) = and_from _ _ refl (zeros_unbroken n)

name_unbroken : (name : Name) → IsName name → HasNoLineEnd (name_text name)
name_unbroken name is =
    let letter : is_not_line_end name.letter ≡ true = by is.letter in
    unbroken-append (decimal name.page) (name.letter ∷ []) (unbroken-decimal name.page) (and_from _ _ letter refl)
  where
    by : IsLetter name.letter → is_not_line_end name.letter ≡ true
    by within = grind (arith, nat_tests)

-- what an editor is shown of a filled frame
response_line : (place : ℕ) (reply : Response) → IsResponse reply → IsReplyLine (response_reply place reply)
response_line place reply is =
    let gap = codes " " in
    let name = name_text reply.name in
    let missing = ACCOUNT_DIGITS - length (decimal reply.account) in
    let account = account_text reply.account in
    let fields = joined_fields reply.fields in
    let who = account ++ (gap ++ fields) in
    let after_name = gap ++ who in
    let after_place = gap ++ (name ++ after_name) in
    let account_whole : HasNoLineEnd account =
    unbroken-append (replicate missing zero_digit) (decimal reply.account) (zeros_unbroken missing) (unbroken-decimal reply.account) in
    let fields_whole = unbroken-append gap fields refl (joined_unbroken reply.fields is.fields.filled) in
    let who_whole = unbroken-append account (gap ++ fields) account_whole fields_whole in
    let name_whole = unbroken-append name after_name (name_unbroken reply.name is.name) (unbroken-append gap who refl who_whole) in
    let place_whole =
    unbroken-append (decimal place) after_place (unbroken-decimal place) (unbroken-append gap (name ++ after_name) refl name_whole) in
    record {
      whole = unbroken-append (codes "OK ") (decimal place ++ after_place) refl place_whole;
      first = _;
      rest = _;
      is = refl;
      capital = (lit≤ tt, lit≤ tt);
    }

item_line : (found : Option (ℕ × Item)) → ((place : ℕ) (item : Item) → found ≡ Some (place, item) → IsItem item)
    → IsReplyLine (responses_reply found)
item_line None valid = record { whole = refl; first = _; rest = _; is = refl; capital = (lit≤ tt, lit≤ tt) }
item_line (Some (place, items.Charge line)) valid = record { whole = refl; first = _; rest = _; is = refl; capital = (lit≤ tt, lit≤ tt) }
item_line (Some (place, items.Reply reply)) valid = response_line place reply (valid place (items.Reply reply) refl)
item_line (Some (place, items.Mail mail)) valid = record { whole = refl; first = _; rest = _; is = refl; capital = (lit≤ tt, lit≤ tt) }

-- ---- an editor's line

-- a step that says something says it silently
abbrev StepIsReplyLine : EditStep → Type 0
StepIsReplyLine (steps.Say text) = IsReplyLine text
StepIsReplyLine _ = Unit {0}

-- a step of the editor's own, and one with the working frame
own_line : (editor : Option ℕ) (step : ℕ → EditStep) → ((e : ℕ) → StepIsReplyLine (step e)) → StepIsReplyLine (by_editor editor step)
own_line None step each = verdict_line (plain 1)
own_line (Some editor) step each = each editor

working_line : (working : Option Working) (step : Working → EditStep) → ((w : Working) → StepIsReplyLine (step w))
    → StepIsReplyLine (with_working working step)
working_line None step each = verdict_line (plain 12)
working_line (Some working) step each = each working

-- an editor's line that is not refused
done_line : (seat : EditorSeat) (edits : List Record) (places : List ℕ) (line : EditLine) → StepIsReplyLine (step_of seat edits places line)
done_line seat edits places (lines.LogOn account password) =
    record { whole = refl; first = _; rest = _; is = refl; capital = (lit≤ tt, lit≤ tt) }
done_line seat edits places (lines.New name) = record { whole = refl; first = _; rest = _; is = refl; capital = (lit≤ tt, lit≤ tt) }
done_line seat edits places (lines.Open name) = record { whole = refl; first = _; rest = _; is = refl; capital = (lit≤ tt, lit≤ tt) }
done_line seat edits places (lines.Change change) = record { whole = refl; first = _; rest = _; is = refl; capital = (lit≤ tt, lit≤ tt) }
done_line seat edits places (lines.Store q) =
    working_line seat.working _ (λ working. own_line seat.account _ (λ editor. tt))
done_line seat edits places (lines.Ask q wish) = own_line seat.account _ (λ editor. tt)
done_line seat edits places lines.Last =
    own_line seat.account _ (λ editor. verdict_line (Stored (number_of_last (last_of edits places editor))))
done_line seat edits places (lines.Responses from) = own_line seat.account _ (λ editor. tt)
done_line seat edits places lines.Quit = tt

turn_line : (refusal : Option UdcReplyView) (seat : EditorSeat) (turn : EditorSeat × EditStep) → StepIsReplyLine turn.1
    → StepIsReplyLine (turn_by refusal seat turn).1
turn_line (Some refusal) seat turn is = verdict_line refusal
turn_line None seat turn is = is

pub turn_is_line : (seat : EditorSeat) (edits : List Record) (places : List ℕ) (said : Option EditLine)
    → StepIsReplyLine (turn_of seat edits places said).1
turn_is_line seat edits places None = verdict_line (plain 11)
turn_is_line seat edits places (Some line) =
    turn_line (first_of (refusals seat edits line)) seat _ (done_line seat edits places line)

-- ---- what is found in a valid list

item_valid : (place : ℕ) (edit : Record) → IsRecord edit → (p : ℕ) (item : Item)
    → option_map {U = ℕ × Item} (λ (i : Item). (place, i)) (taken_item edit) ≡ Some (p, item) → IsItem item
item_valid place (records.Put editor q name frame) valid p item there = absurd cc
item_valid place (records.Drop editor q name) valid p item there = absurd cc
item_valid place (records.Account editor q profile) valid p item there = absurd cc
item_valid place (records.Lease editor q root account) valid p item there = absurd cc
item_valid place (records.Taken taken) valid p item there =
    let both : ◌≡◌ {A = ℕ × Item} (place, taken.item) (p, item) = cc in subst IsItem (ap (λ (b : ℕ × Item). b.1) both) valid.item

-- the item of the record at a place, with the place
abbrev found_at : List Record → Option ℕ → Option (ℕ × Item)
found_at edits place =
    place >>= λ place. slice_get edits place >>= λ edit. option_map (λ (item : Item). (place, item)) (taken_item edit)

there_valid : (edits : List Record) → All IsRecord edits → (place p : ℕ) (item : Item) (edit : Option Record) → slice_get edits place ≡ edit
    → ◌>>=◌ {B = ℕ × Item} edit (λ edit. option_map {U = ℕ × Item} (λ (i : Item). (place, i)) (taken_item edit)) ≡ Some (p, item) → IsItem item
there_valid edits all place p item None there is = absurd cc
there_valid edits all place p item (Some edit) there is = item_valid place edit (all_get IsRecord edits place edit all there) p item is

found_valid : (edits : List Record) → All IsRecord edits → (place : Option ℕ) (p : ℕ) (item : Item) → found_at edits place ≡ Some (p, item)
    → IsItem item
found_valid edits all None p item is = absurd cc
found_valid edits all (Some place) p item is = there_valid edits all place p item (slice_get edits place) refl is

-- a search for responses in a valid list
pub responses_line : (edits : List Record) → All IsRecord edits → (editor from : ℕ)
    → IsReplyLine (responses_reply (first_reply edits editor from))
responses_line edits all editor from = item_line (first_reply edits editor from) (found_valid edits all (reply_place edits editor from))

-- ---- an event

pub said_line : (w : World) → All IsRecord w.update.records → (port : ℕ) (step : EditStep) → StepIsReplyLine step
    → RepliesByLine (step_of_said w port step).1
said_line w all port (steps.Say text) is = is
said_line w all port (steps.Ask editor q wish) is = verdict_line (verdict_of w.update (Edit editor q wish)).reply
said_line w all port (steps.Responses editor from) is = responses_line w.update.records all editor from
said_line w all port steps.Close is = record { whole = refl; first = _; rest = _; is = refl; capital = (lit≤ tt, lit≤ tt) }
