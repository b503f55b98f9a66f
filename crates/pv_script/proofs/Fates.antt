-- What is written for an outcome says the fate of a record exactly if the outcome is that of a cut.
use Rattle.std.proofs.Common.{◌≡◌, ℕ, ◌/◌, ◌%◌, ◌≤◌, Bool, true, false, cond, List, [], ◌∷◌, ◌++◌, Option, Some, None, flat_map, refl, sym, ap, subst, ◌∙◌, append_assoc, arith}
use Rattle.std.specs.Prelude.{decimal, codes, ◌==◌}
use Rattle.std.specs.Char.{digit_char}
use Rattle.std.specs.Int.{IsInRange}
use Rattle.std.proofs.lemmas.Bool.{and_from}
use Rattle.std.proofs.lemmas.Bool.Decides.{nat_tests}
use Rattle.std.proofs.lemmas.List.{append-nil}
use Rattle.pv_outside.specs.declared.limits.Limits.{Limits}
use Rattle.pv_cells.specs.Notation.{is_plain, notation_of, notation_of_byte}
use Rattle.pv_cells.specs.declared.writing.TheConstants.{BACKSLASH}
use Rattle.pv_page.specs.Names.{name_text}
use Rattle.pv_screen.specs.Painting.{screen_bytes}
use Rattle.pv_session.specs.declared.step.Why.{Why}
use Rattle.pv_session.specs.declared.step.Why.TheVariants as why
use Rattle.pv_network.specs.declared.outcome.BillLine.{BillLine}
use Rattle.pv_network.specs.declared.outcome.Outcome.{Outcome}
use Rattle.pv_network.specs.declared.outcome.Outcome.TheVariants as outcomes
use Rattle.pv_network.specs.declared.outcome.Turn.{Turn}
use Rattle.pv_network.specs.Replies.{is_not_line_end, HasNoLineEnd, IsReplyLine, RepliesByLine, first_capital, last_capital}
use Rattle.pv_network.proofs.CallerLemmas.{unbroken-append, unbroken-decimal}
use Rattle.pv_script.specs.Fates.{fate_in, fates_in, fate_of, HasFates, HasFatesOf}
use Rattle.pv_script.specs.Transcript.{newline, end_text, ack_text, turn_text, turns_text, charge_text, charges_text, answer_text, limits_text}
use Rattle.pv_script.proofs.Plain.{unbroken_line}

-- ---- texts

-- nothing says none
pub no_fates : HasFates [] []
no_fates rest = refl

-- those of a text with nothing after it
pub all_fates : (text : List ℕ) (fates : List Bool) → HasFates text fates → fates_in text ≡ fates
all_fates text fates is = ap fates_in (sym (append-nil text)) ∙ is [] ∙ append-nil fates

-- those of two texts are those of both
pub fates-append : (a b : List ℕ) (x y : List Bool) → HasFates a x → HasFates b y → HasFates (a ++ b) (x ++ y)
fates-append a b x y p q rest =
    ap fates_in (append_assoc a b rest) ∙ p (b ++ rest) ∙ ap (λ (l : List Bool). x ++ l) (q rest) ∙ sym (append_assoc x y (fates_in rest))

-- a line that says none, with its end
line_has_none : (line : List ℕ) → HasNoLineEnd line → fate_in line ≡ [] → HasFates (line ++ newline) []
line_has_none line whole none rest =
    ap fates_in (append_assoc line newline rest)
    ∙ ap (flat_map fate_in) (unbroken_line line rest whole)
    ∙ ap (λ (l : List Bool). l ++ fates_in rest) none

-- ---- parts of lines

-- a number after words
numbered : (words : List ℕ) (n : ℕ) → HasNoLineEnd words → HasNoLineEnd (words ++ decimal n)
numbered words n whole = unbroken-append words (decimal n) whole (unbroken-decimal n)

-- words, a number, words, and a number
twice_numbered : (words : List ℕ) (m : ℕ) (more : List ℕ) (n : ℕ) → HasNoLineEnd words → HasNoLineEnd more
    → HasNoLineEnd (words ++ decimal m ++ more ++ decimal n)
twice_numbered words m more n whole also =
    numbered (words ++ decimal m ++ more) n (unbroken-append (words ++ decimal m) more (numbered words m whole) also)

-- such lines
numbered_has_none : (words : List ℕ) (n : ℕ) → HasNoLineEnd words → fate_in (words ++ decimal n) ≡ []
    → HasFates (words ++ decimal n ++ newline) []
numbered_has_none words n whole none = line_has_none (words ++ decimal n) (numbered words n whole) none

twice_has_none : (words : List ℕ) (m : ℕ) (more : List ℕ) (n : ℕ) → HasNoLineEnd words → HasNoLineEnd more
    → fate_in (words ++ decimal m ++ more ++ decimal n) ≡ [] → HasFates (words ++ decimal m ++ more ++ decimal n ++ newline) []
twice_has_none words m more n whole also none =
    line_has_none (words ++ decimal m ++ more ++ decimal n) (twice_numbered words m more n whole also) none

-- the notation of bytes
char_unbroken : (d : ℕ) → is_not_line_end (digit_char d) ≡ true
char_unbroken d = grind (arith, nat_tests)

plain_unbroken : (byte : ℕ) → is_plain byte ≡ true → is_not_line_end byte ≡ true
plain_unbroken byte plain = grind (arith, nat_tests)

byte_unbroken : (byte : ℕ) → HasNoLineEnd (notation_of_byte byte)
byte_unbroken byte = by (is_plain byte) refl
  where
    escaped : HasNoLineEnd (BACKSLASH ∷ digit_char (byte / 16) ∷ digit_char (byte % 16) ∷ [])
    escaped = and_from _ _ refl (and_from _ _ (char_unbroken (byte / 16)) (and_from _ _ (char_unbroken (byte % 16)) refl))

    by : (b : Bool) → is_plain byte ≡ b → HasNoLineEnd (cond b (byte ∷ []) (BACKSLASH ∷ digit_char (byte / 16) ∷ digit_char (byte % 16) ∷ []))
    by true is = and_from _ _ (plain_unbroken byte is) refl
    by false is = escaped

notation_unbroken : (bytes : List ℕ) → HasNoLineEnd (notation_of bytes)
notation_unbroken [] = refl
notation_unbroken (byte ∷ bytes) =
    unbroken-append (notation_of_byte byte) (notation_of bytes) (byte_unbroken byte) (notation_unbroken bytes)

ack_unbroken : (ack : Option ℕ) → HasNoLineEnd (ack_text ack)
ack_unbroken None = refl
ack_unbroken (Some index) = numbered (codes " ack ") index refl

-- ---- screens

end_has_none : (ended : Option Why) → HasFates (end_text ended) []
end_has_none None = no_fates
end_has_none (Some why.Finished) = line_has_none (codes "ended finished") refl refl
end_has_none (Some why.Refused) = line_has_none (codes "ended refused") refl refl
end_has_none (Some why.Spent) = line_has_none (codes "ended spent") refl refl
end_has_none (Some why.Full) = line_has_none (codes "ended full") refl refl

turn_has_none : (turn : Turn) → HasFates (turn_text turn) []
turn_has_none turn =
    let screen = notation_of (screen_bytes turn.screen) in
    let line = line_has_none (codes "screen " ++ screen) (unbroken-append (codes "screen ") screen refl (notation_unbroken (screen_bytes turn.screen))) refl in
    fates-append (codes "screen " ++ screen ++ newline) (end_text turn.ended) [] [] line (end_has_none turn.ended)

turns_have_none : (turns : List Turn) → HasFates (turns_text turns) []
turns_have_none [] = no_fates
turns_have_none (turn ∷ turns) = fates-append (turn_text turn) (turns_text turns) [] [] (turn_has_none turn) (turns_have_none turns)

-- ---- charge lines

-- four parts after a first one, side by side
regroup : (a b c d e : List ℕ) → a ++ b ++ c ++ d ++ e ≡ a ++ (b ++ c ++ d ++ e)
regroup a b c d e =
    ap (λ (l : List ℕ). l ++ d ++ e) (append_assoc a b c)
    ∙ ap (λ (l : List ℕ). l ++ e) (append_assoc a (b ++ c) d)
    ∙ append_assoc a (b ++ c ++ d) e

module _ (charge : BillLine) where
  abbrev page : List ℕ
  page = decimal charge.line.name.page

  abbrev letter : ℕ
  letter = charge.line.name.letter

  abbrev gap : List ℕ
  gap = codes " "

  -- what stands before the frame's name, and after it
  abbrev before : List ℕ
  before = codes "line " ++ decimal charge.centre ++ gap ++ decimal charge.line.serial ++ gap ++ decimal charge.line.number ++ gap

  abbrev after : List ℕ
  after = gap ++ decimal charge.line.price ++ gap ++ decimal charge.line.moment

  before_unbroken : HasNoLineEnd before
  before_unbroken =
      let serial = twice_numbered (codes "line ") charge.centre gap charge.line.serial refl refl in
      let number = numbered (codes "line " ++ decimal charge.centre ++ gap ++ decimal charge.line.serial ++ gap) charge.line.number
      (unbroken-append (codes "line " ++ decimal charge.centre ++ gap ++ decimal charge.line.serial) gap serial refl) in
      unbroken-append (codes "line " ++ decimal charge.centre ++ gap ++ decimal charge.line.serial ++ gap ++ decimal charge.line.number) gap number refl

  after_unbroken : HasNoLineEnd after
  after_unbroken = twice_numbered gap charge.line.price gap charge.line.moment refl refl

  -- a name is on the line, unless its letter were a newline: then the line ends there
  named : (b : Bool) → (letter == 10) ≡ b → HasFates (before ++ (page ++ letter ∷ []) ++ (after ++ newline)) []
  named true is =
      let end : letter ≡ 10 = grind (arith, nat_tests) in
      let first =
      line_has_none (before ++ page) (unbroken-append before page before_unbroken (unbroken-decimal charge.line.name.page)) refl in
      let both = fates-append (before ++ page ++ newline) (after ++ newline) [] [] first (line_has_none after after_unbroken refl) in
      subst (λ (l : List ℕ). HasFates (l ++ (after ++ newline)) [])
      (append_assoc before page newline ∙ ap (λ (byte : ℕ). before ++ (page ++ byte ∷ [])) (sym end)) both
  named false is =
      let other : is_not_line_end letter ≡ true = grind (arith, nat_tests) in
      let name = unbroken-append page (letter ∷ []) (unbroken-decimal charge.line.name.page) (and_from _ _ other refl) in
      let line = before ++ (page ++ letter ∷ []) ++ after in
      let whole = unbroken-append (before ++ (page ++ letter ∷ [])) after (unbroken-append before (page ++ letter ∷ []) before_unbroken name) after_unbroken in
      subst (λ (l : List ℕ). HasFates l []) (append_assoc (before ++ (page ++ letter ∷ [])) after newline) (line_has_none line whole refl)

  charge_has_none : HasFates (charge_text charge) []
  charge_has_none =
      let name = before ++ name_text charge.line.name in
      let price = decimal charge.line.price in
      let moment = decimal charge.line.moment in
      let parts = ap (λ (l : List ℕ). l ++ newline) (regroup name gap price gap moment) ∙ append_assoc name after newline in
      subst (λ (l : List ℕ). HasFates l []) (sym parts) (named (letter == 10) refl)

charges_have_none : (charges : List BillLine) → HasFates (charges_text charges) []
charges_have_none [] = no_fates
charges_have_none (charge ∷ charges) =
    fates-append (charge_text charge) (charges_text charges) [] [] (charge_has_none charge) (charges_have_none charges)

-- ---- outcomes

-- a reply to an editor begins with a capital letter
capital_has_none : (first : ℕ) (rest : List ℕ) → IsInRange first_capital last_capital first → fate_in (first ∷ rest) ≡ []
capital_has_none first rest capital =
    let kept : (first == 107) ≡ false = grind (arith, nat_tests) in
    let lost : (first == 108) ≡ false = grind (arith, nat_tests) in
    rw (kept, lost) refl

reply_has_none : (text : List ℕ) → IsReplyLine text → HasFates (text ++ newline) []
reply_has_none text is = line_has_none text is.whole (ap fate_in is.is ∙ capital_has_none is.first is.rest is.capital)

-- words, a number, and an acknowledgement
arrival_has_none : (words : List ℕ) (number : ℕ) (ack : Option ℕ) → HasNoLineEnd words
    → fate_in (words ++ decimal number ++ ack_text ack) ≡ []
    → HasFates (words ++ decimal number ++ ack_text ack ++ newline) []
arrival_has_none words number ack whole none =
    line_has_none (words ++ decimal number ++ ack_text ack) (unbroken-append (words ++ decimal number) (ack_text ack) (numbered words number whole) (ack_unbroken ack)) none

full_has_none : (count : ℕ) → HasFates (codes "full " ++ decimal count ++ newline) []
full_has_none count = numbered_has_none (codes "full ") count refl refl

-- what is written for limits
pub limits_have_none : (limits : Limits) → HasFates (limits_text limits) []
limits_have_none limits = twice_has_none (codes "limits ") limits.frames (codes " ") limits.records refl refl refl

-- what is written for an outcome
pub outcome_has_its_fate : (outcome : Outcome) → RepliesByLine outcome → HasFates (answer_text outcome) (fate_of outcome)
outcome_has_its_fate (outcomes.Reply text) is = reply_has_none text is
outcome_has_its_fate (outcomes.Shown turn) is = turn_has_none turn
outcome_has_its_fate outcomes.Busy is = line_has_none (codes "busy") refl refl
outcome_has_its_fate outcomes.Quiet is = line_has_none (codes "quiet") refl refl
outcome_has_its_fate outcomes.Owes is = line_has_none (codes "owes") refl refl
outcome_has_its_fate outcomes.Owing is = line_has_none (codes "owing") refl refl
outcome_has_its_fate outcomes.NoCall is = line_has_none (codes "no call") refl refl
outcome_has_its_fate outcomes.Nothing is = line_has_none (codes "nothing") refl refl
outcome_has_its_fate outcomes.Hung is = line_has_none (codes "hung") refl refl
outcome_has_its_fate outcomes.Stored is = line_has_none (codes "stored") refl refl
outcome_has_its_fate (outcomes.StoreFull count screen) is =
    let turn : Turn = record { screen = screen; ended = Some why.Full } in
    fates-append (codes "full " ++ decimal count ++ newline) (turn_text turn) [] [] (full_has_none count) (turn_has_none turn)
outcome_has_its_fate (outcomes.Turns turns) is = turns_have_none turns
outcome_has_its_fate outcomes.Idle is = line_has_none (codes "idle") refl refl
outcome_has_its_fate outcomes.PacketsFull is = line_has_none (codes "packets full") refl refl
outcome_has_its_fate outcomes.NoPacket is = line_has_none (codes "no packet") refl refl
outcome_has_its_fate (outcomes.SentRecord index number) is =
    twice_has_none (codes "sent ") index (codes " record ") number refl refl refl
outcome_has_its_fate (outcomes.SentItem index number) is =
    twice_has_none (codes "sent ") index (codes " item ") number refl refl refl
outcome_has_its_fate (outcomes.Taken number ack) is = arrival_has_none (codes "taken ") number ack refl refl
outcome_has_its_fate (outcomes.Old number ack) is = arrival_has_none (codes "old ") number ack refl refl
outcome_has_its_fate (outcomes.Early number ack) is = arrival_has_none (codes "early ") number ack refl refl
outcome_has_its_fate (outcomes.Heard number) is = numbered_has_none (codes "heard ") number refl refl
outcome_has_its_fate (outcomes.Full count) is = full_has_none count
outcome_has_its_fate (outcomes.Carried records items) is =
    twice_has_none (codes "carried ") records (codes " ") items refl refl refl
outcome_has_its_fate (outcomes.Crashed count) is = numbered_has_none (codes "crashed ") count refl refl
outcome_has_its_fate outcomes.Kept is = λ rest. refl
outcome_has_its_fate outcomes.Lost is = λ rest. refl
outcome_has_its_fate outcomes.NotStored is = line_has_none (codes "none") refl refl
outcome_has_its_fate (outcomes.Clock moment) is = numbered_has_none (codes "clock ") moment refl refl
outcome_has_its_fate outcomes.NotHeld is = line_has_none (codes "-") refl refl
outcome_has_its_fate (outcomes.Applied count) is = numbered_has_none (codes "applied ") count refl refl
outcome_has_its_fate (outcomes.Records count) is = numbered_has_none (codes "records ") count refl refl
outcome_has_its_fate (outcomes.Bill lines pence) is =
    let sum = numbered_has_none (codes "sum ") pence refl refl in
    fates-append (charges_text lines) (codes "sum " ++ decimal pence ++ newline) [] [] (charges_have_none lines) sum

-- what is written for the outcome of an event
pub event_has_its_fate : (outcome : Outcome) → RepliesByLine outcome → HasFatesOf (answer_text outcome) (outcome ∷ [])
event_has_its_fate outcome is =
    subst (HasFates (answer_text outcome)) (sym (append-nil (fate_of outcome))) (outcome_has_its_fate outcome is)
