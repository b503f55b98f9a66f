-- How far a run of a tape is: which edits its lines so far had, and what of them is stored.
use Rattle.std.proofs.Common.{◌≡◌, ◌⊎◌, inl, inr, ℕ, zero, suc, ◌+◌, ◌-◌, ◌<◌, ◌≤◌, Bool, true, false, List, [], ◌∷◌, ◌++◌, length, take}
use Rattle.std.proofs.Common.{drop, Option, Some, None, refl, sym, ap, subst, ◌∙◌, arith, append_assoc, length-append}
use Rattle.std.specs.Prelude.{nat_le, if◌then◌else◌}
use Rattle.std.proofs.lemmas.Bool.{leb-true, leb-false, le-leb, lt-leb}
use Rattle.std.proofs.lemmas.List.{append-nil}
use Rattle.pv_outside.specs.declared.reports.Reports as reports
use Rattle.pv_journal.proofs.Moments.{only_weaker, only_then}
use Rattle.pv_edits.specs.declared.record.Record.{Record}
use Rattle.pv_edits.specs.declared.wish.EditWish.{EditWish}
use Rattle.pv_node.specs.Parts.{Parts}
use Rattle.pv_node.specs.Standing.{Stands, StandsFor}
use Rattle.pv_node.specs.declared.rules.Rules as rules
use Rattle.pv_udc.specs.EditList.{EditList}
use Rattle.pv_udc.specs.Requests.{edit_of}
use Rattle.pv_udc.specs.declared.reply.UdcReply.{UdcReply}
use Rattle.pv_udc.specs.declared.request.UdcRequest.{UdcRequest}
use Rattle.pv_editor.specs.declared.seat.Working.{Working}
use Rattle.pv_tape.specs.Loading.{edit_records, records_above, asked_records, numbers_after_edit, numbers_after_wish, asked_by_wish}
use Rattle.pv_tape.specs.Loading.{progress_after, asked_by_line, IsLineOn, GainsAll, LeavesPrefix}
use Rattle.pv_tape.specs.Tape.{TapeEdit, AreGood, edits_with, wish_on_line}
use Rattle.pv_tape.specs.declared.line.TapeLine.{TapeLine}
use Rattle.pv_tape.specs.declared.progress.Numbers.{Numbers}
use Rattle.pv_tape.specs.declared.progress.Progress.{Progress}

-- ---- lists

-- the first elements of a list that is one longer are left out
drop_last : {A : Type 0} (n : ℕ) (l : List A) (x : A) → n ≤ length l → drop n (l ++ x ∷ []) ≡ drop n l ++ x ∷ []
drop_last zero l x within = refl
drop_last (suc n) [] x within = absurd (omega (arith, within))
drop_last (suc n) (y ∷ ys) x within = drop_last n ys x (omega (arith, within))

-- all are
drop_all : {A : Type 0} (n : ℕ) (l : List A) → length l ≤ n → drop n l ≡ []
drop_all zero [] over = refl
drop_all zero (y ∷ ys) over = absurd (omega (arith, over))
drop_all (suc n) [] over = refl
drop_all (suc n) (y ∷ ys) over = drop_all n ys (omega (arith, over))

pub length_drop : {A : Type 0} (n : ℕ) (l : List A) → length (drop n l) ≡ length l - n
length_drop zero l = let same : length l ≡ length l - 0 = omega arith in same
length_drop (suc n) [] = let none : 0 ≡ 0 - suc n = omega arith in none
length_drop (suc n) (y ∷ ys) =
    let less : length ys - n ≡ suc (length ys) - suc n = omega arith in length_drop n ys ∙ less

-- a prefix of what is left of a list is one of what is left of a longer one
drop_longer : {A : Type 0} (n : ℕ) (x y : List A) → (more : List A) × (drop n (x ++ y) ≡ drop n x ++ more)
drop_longer zero x y = (y, refl)
drop_longer (suc n) [] y = (drop (suc n) y, refl)
drop_longer (suc n) (c ∷ x) y = drop_longer n x y

take_longer : {A : Type 0} (n : ℕ) (y later : List A) → (m : ℕ) × (take n y ≡ take m (y ++ later))
take_longer zero y later = (0, refl)
take_longer (suc n) [] later = (0, refl)
take_longer (suc n) (c ∷ y) later = let more = take_longer n y later in (suc more.0, ap (λ (l : List _). c ∷ l) more.1)

-- a prefix of a list, after another, is a prefix of these and of what comes later
take_within : {A : Type 0} (x : List A) (n : ℕ) (y later : List A) → (m : ℕ) × (x ++ take n y ≡ take m ((x ++ y) ++ later))
take_within [] n y later = take_longer n y later
take_within (c ∷ x) n y later = let more = take_within x n y later in (suc more.0, ap (λ (l : List _). c ∷ l) more.1)

-- ---- the records of edits

module _ (account : ℕ) where
  pub length_records : (q : ℕ) (edits : List TapeEdit) → length (edit_records account q edits) ≡ length edits
  length_records q [] = refl
  length_records q (edit ∷ later) = ap suc (length_records (q + 1) later)

  pub records_append : (q : ℕ) (x y : List TapeEdit)
      → edit_records account q (x ++ y) ≡ edit_records account q x ++ edit_records account (q + length x) y
  records_append q [] y = let same : q ≡ q + 0 = omega arith in ap (λ (n : ℕ). edit_records account n y) same
  records_append q (edit ∷ x) y =
      let next : q + 1 + length x ≡ q + suc (length x) = omega arith in
      ap (λ (l : List Record). edit_of account q edit.wish ∷ l)
      (records_append (q + 1) x y ∙ ap (λ (n : ℕ). edit_records account (q + 1) x ++ edit_records account n y) next)

  -- what is asked for of some edits is what is asked for first of these and more
  above_append : (last q : ℕ) (x y : List TapeEdit)
      → (more : List Record) × (records_above last account q (x ++ y) ≡ records_above last account q x ++ more)
  above_append last q x y =
      let longer = drop_longer (last + 1 - q) (edit_records account q x) (edit_records account (q + length x) y) in
      (longer.0, ap (drop (last + 1 - q)) (records_append q x y) ∙ longer.1)

  pub length_above : (last q : ℕ) (edits : List TapeEdit) → length (records_above last account q edits) ≤ length edits
  length_above last q edits =
      omega (arith, length_drop (last + 1 - q) (edit_records account q edits), length_records q edits)

-- ---- one line

numbers_on : (n : Numbers) (skips : Bool) (after : Numbers)
    → after ≡ (if skips then record { next = n.next + 1; last = n.last; stored = n.stored }
    else record { next = n.next + 1; last = n.next; stored = n.stored + 1 })
    → ((after.next ≤ n.next + 1) × (after.stored + n.next ≤ n.stored + after.next))
numbers_on n true after is =
    let next = ap (λ (m : Numbers). m.next) is in
    let stored = ap (λ (m : Numbers). m.stored) is in
    (omega (arith, next), omega (arith, next, stored))
numbers_on n false after is =
    let next = ap (λ (m : Numbers). m.next) is in
    let stored = ap (λ (m : Numbers). m.stored) is in
    (omega (arith, next), omega (arith, next, stored))

-- a line is at most an edit
pub line_on : (p : Progress) (wish : Option EditWish) (working : Option Working)
    → IsLineOn p (record { working = working; line = p.line + 1; numbers = numbers_after_wish p.numbers wish })
line_on p None working = record { line = refl; next = omega arith; stored = omega arith }
line_on p (Some wish) working =
    let on = numbers_on p.numbers (nat_le p.numbers.next p.numbers.last) (numbers_after_edit p.numbers) refl in
    record { line = refl; next = on.0; stored = on.1 }

-- an edit whose number is at most the last is skipped
pub edit_skipped : (account : ℕ) (n : Numbers) (wish : EditWish) → n.next ≤ n.last → asked_records account n wish ≡ []
edit_skipped account n wish below = rw (le-leb n.next n.last below) refl

pub numbers_skipped : (n : Numbers) → n.next ≤ n.last
    → record { next = n.next + 1; last = n.last; stored = n.stored } ≡ numbers_after_edit n
numbers_skipped n below = rw (le-leb n.next n.last below) refl

-- another is asked for
pub edit_asked : (account : ℕ) (n : Numbers) (wish : EditWish) → n.last < n.next
    → asked_records account n wish ≡ edit_of account n.next wish ∷ []
edit_asked account n wish over = rw (lt-leb n.next n.last over) refl

pub numbers_asked : (n : Numbers) → n.last < n.next
    → record { next = n.next + 1; last = n.next; stored = n.stored + 1 } ≡ numbers_after_edit n
numbers_asked n over = rw (lt-leb n.next n.last over) refl

-- ---- the numbers of a run

module _ (account first last : ℕ) where
  abbrev wanted : List TapeEdit → List Record
  wanted edits = records_above last account first edits

  -- how far the numbers are after these edits, of which those above the first last number are stored
  pub record IsNumbered (before : List TapeEdit) (n : Numbers) : Type 0 where
    pub next : n.next ≡ first + length before
    pub ahead : (n.last ≡ last) ⊎ ((last < n.last) × (n.last + 1 ≡ n.next))
    pub reached : (length before ≡ 0) ⊎ (n.next ≤ n.last + 1)
    pub stored : n.stored ≡ length (wanted before)

  pub numbered_first : IsNumbered [] (record { next = first; last = last; stored = 0 })
  numbered_first = record {
    next = (let same : first ≡ first + 0 = omega arith in same);
    ahead = inl refl;
    reached = inl refl;
    stored = sym (ap length (drop_all (last + 1 - first) (edit_records account first []) (omega arith)));
  }

  -- an edit more
  module _ (before : List TapeEdit) (n : Numbers) (edit : TapeEdit) (is : IsNumbered before n) where
    abbrev after_by : Bool → Numbers
    after_by skips = if skips then record { next = n.next + 1; last = n.last; stored = n.stored }
        else record { next = n.next + 1; last = n.next; stored = n.stored + 1 }

    abbrev asked_by : Bool → List Record
    asked_by skips = if skips then [] else edit_of account n.next edit.wish ∷ []

    all_before : edit_records account first (before ++ edit ∷ [])
        ≡ edit_records account first before ++ edit_of account n.next edit.wish ∷ []
    all_before = records_append account first before (edit ∷ [])
        ∙ ap (λ (q : ℕ). edit_records account first before ++ edit_of account q edit.wish ∷ []) (sym is.next)

    -- it is asked for exactly if it is not skipped
    wanted_by : (skips : Bool) → nat_le n.next n.last ≡ skips → wanted (before ++ edit ∷ []) ≡ wanted before ++ asked_by skips
    wanted_by true test =
        let below : n.next ≤ n.last = leb-true n.next n.last test in
        let size = length_records account first before in
        let none : drop (last + 1 - first) (edit_records account first before) ≡ [] =
        drop_all (last + 1 - first) (edit_records account first before) (omega (arith, below, size, is.next, is.ahead)) in
        let all : drop (last + 1 - first) (edit_records account first before ++ edit_of account n.next edit.wish ∷ []) ≡ [] =
        drop_all (last + 1 - first) (edit_records account first before ++ edit_of account n.next edit.wish ∷ [])
        (omega (
          arith,
          below,
          size,
          is.next,
          is.ahead,
          length-append (edit_records account first before) (edit_of account n.next edit.wish ∷ []),
        )) in
        ap (drop (last + 1 - first)) all_before ∙ all ∙ sym (append-nil (wanted before) ∙ none)
    wanted_by false test =
        let over : n.last < n.next = leb-false n.next n.last test in
        let size = length_records account first before in
        ap (drop (last + 1 - first)) all_before
        ∙ drop_last (last + 1 - first) (edit_records account first before) (edit_of account n.next edit.wish)
        (omega (arith, over, size, is.next, is.ahead))

    numbered_by : (skips : Bool) → nat_le n.next n.last ≡ skips → IsNumbered (before ++ edit ∷ []) (after_by skips)
    numbered_by true test =
        let below : n.next ≤ n.last = leb-true n.next n.last test in
        let one = length-append before (edit ∷ []) in
        let same : n.last ≡ last = omega (arith, below, is.ahead) in
        record {
          next = omega (arith, one, is.next);
          ahead = inl same;
          reached = inr (omega (arith, below));
          stored = is.stored ∙ ap length (sym (wanted_by true test ∙ append-nil (wanted before)));
        }
    numbered_by false test =
        let over : n.last < n.next = leb-false n.next n.last test in
        let one = length-append before (edit ∷ []) in
        let more = length-append (wanted before) (edit_of account n.next edit.wish ∷ []) in
        let all = ap length (wanted_by false test) in
        let beyond : last < n.next = omega (arith, over, is.ahead) in
        record {
          next = omega (arith, one, is.next);
          ahead = inr (beyond, refl);
          reached = inr (omega arith);
          stored = omega (arith, is.stored, all, more);
        }

  -- a line more
  module _ (before : List TapeEdit) (n : Numbers) (line : ℕ) (is : IsNumbered before n) where
    pub wanted_more : (wish : Option EditWish)
        → wanted (before ++ edits_with line wish []) ≡ wanted before ++ asked_by_wish account n wish
    wanted_more None = ap wanted (append-nil before) ∙ sym (append-nil (wanted before))
    wanted_more (Some wish) = wanted_by before n (record { line = line; wish = wish }) is (nat_le n.next n.last) refl

    pub numbered_more : (wish : Option EditWish) → IsNumbered (before ++ edits_with line wish []) (numbers_after_wish n wish)
    numbered_more None = subst (λ (l : List TapeEdit). IsNumbered l n) (sym (append-nil before)) is
    numbered_more (Some wish) = numbered_by before n (record { line = line; wish = wish }) is (nat_le n.next n.last) refl

-- an edit before others
edits_split : (line : ℕ) (wish : Option EditWish) (later : List TapeEdit) → edits_with line wish later ≡ edits_with line wish [] ++ later
edits_split line None later = refl
edits_split line (Some wish) later = refl

-- ---- a run

module _ {S D : Type 0} (r : rules.Ghosts S EditList UdcRequest Record UdcReply) (g : reports.Ghosts D)
    (account first last : ℕ) (old : Parts D EditList Record) where
  -- how far a run of these edits is, with these lines to come
  pub record IsGoing (edits : List TapeEdit) (new : Parts D EditList Record) (p : Progress) (lines : List (List ℕ)) : Type 0 where
    pub before : List TapeEdit
    pub later : List TapeEdit
    pub edits_are : edits ≡ before ++ later
    pub good : AreGood p.working p.line lines later
    pub numbered : IsNumbered account first last before p.numbers
    pub gained : GainsAll r g old new (records_above last account first before)
    pub moments : LeavesPrefix r g old new (records_above last account first edits)

  module _ {edits : List TapeEdit} {node : Parts D EditList Record} {p : Progress} {text : List ℕ} {texts : List (List ℕ)}
      (going : IsGoing edits node p (text ∷ texts)) where
    -- the line that comes next
    pub line_next : TapeLine
    line_next = going.good.0

    abbrev here : List TapeEdit
    here = edits_with p.line (wish_on_line p.working going.good.0) []

    abbrev asked : List Record
    asked = asked_by_line account p going.good.0

    edits_next : edits ≡ (going.before ++ here) ++ going.good.1
    edits_next = going.edits_are ∙ ap (λ (l : List TapeEdit). going.before ++ l)
        (going.good.5 ∙ edits_split p.line (wish_on_line p.working going.good.0) going.good.1)
        ∙ sym (append_assoc going.before here going.good.1)

    wanted_next : records_above last account first (going.before ++ here) ≡ records_above last account first going.before ++ asked
    wanted_next = wanted_more account first last going.before p.numbers p.line going.numbered (wish_on_line p.working going.good.0)

    -- while it is done, a crash leaves a prefix of what is wanted
    pub moments_next : (new : Parts D EditList Record) → LeavesPrefix r g node new (asked_by_line account p going.good.0)
        → LeavesPrefix r g old new (records_above last account first edits)
    moments_next new moments = λ records stands.
        let done = records_above last account first going.before in
        let longer = above_append account last first (going.before ++ here) going.good.1 in
        let whole : records_above last account first edits ≡ (done ++ asked) ++ longer.0 =
        ap (records_above last account first) edits_next ∙ longer.1 ∙ ap (λ (l : List Record). l ++ longer.0) wanted_next in
        let now = moments (records ++ done) (going.gained records stands) in
        let weaker = only_weaker g {old = node.journal.disk} {new = new.journal.disk}
        {P = λ image. (n : ℕ) × Stands r image ((records ++ done) ++ take n asked)}
        {Q = λ image. (n : ℕ) × Stands r image (records ++ take n (records_above last account first edits))}
        (λ told image left.
        let more = take_within done left.0 asked longer.0 in
        let is : (records ++ done) ++ take left.0 asked ≡ records ++ take more.0 (records_above last account first edits) =
        append_assoc records done (take left.0 asked)
        ∙ ap (λ (l : List Record). records ++ l) (more.1 ∙ ap (take more.0) (sym whole)) in
        (more.0, subst (λ (l : List Record). Stands r image l) is left.1)) now in
        only_then g {first = old.journal.disk} {second = node.journal.disk} {third = new.journal.disk}
        (going.moments records stands) weaker.time weaker.now

    -- it was done
    pub going_next : (new : Parts D EditList Record) (after : Progress) → after ≡ progress_after p going.good.0
        → GainsAll r g node new (asked_by_line account p going.good.0)
        → LeavesPrefix r g node new (asked_by_line account p going.good.0)
        → IsGoing edits new after texts
    going_next new after is gains moments =
        let done = records_above last account first going.before in
        subst (λ (q : Progress). IsGoing edits new q texts) (sym is) (record {
          before = going.before ++ here;
          later = going.good.1;
          edits_are = edits_next;
          good = going.good.4;
          numbered = numbered_more account first last going.before p.numbers p.line going.numbered (wish_on_line p.working going.good.0);
          gained = subst (GainsAll r g old new) (sym wanted_next) (λ records stands.
              subst (λ (l : List Record). StandsFor r g new l) (append_assoc records done asked)
              (gains (records ++ done) (going.gained records stands)));
          moments = moments_next new moments;
        })
