-- A run begins, ends after its last line, or stops at one.
use Rattle.std.proofs.Common.{◌≡◌, ◌⊎◌, inl, inr, ℕ, ◌+◌, ◌-◌, ◌<◌, ◌≤◌, List, [], ◌∷◌, ◌++◌, length, take, Option, Some, None, refl, sym, ap}
use Rattle.std.proofs.Common.{subst, ◌∙◌, arith}
use Rattle.std.proofs.lemmas.List.{append-nil}
use Rattle.std.proofs.Math.Seq.{drop-nil}
use Rattle.pv_outside.specs.Counts.{Rose}
use Rattle.pv_outside.specs.declared.failed.TheConstants.{COUNT_END}
use Rattle.pv_outside.specs.declared.reports.Reports as reports
use Rattle.pv_edits.specs.declared.record.Record.{Record}
use Rattle.pv_edits.specs.declared.wish.EditWish.{EditWish}
use Rattle.pv_words.specs.Lines.{lines_of}
use Rattle.pv_node.specs.Parts.{Parts}
use Rattle.pv_journal.specs.Journal.{EachImage}
use Rattle.pv_journal.proofs.Moments.{only_none, only_weaker}
use Rattle.pv_node.specs.Standing.{Stands, StandsEither, StandsFor}
use Rattle.pv_node.specs.declared.rules.Rules as rules
use Rattle.pv_udc.specs.EditList.{EditList}
use Rattle.pv_udc.specs.Requests.{edit_of}
use Rattle.pv_udc.specs.declared.reply.UdcReply.{UdcReply}
use Rattle.pv_udc.specs.declared.request.UdcRequest.{UdcRequest}
use Rattle.pv_tape.specs.Loading.{last_number_of, wanted_records, progress_after, asked_by_line, asked_records, GainsAll, LeavesPrefix}
use Rattle.pv_tape.specs.Loading.{IsLineStop, IsLoaded, IsLoadEnd}
use Rattle.pv_tape.specs.Tape.{TapeEdit, AreGood, wish_on_line, edits_with, second_line}
use Rattle.pv_tape.specs.declared.end.TapeEnd.{TapeEnd}
use Rattle.pv_tape.specs.declared.end.TapeEnd.TheVariants.{Done, ReadFault, TooLong, BadTape, NotKnown, Refused, Full, DiskFault, Memory}
use Rattle.pv_tape.specs.declared.head.Head.{Head}
use Rattle.pv_tape.specs.declared.line.TapeLine.{TapeLine}
use Rattle.pv_tape.specs.declared.progress.Numbers.{Numbers}
use Rattle.pv_tape.specs.declared.progress.Progress.{Progress}
use Rattle.pv_tape.proofs.Progressing.{IsGoing, length_above, numbered_first, going_next, moments_next, edit_skipped}

-- a count that rose since it was higher rose
pub rose_since : (first before now : ℕ) → first ≤ before → Rose before now → Rose first now
rose_since first before now counted rose = omega (arith, counted, rose)

-- no line is left if no byte is
pub no_lines : (rest : List ℕ) → length rest ≡ 0 → lines_of rest ≡ []
no_lines [] none = refl
no_lines (byte ∷ bytes) none = absurd (omega (arith, none))

-- an edit that is skipped is not asked for
pub skipped_gained : {S D : Type 0} (r : rules.Ghosts S EditList UdcRequest Record UdcReply) (g : reports.Ghosts D)
    (node : Parts D EditList Record) (account : ℕ) (n : Numbers) (wish : EditWish) → n.next ≤ n.last
    → GainsAll r g node node (asked_records account n wish)
skipped_gained r g node account n wish below = λ records stands.
    subst (λ (l : List Record). StandsFor r g node l)
    (sym (ap (λ (l : List Record). records ++ l) (edit_skipped account n wish below) ∙ append-nil records)) stands

module _ {S D : Type 0} (r : rules.Ghosts S EditList UdcRequest Record UdcReply) (g : reports.Ghosts D) (head : Head)
    (edits : List TapeEdit) (old : Parts D EditList Record) where
  abbrev last : ℕ
  last = last_number_of old.state.records head.account

  abbrev Going : Parts D EditList Record → Progress → List (List ℕ) → Type 0
  Going new p lines = IsGoing r g head.account head.first last old edits new p lines

  abbrev LoadEnd : {F : Type 0} → Parts D EditList Record → TapeEnd D F → Type 0
  LoadEnd new end = IsLoadEnd g old.journal.disk new (GainsAll r g old new) old.state.records head edits end

  -- a run goes on as it is if its lines are written in another way
  pub going_at : (new : Parts D EditList Record) (p : Progress) (lines others : List (List ℕ)) → lines ≡ others → Going new p lines
      → Going new p others
  going_at new p lines others same going = subst (Going new p) same going

  -- how far a run is that has asked nothing yet
  abbrev first_progress : Progress
  first_progress = record { working = None; line = second_line; numbers = record { next = head.first; last = last; stored = 0 } }

  pub going_first : (p : Progress) (lines : List (List ℕ)) → p ≡ first_progress → AreGood None second_line lines edits
      → LeavesPrefix r g old old (wanted_records old.state.records head edits) → Going old p lines
  going_first p lines is good moments = subst (λ (q : Progress). Going old q lines) (sym is) (record {
    before = [];
    later = edits;
    edits_are = refl;
    good = good;
    numbered = numbered_first head.account head.first last;
    gained = λ records stands. subst (λ (l : List Record). StandsFor r g old l)
        (sym (ap (λ (l : List Record). records ++ l) (drop-nil (last + 1 - head.first)) ∙ append-nil records)) stands;
    moments = moments;
  })

  -- if no call was made, a crash leaves what there was
  pub none_leaves : ((d : D) (image : List ℕ) → g.left_since d (g.clock d) image → g.may_leave d image ⊎ g.has_forgotten d (g.clock d))
      → ((d : D) → g.has_forgotten d (g.clock d) → COUNT_END ≤ g.clock d) → old.hand ≡ None → (more : List Record)
      → LeavesPrefix r g old old more
  none_leaves only_now now_is_known none more = λ records stands.
      only_weaker g {old = old.journal.disk} {new = old.journal.disk} {P = StandsEither r records None}
      {Q = λ image. (n : ℕ) × Stands r image (records ++ take n more)}
      (λ told image is. (0, subst (λ (l : List Record). Stands r image l) (sym (append-nil records)) is))
      (only_none g only_now now_is_known old.journal.disk (StandsEither r records None)
      (subst (λ (hand : Option Record). EachImage g old.journal.disk (StandsEither r records hand)) none stands.images))

  -- no line is left
  pub going_last : (new : Parts D EditList Record) (p : Progress) → Going new p [] → new.hand ≡ None
      → p.numbers.last ≡ last_number_of new.state.records head.account
      → IsLoaded g old.journal.disk new (GainsAll r g old new) old.state.records head edits p.numbers.stored
      (p.numbers.next - head.first - p.numbers.stored)
  going_last new p going hand last_is =
      let all : edits ≡ going.before =
      going.edits_are ∙ ap (λ (l : List TapeEdit). going.before ++ l) going.good ∙ append-nil going.before in
      let size = ap length all in
      let few = length_above head.account last head.first going.before in
      let q = going.numbered.next in
      let stored = going.numbered.stored in
      record {
        counted = omega (arith, size, q, stored, few);
        asked = stored ∙ ap (λ (l : List TapeEdit). length (wanted_records old.state.records head l)) (sym all);
        gained = subst (λ (l : List TapeEdit). GainsAll r g old new (wanted_records old.state.records head l)) (sym all) going.gained;
        hand = hand;
        reached = reached going.numbered.reached;
      }
    where
      reached : (length going.before ≡ 0) ⊎ (p.numbers.next ≤ p.numbers.last + 1)
          → (length edits ≡ 0) ⊎ (head.first + length edits ≤ last_number_of new.state.records head.account + 1)
      reached (inl none) = inl (ap length
          (going.edits_are ∙ ap (λ (l : List TapeEdit). going.before ++ l) going.good ∙ append-nil going.before) ∙ none)
      reached (inr far) =
          let size = ap length (going.edits_are ∙ ap (λ (l : List TapeEdit). going.before ++ l) going.good ∙ append-nil going.before) in
          inr (omega (arith, size, far, last_is, going.numbered.next))

  -- a line was done
  pub line_done : (node new : Parts D EditList Record) (p after : Progress) (text : List ℕ) (texts : List (List ℕ))
      (going : Going node p (text ∷ texts)) (line : TapeLine) → line ≡ going.good.0 → after ≡ progress_after p line
      → GainsAll r g node new (asked_by_line head.account p line) → LeavesPrefix r g node new (asked_by_line head.account p line)
      → Going new after texts
  line_done node new p after text texts going line same is gains moments =
      going_next r g head.account head.first last old going new after (is ∙ ap (progress_after p) same)
      (subst (λ (l : TapeLine). GainsAll r g node new (asked_by_line head.account p l)) same gains)
      (subst (λ (l : TapeLine). LeavesPrefix r g node new (asked_by_line head.account p l)) same moments)

  -- while it was done, a crash left a prefix of what is wanted
  pub line_leaves : (node new : Parts D EditList Record) (p : Progress) (text : List ℕ) (texts : List (List ℕ))
      (going : Going node p (text ∷ texts)) (line : TapeLine) → line ≡ going.good.0
      → LeavesPrefix r g node new (asked_by_line head.account p line)
      → LeavesPrefix r g old new (wanted_records old.state.records head edits)
  line_leaves node new p text texts going line same moments =
      moments_next r g head.account head.first last old going new
      (subst (λ (l : TapeLine). LeavesPrefix r g node new (asked_by_line head.account p l)) same moments)

  -- a line asked in vain
  module _ (node new : Parts D EditList Record) (p : Progress) (text : List ℕ) (texts : List (List ℕ)) (going : Going node p (text ∷ texts))
      (hand : node.hand ≡ None) (limits : node.state.limits ≡ old.state.limits)
      (counted : g.faults old.journal.disk ≤ g.faults node.journal.disk) where
    abbrev at : EditWish → TapeEdit
    at wish = record { line = p.line; wish = wish }

    edits_then : (wish : EditWish) → going.later ≡ edits_with p.line (Some wish) going.good.1
        → edits ≡ going.before ++ at wish ∷ going.good.1
    edits_then wish is = going.edits_are ∙ ap (λ (l : List TapeEdit). going.before ++ l) is

    gained_still : new ≡ node → GainsAll r g old new (wanted_records old.state.records head going.before)
    gained_still same = subst (λ (n : Parts D EditList Record). GainsAll r g old n (wanted_records old.state.records head going.before))
        (sym same) going.gained

    -- the number of an edit that was asked for is above the account's last at first
    asked_now : p.numbers.last < p.numbers.next → last < head.first + length going.before
    asked_now above = omega (arith, above, going.numbered.next, going.numbered.ahead)

    by_wish : {F : Type 0} (wish : Option EditWish) (end : TapeEnd D F)
        → going.later ≡ edits_with p.line wish going.good.1 → IsLineStop r g node new head.account p.line p.numbers wish end
        → LoadEnd new end
    by_wish None end is stop = absurd stop
    by_wish (Some wish) (Refused line code shown) is stop = record {
      before = going.before;
      edit = at wish;
      later = going.good.1;
      edits_are = edits_then wish is;
      asked = asked_now stop.0;
      gained = gained_still stop.1.0;
      ended = (stop.1.1, ap (λ (n : Parts D EditList Record). n.hand) stop.1.0 ∙ hand, rw (stop.1.0, ← going.numbered.next) stop.1.2);
    }
    by_wish (Some wish) (Full count) is stop = record {
      before = going.before;
      edit = at wish;
      later = going.good.1;
      edits_are = edits_then wish is;
      asked = asked_now stop.0;
      gained = gained_still stop.1.0;
      ended = (
        stop.1.1 ∙ ap (λ (n : Parts D EditList Record). n.state.limits.records) (sym stop.1.0),
        ap (λ (n : Parts D EditList Record). n.hand) stop.1.0 ∙ hand,
        rw (stop.1.0, ← going.numbered.next) stop.1.2,
      );
    }
    by_wish (Some wish) (DiskFault failure) is stop = record {
      before = going.before;
      edit = at wish;
      later = going.good.1;
      edits_are = edits_then wish is;
      asked = asked_now stop.0;
      gained = λ records stands. stop.1.0 _ (going.gained records stands);
      ended = (
        stop.1.1 ∙ ap (λ (q : ℕ). Some (edit_of head.account q wish)) going.numbered.next,
        rose_since _ _ _ counted stop.1.2,
      );
    }
    by_wish (Some wish) (Done stored skipped) is stop = absurd stop.1
    by_wish (Some wish) ReadFault is stop = absurd stop.1
    by_wish (Some wish) TooLong is stop = absurd stop.1
    by_wish (Some wish) (BadTape line) is stop = absurd stop.1
    by_wish (Some wish) NotKnown is stop = absurd stop.1
    by_wish (Some wish) Memory is stop = absurd stop.1

    pub line_stopped : {F : Type 0} (end : TapeEnd D F) (line : TapeLine) → line ≡ going.good.0
        → IsLineStop r g node new head.account p.line p.numbers (wish_on_line p.working line) end → LoadEnd new end
    line_stopped end line same stop = by_wish (wish_on_line p.working going.good.0) end going.good.5
        (subst (λ (l : TapeLine). IsLineStop r g node new head.account p.line p.numbers (wish_on_line p.working l) end) same stop)
