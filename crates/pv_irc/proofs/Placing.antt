-- What a place of the edit list brings, with one record more.
use Rattle.std.proofs.Common.{◌≡◌, ℕ, suc, ◌+◌, ◌<◌, ◌≤◌, Bool, true, false, cond, eqb, not, List, [], ◌∷◌, ◌++◌, length, take, None, refl, ap, sym, ◌∙◌, arith}
use Rattle.std.specs.Prelude.{slice_get}
use Rattle.std.specs.List.{All, position_or_len}
use Rattle.std.proofs.Math.Seq.{take-append_seam}
use Rattle.std.proofs.lemmas.Bool.{eqb-true, eqb-false}
use Rattle.std.proofs.lemmas.Bool.Decides.{nat_tests}
use Rattle.std.proofs.lemmas.List.{length-append, take-append-le}
use Rattle.std.proofs.lemmas.List.Elements.{All-head, All-tail}
use Rattle.std.proofs.lemmas.List.Folds.{position_or_len_push}
use Rattle.std.proofs.lemmas.List.Sums.{prefix_len-le-length}
use Rattle.std.proofs.lemmas.Option.{slice_get_past}
use Rattle.pv_fields.specs.Reading.{◌>>=◌}
use Rattle.pv_post.specs.Waiting.{letters_with_arrival, waiting_letters}
use Rattle.pv_post.specs.declared.removal.Removal.{Removal}
use Rattle.pv_post.proofs.CallerLemmas.{left-earlier, waiting-arrivals}
use Rattle.pv_edits.specs.Letters.{letter_brought}
use Rattle.pv_edits.specs.declared.record.Record.{Record}
use Rattle.pv_edits.proofs.CallerLemmas.{get_before, get_at_end}
use Rattle.pv_irc.specs.History.{letter_of_record, letter_of_place}

-- a place above all of a list has none there
pub index-above : (place : ℕ) (places : List ℕ) → All (λ other. other < place) places → position_or_len (eqb place) places ≡ length places
index-above place [] below = refl
index-above place (other ∷ places) below =
    let head = All-head (λ one. one < place) other places below in
    let differs : eqb place other ≡ false = grind (arith, nat_tests, head) in
    let later : suc (position_or_len (eqb place) places) ≡ suc (length places) =
    ap suc (index-above place places (All-tail (λ one. one < place) other places below)) in
    rw differs (omega (arith, later))

module _ (centre account : ℕ) (edits : List Record) (places : List ℕ) (paired : length places ≡ length edits) where
  -- past the last record there is no letter
  pub none-past : (place index : ℕ) (list : List Record) → length list ≤ index → letter_of_record centre account list place index ≡ None
  none-past place index list past =
      ap (λ found. found >>= letter_brought centre account (take index list) place) (slice_get_past list index past)

  -- the records before stay what they were
  record-before : (edit : Record) (place index : ℕ) → index < length edits
      → letter_of_record centre account (edits ++ edit ∷ []) place index ≡ letter_of_record centre account edits place index
  record-before edit place index within =
      ap (λ found. found >>= letter_brought centre account (take index (edits ++ edit ∷ [])) place)
      (get_before edits (edit ∷ []) index within)
      ∙ ap (λ before. slice_get edits index >>= letter_brought centre account before place)
      (take-append-le index edits (edit ∷ []) (omega (arith, within)))

  -- a place brings what it brought, unless it is the new record's
  pub place-before : (edit : Record) (last place : ℕ) → eqb place last ≡ false
      → letter_of_place centre account (edits ++ edit ∷ []) (places ++ last ∷ []) place ≡ letter_of_place centre account edits places place
  place-before edit last place differs =
      ap (letter_of_record centre account (edits ++ edit ∷ []) place) (position_or_len_push (eqb place) places last)
      ∙ by (eqb (position_or_len (eqb place) places) (length places)) refl
    where
      index : ℕ
      index = position_or_len (eqb place) places

      by : (past : Bool) → eqb index (length places) ≡ past
          → letter_of_record centre account (edits ++ edit ∷ []) place (cond past (length places + cond (eqb place last) 0 1) index)
          ≡ letter_of_record centre account edits place index
      by true is =
          let end = eqb-true index (length places) is in
          rw differs (
          none-past place (length places + 1) (edits ++ edit ∷ []) (omega (arith, length-append edits (edit ∷ []), paired))
          ∙ sym (none-past place index edits (omega (arith, end, paired))))
      by false is =
          let most = prefix_len-le-length (λ other. not (eqb place other)) places in
          let apart = eqb-false index (length places) is in
          record-before edit place index (omega (arith, most, apart, paired))

  -- the new record's place brings its letter
  pub place-last : (edit : Record) (place : ℕ) → All (λ other. other < place) places
      → letter_of_place centre account (edits ++ edit ∷ []) (places ++ place ∷ []) place ≡ letter_brought centre account edits place edit
  place-last edit place below =
      let index : position_or_len (eqb place) (places ++ place ∷ []) ≡ length edits =
      position_or_len_push (eqb place) places place
      ∙ rw (index-above place places below) (grind (arith, nat_tests, paired)) in
      ap (letter_of_record centre account (edits ++ edit ∷ []) place) index
      ∙ ap (λ found. found >>= letter_brought centre account (take (length edits) (edits ++ edit ∷ [])) place)
      (get_at_end edits edit (length edits) refl)
      ∙ ap (λ before. letter_brought centre account before place edit) (take-append_seam edits (edit ∷ []))

  -- ---- what waits

  module _ (removals : List Removal) (applied : ℕ) (placed : All (λ place. place < applied) places)
      (stored : All (λ (removal : Removal). removal.place < suc applied) removals) where
    -- a record that was left out brings no letter
    pub waiting-blank : waiting_letters (letter_of_place centre account edits places) removals account applied
        ≡ waiting_letters (letter_of_place centre account edits places) removals account (applied + 1)
    waiting-blank =
        let brought = letter_of_place centre account edits places in
        let none : brought applied ≡ None =
        ap (letter_of_record centre account edits applied) (index-above applied places placed)
        ∙ none-past applied (length places) edits (omega (arith, paired)) in
        let next : applied + 1 ≡ suc applied = omega arith in
        sym (
        ap (waiting_letters brought removals account) next
        ∙ left-earlier account removals (suc applied) _ stored
        ∙ ap (letters_with_arrival (waiting_letters brought removals account applied)) none)

    -- a whole record may bring one
    pub waiting-whole : (edit : Record)
        → letters_with_arrival (waiting_letters (letter_of_place centre account edits places) removals account applied)
        (letter_brought centre account edits applied edit)
        ≡ waiting_letters (letter_of_place centre account (edits ++ edit ∷ []) (places ++ applied ∷ [])) removals account (applied + 1)
    waiting-whole edit =
        let brought = letter_of_place centre account (edits ++ edit ∷ []) (places ++ applied ∷ []) in
        let before = waiting-arrivals account brought (letter_of_place centre account edits places) removals applied
        (λ place below. place-before edit applied place (grind (arith, nat_tests, below))) in
        let last = place-last edit applied placed in
        let next : applied + 1 ≡ suc applied = omega arith in
        sym (
        ap (waiting_letters brought removals account) next
        ∙ left-earlier account removals (suc applied) _ stored
        ∙ (λ i. letters_with_arrival (before i) (last i)))
