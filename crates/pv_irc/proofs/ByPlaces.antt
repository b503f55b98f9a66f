-- What waits at a centre, by the places of what came down.
use Rattle.std.proofs.Common.{◌≡◌, ℕ, zero, suc, ◌+◌, ◌<◌, ◌≤◌, Bool, true, false, cond, eqb, List, [], ◌∷◌, ◌++◌, length, take, get_or, Option, Some, None, refl, sym, ap, subst, ◌∙◌, append-nil, arith}
use Rattle.std.specs.Prelude.{slice_get}
use Rattle.std.specs.List.{All}
use Rattle.std.proofs.Math.Seq.{take-length}
use Rattle.std.proofs.lemmas.Bool.{eqb-true, eqb-false}
use Rattle.std.proofs.lemmas.List.{take_more, length-take-le}
use Rattle.std.proofs.lemmas.List.Elements.{filter_map-append, All-nil, All-cons}
use Rattle.std.proofs.lemmas.Option.{slice_get-get_or}
use Rattle.pv_fields.specs.Reading.{◌>>=◌}
use Rattle.pv_post.specs.Boxes.{WaitingLetter}
use Rattle.pv_post.specs.Waiting.{waiting_letters}
use Rattle.pv_post.proofs.CallerLemmas.{waiting-arrivals}
use Rattle.pv_edits.specs.Letters.{letter_brought}
use Rattle.pv_edits.specs.declared.record.Record.{Record}
use Rattle.pv_edits.specs.declared.down.DownRecord.{DownRecord}
use Rattle.pv_edits.specs.declared.down.DownRecord.TheVariants.{Whole, Blank}
use Rattle.pv_irc.specs.Growing.{whole_places-push}
use Rattle.pv_irc.specs.History.{whole_in, whole_records, place_if_whole, whole_places, letter_of_record, letter_of_place, letter_down, letters_for, CentreState, IsOfDowns}
use Rattle.pv_irc.proofs.Placing.{index-above, none-past, place-before, place-last}

-- each whole record has a place
paired : (first : ℕ) (downs : List DownRecord) → length (whole_places first downs) ≡ length (whole_records downs)
paired first [] = refl
paired first (Whole edit ∷ downs) = omega (arith, paired (first + 1) downs)
paired first (Blank ∷ downs) = paired (first + 1) downs

-- which is below the count of all
placed : (first : ℕ) (downs : List DownRecord) → All (λ place. place < first + length downs) (whole_places first downs)
placed first [] = All-nil (λ place. place < first + 0)
placed first (down ∷ downs) =
    by down (subst (λ count. All (λ place. place < count) (whole_places (first + 1) downs)) more (placed (first + 1) downs))
  where
    more : first + 1 + length downs ≡ first + suc (length downs)
    more = omega arith

    by : (down : DownRecord) → All (λ place. place < first + suc (length downs)) (whole_places (first + 1) downs)
        → All (λ place. place < first + suc (length downs)) (whole_places first (down ∷ downs))
    by (Whole edit) later =
        All-cons (λ place. place < first + suc (length downs)) first (whole_places (first + 1) downs) (omega arith) later
    by Blank later = later

module _ (centre account : ℕ) where
  -- the letter that a place brings, by what is whole of this
  abbrev brought_by : List DownRecord → ℕ → Option WaitingLetter
  brought_by downs place = letter_of_place centre account (whole_records downs) (whole_places 0 downs) place

  -- one thing more brings its letter at its place, and changes no other place
  brought-next : (before : List DownRecord) (down : DownRecord) (place : ℕ) → brought_by (before ++ down ∷ []) place
      ≡ cond (eqb place (length before)) (whole_in down >>= letter_brought centre account (whole_records before) place)
      (brought_by before place)
  brought-next before down place =
      let records = filter_map-append whole_in before (down ∷ []) in
      let places = whole_places-push 0 before down in
      (λ i. letter_of_place centre account (records i) (places i) place) ∙ by down (eqb place (length before)) refl
    where
      edits : List Record
      edits = whole_records before

      end : ℕ
      end = 0 + length before

      by : (down : DownRecord) (last : Bool) → eqb place (length before) ≡ last
          → letter_of_place centre account (edits ++ whole_records (down ∷ [])) (whole_places 0 before ++ place_if_whole end down) place
          ≡ cond last (whole_in down >>= letter_brought centre account edits place) (brought_by before place)
      by (Whole edit) true is =
          let same : end ≡ place = omega (arith, eqb-true place (length before) is) in
          let below = subst (λ count. All (λ other. other < count) (whole_places 0 before)) same (placed 0 before) in
          ap (λ last. letter_of_place centre account (edits ++ edit ∷ []) (whole_places 0 before ++ last ∷ []) place) same
          ∙ place-last centre account edits (whole_places 0 before) (paired 0 before) edit place below
      by (Whole edit) false is =
          let last : end ≡ length before = omega arith in
          place-before centre account edits (whole_places 0 before) (paired 0 before) edit end place (ap (eqb place) last ∙ is)
      by Blank true is =
          let same : end ≡ place = omega (arith, eqb-true place (length before) is) in
          let below = subst (λ count. All (λ other. other < count) (whole_places 0 before)) same (placed 0 before) in
          rw (append-nil edits, append-nil (whole_places 0 before)) (
          ap (letter_of_record centre account edits place) (index-above place (whole_places 0 before) below)
          ∙ none-past centre account edits (whole_places 0 before) (paired 0 before) place (length (whole_places 0 before)) edits
          (omega (arith, paired 0 before)))
      by Blank false is = rw (append-nil edits, append-nil (whole_places 0 before)) refl

  -- the places of a prefix bring what they bring in the list
  brought-prefix : (downs : List DownRecord) (count : ℕ) → count ≤ length downs → (place : ℕ) → place < count
      → brought_by (take count downs) place ≡ letter_down centre account downs place
  brought-prefix downs zero within place below = let none : ⊥ = omega (arith, below) in absurd none
  brought-prefix downs (suc count) within place below =
      let down = get_or downs count Blank in
      let next : suc count ≡ count + 1 = omega arith in
      let more : take (suc count) downs ≡ take count downs ++ down ∷ [] =
      ap (λ n. take n downs) next ∙ take_more downs count Blank (omega (arith, within)) in
      let size : length (take count downs) ≡ count = length-take-le count downs (omega (arith, within)) in
      ap (λ list. brought_by list place) more
      ∙ brought-next (take count downs) down place
      ∙ ap (λ n. cond (eqb place n) (whole_in down >>= letter_brought centre account (whole_records (take count downs)) place)
      (brought_by (take count downs) place)) size
      ∙ by (eqb place count) refl (brought-prefix downs count (omega (arith, within)) place)
    where
      by : (last : Bool) → eqb place count ≡ last
          → (place < count → brought_by (take count downs) place ≡ letter_down centre account downs place)
          → cond last (whole_in (get_or downs count Blank) >>= letter_brought centre account (whole_records (take count downs)) place)
          (brought_by (take count downs) place) ≡ letter_down centre account downs place
      by true is rest =
          let same = eqb-true place count is in
          let there = slice_get-get_or downs count Blank (omega (arith, within)) in
          rw (same, there) refl
      by false is rest = let apart = eqb-false place count is in rest (omega (arith, below, apart))

-- the letters that wait are those that the places of what came down brought, less those that were removed
pub letters-by_places : (state : CentreState) (downs : List DownRecord) → IsOfDowns state downs → (account : ℕ)
    → letters_for state account ≡ waiting_letters (letter_down state.centre account downs) state.removals account (length downs)
letters-by_places state downs is account =
    let brought = letter_of_place state.centre account in
    (λ i. waiting_letters (brought (is.edits i) (is.places i)) state.removals account (is.applied i))
    ∙ waiting-arrivals account (brought_by state.centre account downs) (letter_down state.centre account downs)
    state.removals (length downs)
    (λ place below. ap (λ list. brought_by state.centre account list place) (sym (take-length downs))
    ∙ brought-prefix state.centre account downs (length downs) (omega arith) place below)
