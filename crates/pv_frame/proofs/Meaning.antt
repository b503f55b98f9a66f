-- The error of a frame is what it says, and a frame without error is well formed.
use Rattle.std.proofs.lemmas.{Grind.common_steps, Bool.{cases_Bool, leb-false, leb-true, le-leb, ltb-true, ltb-false, not-true, not-false}}
use Rattle.std.proofs.lemmas.Bool.Decides.{Decides-and, Decides-eqb, Decides-ltb, Decides-like, Decides-by_and, not_from_Decides}
use Rattle.std.proofs.lemmas.List.{Elements.All-append, Folds.list_all-append, Quantifiers.position-Some}
use Rattle.std.proofs.Common.{◌≡◌, ℕ, zero, suc, ◌+◌, ◌<◌, ◌≤◌, Bool, true, false, not, List, [], ◌∷◌, ◌++◌, length, get_or, All, Option, Some, None, refl, sym, subst, ◌∙◌, inl, inr, max, min, arith}
use Rattle.std.specs.{Prelude.{option_map, position, nat_lt, nat_le, ◌==◌, ◌&&◌, ◌↔◌, Any, AllPairs}, Int.{is_in_range, IsInRange}}
use Rattle.std.specs.{List.list_all, Bool.Decides}
use Rattle.pv_frame.proofs.Vocabulary.{LAST_CELL, IsCell, first_of, some_if, Kind, Information, Response, Mail, Field, FieldKind, Digits, Words, FrameError, Cell, Price, FieldRange, FieldsMeet, Shape, Code, LAST_PRICE, ACCOUNT_DIGITS, MAIL_TEXTS, Content, is_cell, column_after, lies_in_body, meets, ShareCell, first_meeting, is_digits, takes_text, has_shape, price_error, meeting_error, shape_error, field_errors, error_of, IsValid, HasRanges, LiesInBody, HasShape, IsWellFormed, field_at, IsBefore, IsFirstMeeting, HasCause, no_field}
use Rattle.pv_frame.proofs.{Cells.Decides-cells, Searching.all_fail}

-- ---- what each test decides

Decides-leb : (a b : ℕ) → Decides (nat_le a b) (a ≤ b)
Decides-leb a b = (leb-true a b, le-leb a b)

Decides-range : (low high n : ℕ) → Decides (is_in_range low high n) (IsInRange low high n)
Decides-range low high n = Decides-and (nat_le low n) (nat_le n high) (Decides-leb low n) (Decides-leb n high)

Decides-lies_in_body : (field : Field) → Decides (lies_in_body field) (LiesInBody field)
Decides-lies_in_body field = grind (arith, common_steps, Decides-and, Decides-leb, Decides-range, column_after)

-- two fields meet exactly if some cell lies in both
pub Decides-meets : (a b : Field) → Decides (meets a b) (ShareCell a b)
Decides-meets a b =
    let from = max a.column b.column in
    let to = min (column_after a) (column_after b) in
    Decides-like _ (λ both. (a.row, from, (refl, omega arith, omega arith), (both.0, omega arith, omega arith)))
    (λ shared. (sym shared.2.0 ∙ shared.3.0, omega (arith, shared.2.1, shared.2.2, shared.3.1, shared.3.2)))
    (Decides-and (a.row == b.row) (nat_lt from to) (Decides-eqb a.row b.row) (Decides-ltb from to))

Decides-digits : (kind : FieldKind) → Decides (is_digits kind) (kind ≡ Digits)
Decides-digits Digits = (λ is. refl, λ is. refl)
Decides-digits Words = (λ is. absurd cc, λ is. absurd cc)

Decides-words : (kind : FieldKind) → Decides (not (is_digits kind)) (kind ≡ Words)
Decides-words Digits = (λ is. absurd cc, λ is. absurd cc)
Decides-words Words = (λ is. refl, λ is. refl)

Decides-shape : (kind : Kind) (fields : List Field) → Decides (has_shape kind fields) (HasShape kind fields)
Decides-shape Information fields = Decides-eqb (length fields) 0
Decides-shape Response fields = Decides-ltb 0 (length fields)
Decides-shape Mail [] = (λ is. absurd cc, λ is. absurd is)
Decides-shape Mail (account ∷ texts) =
    Decides-and _ _
    (Decides-and _ _ (Decides-and _ _ (Decides-digits account.kind) (Decides-eqb account.length ACCOUNT_DIGITS))
    (Decides-range 1 MAIL_TEXTS (length texts)))
    (Decides-by_and takes_text (λ text. text.kind ≡ Words) (list_all takes_text) (λ text. Decides-words text.kind) refl (λ _ _. refl) texts)

-- ---- two fields that meet

-- what the first pair of fields that meet says, where the fields are counted from a number on
abbrev SaysMeeting : ℕ → List Field → Option (ℕ × ℕ) → Type 0
SaysMeeting at fields None = AllPairs (λ a b. ¬ ShareCell a b) fields
SaysMeeting at fields (Some pair) = (i : ℕ) × (j : ℕ) × (pair ≡ (at + i, at + j)) × IsFirstMeeting fields i j

module _ (at : ℕ) (field : Field) (others : List Field) where
  -- the field shares no cell with one that it does not meet
  apart : (q : ℕ) (d : Field) → meets field (get_or others q d) ≡ false → ¬ ShareCell field (get_or others q d)
  apart q d = not_from_Decides _ (Decides-meets field (get_or others q d))

  -- the first field meets that at k
  here : (k : ℕ) → position (meets field) others ≡ Some k → SaysMeeting at (field ∷ others) (Some (at, at + 1 + k))
  here k is =
      let found = position-Some (meets field) others k no_field is in
      let share = (Decides-meets field (get_or others k no_field)).0 found.1 in
      (0, suc k, grind arith, (omega arith, omega (arith, found.0), share, before))
    where
      before : (p q : ℕ) → p < q → q < suc (length others) → IsBefore p q 0 (suc k)
          → ¬ ShareCell (field_at (field ∷ others) p) (field_at (field ∷ others) q)
      before p zero order within is = absurd (omega arith)
      before zero (suc q) order within (inl less) = absurd (omega arith)
      before zero (suc q) order within (inr same) =
          apart q no_field ((position-Some (meets field) others k no_field is).2 q (omega (arith, same.1)))
      before (suc p) (suc q) order within (inl less) = absurd (omega arith)
      before (suc p) (suc q) order within (inr same) = absurd (omega (arith, same.0))

  -- the first field meets none
  later : position (meets field) others ≡ None → (pair : Option (ℕ × ℕ)) → SaysMeeting (at + 1) others pair
      → SaysMeeting at (field ∷ others) (first_of (pair ∷ []))
  later none None says = pairs
    where
      pairs : AllPairs (λ a b. ¬ ShareCell a b) (field ∷ others)
      pairs p zero d order within = absurd (omega arith)
      pairs zero (suc q) d order within = apart q d (all_fail (meets field) others none q d (omega arith))
      pairs (suc p) (suc q) d order within = says p q d (omega arith) (omega arith)
  later none (Some pair) says =
      (suc says.0, suc says.1, says.2 ∙ grind arith, (omega (arith, says.3.0), omega (arith, says.3.1), says.3.2, before))
    where
      before : (p q : ℕ) → p < q → q < suc (length others) → IsBefore p q (suc says.0) (suc says.1)
          → ¬ ShareCell (field_at (field ∷ others) p) (field_at (field ∷ others) q)
      before p zero order within is = absurd (omega arith)
      before zero (suc q) order within is = apart q no_field (all_fail (meets field) others none q no_field (omega arith))
      before (suc p) (suc q) order within (inl less) = says.3.3 p q (omega arith) (omega arith) (inl (omega arith))
      before (suc p) (suc q) order within (inr same) =
          says.3.3 p q (omega arith) (omega arith) (inr (omega (arith, same.0), omega (arith, same.1)))

  first : (k : Option ℕ) → position (meets field) others ≡ k → SaysMeeting (at + 1) others (first_meeting (at + 1) others)
      → SaysMeeting at (field ∷ others) (first_of (option_map (λ (k : ℕ). (at, at + 1 + k)) k ∷ first_meeting (at + 1) others ∷ []))
  first None is says = later is (first_meeting (at + 1) others) says
  first (Some k) is says = here k is

says_meeting : (at : ℕ) (fields : List Field) → SaysMeeting at fields (first_meeting at fields)
says_meeting at [] = λ p q d order within. absurd (omega arith)
says_meeting at (field ∷ others) = first at field others (position (meets field) others) refl (says_meeting (at + 1) others)

-- ---- the whole

-- a cell is over 127
some_over : (cells : List ℕ) → list_all is_cell cells ≡ false → Any (λ cell. LAST_CELL < cell) cells
some_over [] is = absurd cc
some_over (cell ∷ cells) is =
    elim (cases_Bool (is_cell cell)) [
      | inl fits ↦ let found = some_over cells (rw fits at is) in (suc found.0, found.1, omega (arith, found.2), found.3, found.4)
      | inr over ↦ (0, cell, omega arith, refl, leb-false cell LAST_CELL over)
    ]

module _ (frame : Content) where
  by_shape : HasRanges frame → All LiesInBody frame.fields → AllPairs (λ a b. ¬ ShareCell a b) frame.fields
      → (b : Bool) → has_shape frame.kind frame.fields ≡ b → HasCause frame (first_of (some_if (not b) Shape ∷ []))
  by_shape ranges inside apart true is =
      record { ranges = ranges; inside = inside; apart = apart; shape = (Decides-shape frame.kind frame.fields).0 is }
  by_shape ranges inside apart false is = (ranges, inside, apart, not_from_Decides _ (Decides-shape frame.kind frame.fields) is)

  by_meeting : HasRanges frame → All LiesInBody frame.fields → (pair : Option (ℕ × ℕ)) → SaysMeeting 0 frame.fields pair
      → HasCause frame (first_of (option_map (λ pair. FieldsMeet pair.0 pair.1) pair ∷ shape_error frame.kind frame.fields ∷ []))
  by_meeting ranges inside None says = by_shape ranges inside says (has_shape frame.kind frame.fields) refl
  by_meeting ranges inside (Some pair) says =
      let same : pair ≡ (says.0, says.1) = says.2 ∙ grind arith in
      subst (λ (pair : ℕ × ℕ). HasCause frame (Some (FieldsMeet pair.0 pair.1))) (sym same) (ranges, inside, says.3)

  by_range : HasRanges frame → (i : Option ℕ) → position (λ field. not (lies_in_body field)) frame.fields ≡ i
      → HasCause frame (first_of (option_map FieldRange i ∷ meeting_error frame.fields ∷ shape_error frame.kind frame.fields ∷ []))
  by_range ranges None is =
      by_meeting ranges
      (λ k d within. (Decides-lies_in_body (get_or frame.fields k d)).0 (not-false _ (all_fail _ frame.fields is k d within)))
      (first_meeting 0 frame.fields) (says_meeting 0 frame.fields)
  by_range ranges (Some i) is =
      let found = position-Some (λ field. not (lies_in_body field)) frame.fields i no_field is in (
        ranges,
        (
          found.0,
          not_from_Decides _ (Decides-lies_in_body (field_at frame.fields i)) (not-true _ found.1),
          λ k before. (Decides-lies_in_body (field_at frame.fields k)).0 (not-false _ (found.2 k before)),
        ),
      )

  by_price : All IsCell frame.title → All IsCell frame.body → (b : Bool) → nat_lt LAST_PRICE frame.price ≡ b
      → HasCause frame (first_of (some_if b Price ∷ field_errors frame.kind frame.fields))
  by_price title body true is = ltb-true LAST_PRICE frame.price is
  by_price title body false is = by_range (record { title = title; body = body; price = ltb-false LAST_PRICE frame.price is }) _ refl

  by_cells : (b : Bool) → (list_all is_cell frame.title && list_all is_cell frame.body) ≡ b
      → HasCause frame (first_of (some_if (not b) Cell ∷ price_error frame.price ∷ field_errors frame.kind frame.fields))
  by_cells true is =
      let cells = (Decides-and _ _ (Decides-cells frame.title) (Decides-cells frame.body)).0 is in by_price cells.0 cells.1 _ refl
  by_cells false is = some_over (frame.title ++ frame.body) (list_all-append is_cell frame.title frame.body ∙ is)

-- the error is what it says
pub says : (frame : Content) → HasCause frame (error_of frame)
says frame = by_cells frame _ refl

-- a well-formed frame has no error
no_error : (frame : Content) (error : Option FrameError) → IsWellFormed frame → HasCause frame error → error ≡ None
no_error frame None is it = refl
no_error frame (Some Cell) is it = grind (arith, common_steps, All-append)
no_error frame (Some Price) is it = absurd (omega (arith, is.ranges.price))
no_error frame (Some (FieldRange i)) is it = absurd (it.1.1 (is.inside i no_field it.1.0))
no_error frame (Some (FieldsMeet i j)) is it = absurd (is.apart i j no_field it.2.0 it.2.1 it.2.2)
no_error frame (Some Shape) is it = absurd (it.3 is.shape)
no_error frame (Some (Code at)) is it = absurd it

pub valid : (frame : Content) → IsValid frame ↔ IsWellFormed frame
valid frame = (λ none. subst (HasCause frame) none (says frame), λ is. no_error frame (error_of frame) is (says frame))

-- a valid frame has its cells and its price in range
pub HasRanges-valid : (frame : Content) → IsValid frame → HasRanges frame
HasRanges-valid frame is = ((valid frame).0 is).ranges

-- what is known of fields that meet
pub ruleset meets_says = (Decides-meets)
