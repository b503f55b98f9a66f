-- What is spelled is read again, and what is read is spelled so.
use Rattle.std.proofs.lemmas.{Grind.common_steps, Bool.{cases_Bool, le-ltb, ltb-false, eqb-true}, List.{append-nil, take_all}}
use Rattle.std.proofs.Common.{◌≡◌, ℕ, zero, suc, ◌<◌, ◌≤◌, false, List, [], ◌∷◌, ◌++◌, length, take, map, Option, Some, None, Result, Ok, Err, refl, sym, ap, subst, ◌∙◌, inl, inr, arith}
use Rattle.std.specs.{Prelude.{flat_map, is_none, unwrap_or, ◌==◌}, Int.{w32, to_be_bytes}}
use Rattle.pv_frame.proofs.Vocabulary.{IsPadded, padded_list, first_of, whole, IsBytes, Kind, Information, Response, Mail, FrameCodecError, Short, Version, Invalid, Trailing, FIELDS, VERSION, Content, IsFrame, kind_code, kind_of, route_bytes, route_of, spells_route, field_bytes, field_of, spells_field, fours, error_of, no_field, Field, Raw, IsRaw, raw_bytes, raw_at, frame_of, field_size, first_bad, head_errors, tail_errors, kind_error, route_error, count_error, short_error, field_error, trailing_error, frame_error, raw_error, frame_read, decode_of, raw_of, spelling_of, HasSpelling}
use Rattle.pv_frame.proofs.Fours.{fours_again, fours_found, length-fours, length-read}
use Rattle.pv_frame.proofs.Inverses.{kind_again, kind_found, route_again, route_found, pages_of, field_again, field_found}
use Rattle.pv_frame.proofs.{Lengths.{length-route, length-routes, length-fields}, Parts.Reads-raw, Meaning.HasRanges-valid}
use Rattle.pv_fields.proofs.Readings.{all_found}
use Rattle.pv_fields.proofs.CallerLemmas.{first_of-none, none_of, none_of_both, some_if-false, some_if-none, option_map-none, option_map-none_back, unless_ok, IsPadded-padded_list, take-padded_list, IsBytes-drop, IsBytes-take}

-- ---- what is spelled

IsBytes-append : (xs ys : List ℕ) → IsBytes xs → IsBytes ys → IsBytes (xs ++ ys)
IsBytes-append [] ys first rest i = rest i
IsBytes-append (x ∷ xs) ys first rest zero = first 0
IsBytes-append (x ∷ xs) ys first rest (suc i) = IsBytes-append xs ys (λ i. first (suc i)) rest i

-- a number of four bytes
IsBytes-four : (n : ℕ) → IsBytes (to_be_bytes w32 n)
IsBytes-four n zero = omega arith
IsBytes-four n (suc zero) = omega arith
IsBytes-four n (suc (suc zero)) = omega arith
IsBytes-four n (suc (suc (suc zero))) = omega arith
IsBytes-four n (suc (suc (suc (suc i)))) = omega arith

IsBytes-routes : (routes : List (Option ℕ)) → IsBytes (flat_map route_bytes routes)
IsBytes-routes [] = λ i. omega arith
IsBytes-routes (None ∷ routes) = grind (arith, common_steps, IsBytes-append, IsBytes-four, route_bytes, routes, IsBytes-routes routes)
IsBytes-routes (Some page ∷ routes) = grind (arith, common_steps, IsBytes-append, IsBytes-four, route_bytes, routes, IsBytes-routes routes)

kind_code-byte : (kind : Kind) → kind_code kind < 256
kind_code-byte Information = omega arith
kind_code-byte Response = omega arith
kind_code-byte Mail = omega arith

module _ (frame : Content) (has : HasSpelling frame) where
  pub IsRaw-raw_of : IsRaw (raw_of frame)
  IsRaw-raw_of = record {
    title = has.holds.title;
    body = has.holds.body;
    kind = kind_code-byte frame.kind;
    routes = (omega (arith, length-routes frame.routes, has.holds.routes), IsBytes-routes frame.routes);
    price = let ranges = HasRanges-valid frame has.valid in omega arith;
    group = has.holds.group;
    count = omega (arith, has.holds.fields);
  }

  -- the routes and the fields are read again
  routes : (first_bad spells_route (raw_of frame).routes ≡ None) × (map route_of (fours (raw_of frame).routes) ≡ frame.routes)
  routes = fours_again route_bytes route_of spells_route length-route _ route_again frame.routes has.holds.pages

  fields : (first_bad spells_field (raw_of frame).fields ≡ None) × (map field_of (fours (raw_of frame).fields) ≡ frame.fields)
  fields = fours_again field_bytes field_of spells_field (λ _. refl) (λ _. Unit {0}) (λ field _. field_again field) frame.fields
      (λ k d within. tt)

  frame_again : frame_of (raw_of frame) ≡ frame
  frame_again = λ i. record {
    title = frame.title;
    body = frame.body;
    kind = ap (λ (k : Option Kind). unwrap_or k Information) (kind_again frame.kind) i;
    routes = routes.1 i;
    price = frame.price;
    group = frame.group;
    fields = fields.1 i;
  }

  -- no error applies
  raw_error-none : raw_error (raw_of frame) ≡ None
  raw_error-none =
      let raw = raw_of frame in
      let size : field_size raw ≡ length raw.fields = sym (length-fields frame.fields) in
      let all : take (field_size raw) raw.fields ≡ raw.fields = take_all (field_size raw) raw.fields (omega arith) in
      first_of-none (kind_error raw) _ (some_if-false _ _ (ap is_none (kind_again frame.kind)))
      ∙ first_of-none (route_error raw) _ (option_map-none _ _ routes.0)
      ∙ first_of-none (count_error raw) _ (some_if-false _ _ (le-ltb FIELDS (length frame.fields) has.holds.fields))
      ∙ first_of-none (short_error raw) _ (some_if-false _ _ (le-ltb (length raw.fields) (field_size raw) (omega arith)))
      ∙ first_of-none (field_error raw) _ (option_map-none _ _ (rw all fields.0))
      ∙ first_of-none (trailing_error raw) _ (some_if-false _ _ (le-ltb (field_size raw) (length raw.fields) (omega arith)))
      ∙ first_of-none (frame_error raw) _ (option_map-none Invalid _ (ap error_of frame_again ∙ has.valid))

  -- what is spelled is read again
  pub decode_of-spelling : decode_of (spelling_of frame) ≡ Ok frame
  decode_of-spelling =
      let raw = raw_of frame in
      let read : raw_at (raw_bytes raw) ≡ Some (raw, []) = ap raw_at (sym (append-nil (raw_bytes raw)))
      ∙ Reads-raw.again raw [] refl IsRaw-raw_of in
      rw (read, raw_error-none, frame_again) refl

-- ---- what is read

-- a layout without error
pub record HasLayout (raw : Raw) : Type 0 where
  pub kind : is_none (kind_of raw.kind) ≡ false
  pub routes : first_bad spells_route raw.routes ≡ None
  pub few : raw.count ≤ FIELDS
  pub size : length raw.fields ≡ field_size raw
  pub fields : first_bad spells_field raw.fields ≡ None

pub HasLayout-of : (raw : Raw) → first_of (head_errors raw) ≡ None → first_of (tail_errors raw) ≡ None → HasLayout raw
HasLayout-of raw head tail =
    let kind = none_of (kind_error raw) _ head in
    let route = none_of (route_error raw) _ kind.1 in
    let count = none_of (count_error raw) [] route.1 in
    let short = none_of (short_error raw) _ tail in
    let field = none_of (field_error raw) _ short.1 in
    let trailing = none_of (trailing_error raw) [] field.1 in
    let enough = ltb-false (length raw.fields) (field_size raw) (some_if-none _ Short short.0) in
    let size : length raw.fields ≡ field_size raw =
    omega (arith, ltb-false (field_size raw) (length raw.fields) (some_if-none _ Trailing trailing.0)) in
    record {
      kind = some_if-none _ _ kind.0;
      routes = option_map-none_back _ _ route.0;
      few = ltb-false FIELDS raw.count (some_if-none _ _ count.0);
      size = size;
      fields = rw (take_all (field_size raw) raw.fields (omega arith)) at (option_map-none_back _ _ field.0);
    }

-- there are places for its fields
pub few_fours : (raw : Raw) → HasLayout raw → length (fours raw.fields) ≤ FIELDS
few_fours raw layout = omega (arith, layout.few, length-fours raw.count raw.fields layout.size)

-- the fields in their places
module _ (raw : Raw) (layout : HasLayout raw) (places : List Field)
    (is : places ≡ padded_list no_field FIELDS (map field_of (fours raw.fields))) where
  length-fields_read : length (map field_of (fours raw.fields)) ≡ raw.count
  length-fields_read = length-read field_of raw.count raw.fields layout.size

  pub IsPadded-fields : IsPadded no_field FIELDS raw.count places
  IsPadded-fields = grind (arith, common_steps, IsPadded-padded_list, field_of, fours, length-fields_read, no_field)

  pub take-fields : take raw.count places ≡ map field_of (fours raw.fields)
  take-fields = grind (arith, common_steps, field_of, fours, length-fields_read, no_field, take-padded_list)

module _ (raw : Raw) (is : IsRaw raw) (layout : HasLayout raw) where
  pub IsFrame-frame_of : IsFrame (frame_of raw)
  IsFrame-frame_of = record {
    title = is.title;
    body = is.body;
    routes = length-read route_of 10 raw.routes is.routes.0;
    pages = pages_of (fours raw.routes);
    group = is.group;
    fields = omega (arith, length-read field_of raw.count raw.fields layout.size, layout.few);
  }

  -- the parts of the frame are these
  raw_again : raw_of (frame_of raw) ≡ raw
  raw_again =
      let routes =
      fours_found route_bytes route_of spells_route IsBytes (IsBytes-take 4) (IsBytes-drop 4) route_found 10 raw.routes is.routes.0
      is.routes.1 layout.routes in
      let fields =
      fours_found field_bytes field_of spells_field (λ _. Unit {0}) (λ _ _. tt) (λ _ _. tt) (λ bytes len _. field_found bytes len)
      raw.count raw.fields layout.size tt layout.fields in
      λ i. record {
        title = raw.title;
        body = raw.body;
        kind = kind_found raw.kind layout.kind i;
        routes = routes i;
        price = raw.price;
        group = raw.group;
        count = length-read field_of raw.count raw.fields layout.size i;
        fields = fields i;
      }

read_found : (found : Option Raw) (frame : Content) → frame_read found ≡ Ok frame
    → (raw : Raw) × (found ≡ Some raw) × (raw_error raw ≡ None) × (frame_of raw ≡ frame)
read_found None frame is = absurd cc
read_found (Some raw) frame is = let both = unless_ok (raw_error raw) (frame_of raw) frame is in (raw, refl, both.0, both.1)

-- what is read is spelled so
pub is_found : (bytes : List ℕ) (frame : Content) → IsBytes bytes → decode_of bytes ≡ Ok frame
    → HasSpelling frame × (bytes ≡ spelling_of frame)
is_found [] frame fits is = absurd cc
is_found (version ∷ bytes) frame fits is =
    elim (cases_Bool (version == VERSION)) [
      | inr other ↦ absurd (let none : Err Version ≡ Ok frame = rw other at is in cc)
      | inl same ↦
          let read = read_found (whole raw_at bytes) frame (rw same at is) in
          let raw = read.0 in
          let spelled = all_found (λ raw. raw) IsRaw raw_bytes raw_at Reads-raw bytes (ok raw) (λ i. fits (suc i)) read.1 in
          let parts = none_of_both (head_errors raw) _ read.2 in
          let others = none_of_both (tail_errors raw) _ parts.1 in
          let layout = HasLayout-of raw parts.0 others.0 in
          let valid = option_map-none_back Invalid _ (none_of _ [] others.1).0 in
          subst (λ (frame : Content). HasSpelling frame × (version ∷ bytes ≡ spelling_of frame)) read.3 (
            record { holds = IsFrame-frame_of raw spelled.0 layout; valid = valid },
            ap (λ bytes. version ∷ bytes) spelled.1 ∙ ap (λ v. v ∷ raw_bytes raw) (eqb-true version VERSION same)
                ∙ ap (λ raw. VERSION ∷ raw_bytes raw) (sym (raw_again raw spelled.0 layout)),
          )
    ]
  where
    ok : Raw → Result Raw FrameCodecError
    ok raw = Ok raw

-- what the code that reads follows from
pub ruleset spelled = (decode_of-spelling, is_found)

-- what is known of the fields in their places
pub ruleset places = (HasLayout-of, IsPadded-fields, take-fields, few_fours)
