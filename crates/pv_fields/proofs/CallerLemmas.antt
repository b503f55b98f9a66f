-- What a proof in a crate above may cite.
use Rattle.std.proofs.Common.{◌≡◌, ◌⊎◌, inl, inr, ℕ, ◌+◌, ◌-◌, ◌*◌, ◌<◌, ◌≤◌, Bool, true, false, Option, Some, None, Result, Ok, Err, List, [], ◌∷◌, ◌++◌, length, get_or, set, take, drop, replicate, arith, refl, sym, ap, ◌∙◌, subst, append_assoc, length-append}
use Rattle.std.specs.Prelude.{flat_map, option_map, IsOk}
use Rattle.std.proofs.Math.Nat.{mul-zero, mul-suc, mul-le-mul_left}
use Rattle.std.proofs.lemmas.Bool.{cases_lt}
use Rattle.std.proofs.lemmas.List.{append-nil, drop-drop, get_or-drop, get_or-take, get_or_past, length-take, take_more, length-take-le, length-replicate, length-set, take-append-drop, take_at, drop_at, drop-replicate, drop-set-lt, take_more_set}
use Rattle.std.proofs.lemmas.List.Concat.{flat_map-append}
use Rattle.std.proofs.lemmas.List.Folds.{length-flat_map-take}
use Rattle.pv_fields.specs.Out.{written_of, rest_of, room_of, Appends, Puts}
use Rattle.pv_fields.specs.Padded.{padded_list, IsPadded}
use Rattle.pv_fields.specs.Reading.{IsBytes}
use Rattle.pv_fields.specs.Refusals.{first_of, AreMissing, some_if, unless}
use Rattle.pv_fields.specs.declared.writing.Out.{Out}

-- ---- an encoder of several parts

-- two calls appended the bytes of the first and then those of the second
pub appends_then : {first second third : Out} {one other : List ℕ} → Appends first second one → Appends second third other
    → Appends first third (one ++ other)
appends_then {first} {second} {third} {one} {other} before after = record {
  written = after.written ∙ ap (λ written. written ++ other) before.written ∙ append_assoc (written_of first) one other;
  rest =
      after.rest ∙ ap (λ rest. drop (length other) rest) before.rest ∙ drop-drop (length other) (length one) (rest_of first)
      ∙ ap (λ count. drop count (rest_of first)) (sym (length-append one other));
  room = omega (arith, length-append one other, before.room, after.room);
  slice = after.slice ∙ before.slice;
}

-- after the first bytes there was no room for the others: there was none for both
pub refused_then : {first second : Out} {one : List ℕ} (other : List ℕ) → Appends first second one → room_of second < length other
    → room_of first < length (one ++ other)
refused_then {first} {second} {one} other before less = omega (arith, length-append one other, before.room)

-- after the first bytes a call appended others or had no room: both were appended, or there was no room for both
pub puts_then : {T E : Type 0} {first second : Out} {one : List ℕ} (third : Out) (other : List ℕ) (result : Result T E)
    → Appends first second one → Puts result second third other → Puts result first third (one ++ other)
puts_then third other (Ok x) before after = appends_then before after
puts_then third other (Err e) before less = refused_then other before less

-- with room for all of them a call appended them
pub appends_all : {T E : Type 0} (result : Result T E) (first last : Out) (bytes : List ℕ) → Puts result first last bytes
    → length bytes ≤ room_of first → Appends first last bytes
appends_all (Ok x) first last bytes puts fits = puts
appends_all (Err e) first last bytes puts fits = absurd (omega (arith, puts, fits))

-- and did not fail
pub never_fails : {T E : Type 0} (result : Result T E) (first last : Out) (bytes : List ℕ) → Puts result first last bytes
    → length bytes ≤ room_of first → IsOk result
never_fails (Ok x) first last bytes puts fits = refl
never_fails (Err e) first last bytes puts fits = absurd (omega (arith, puts, fits))

-- what the slice holds of an `Out` that began empty: the bytes, and what it held after them
pub slice_after : (first last : Out) (bytes : List ℕ) → written_of first ≡ [] → Appends first last bytes
    → (last.into.now ≡ bytes ++ drop (length bytes) (rest_of first)) × (length (written_of last) ≡ length bytes)
slice_after first last bytes empty appends =
    let written : written_of last ≡ bytes = appends.written ∙ ap (λ none. none ++ bytes) empty in (
      sym (take-append-drop last.count last.into.now)
          ∙ ap (λ rest. written_of last ++ rest) appends.rest
          ∙ ap (λ all. all ++ drop (length bytes) (rest_of first)) written,
      ap length written,
    )

-- ---- an encoder of a list, item by item

-- one more item is appended
pub append_more : {X : Type 0} (f : X → List ℕ) (xs : List X) (i : ℕ) (d : X) (first now next : Out) → i < length xs
    → Appends first now (flat_map f (take i xs)) → Appends now next (f (get_or xs i d)) → Appends first next (flat_map f (take (i + 1) xs))
append_more f xs i d first now next within before one =
    let x = get_or xs i d in
    let more : flat_map f (take (i + 1) xs) ≡ flat_map f (take i xs) ++ f x =
    ap (flat_map f) (take_more xs i d within) ∙ flat_map-append f (take i xs) (x ∷ [])
    ∙ ap (λ last. flat_map f (take i xs) ++ last) (append-nil (f x)) in
    rw more (appends_then before one)

-- one more spelling is appended in a loop whose item is x
pub appends_more : {X : Type 0} (f : X → List ℕ) (xs : List X) (i : ℕ) (x : X) (first now next : Out) → i < length xs → x ≡ get_or xs i x
    → Appends first now (flat_map f (take i xs)) → Appends now next (f x) → Appends first next (flat_map f (take (i + 1) xs))
appends_more f xs i x first now next within is before one =
    append_more f xs i x first now next within before (subst (λ y. Appends now next (f y)) is one)

-- there was no room for one more item: there was none for all
pub refused_more : {X : Type 0} (f : X → List ℕ) (xs : List X) (i : ℕ) (x : X) (first now : Out) → i < length xs → x ≡ get_or xs i x
    → Appends first now (flat_map f (take i xs)) → room_of now < length (f x) → room_of first < length (flat_map f xs)
refused_more f xs i x first now within is before less =
    omega (arith, length-flat_map-take f xs i x within, ap (λ x. length (f x)) is, before.room)

-- ---- items of the same length

-- n bytes for each item
pub length-pieces : {X : Type 0} (n : ℕ) (f : X → List ℕ) → ((x : X) → length (f x) ≡ n) → (xs : List X)
    → length (flat_map f xs) ≡ n * length xs
length-pieces n f each [] = sym (mul-zero n)
length-pieces n f each (x ∷ xs) =
    omega (arith, length-append (f x) (flat_map f xs), each x, length-pieces n f each xs, mul-suc n (length xs))

-- if all items fit, one more fits after some of them
pub room_for_one : {X : Type 0} (n : ℕ) (f : X → List ℕ) → ((x : X) → length (f x) ≡ n) → (xs : List X) (i : ℕ) (first now : Out)
    → i < length xs → n * length xs ≤ room_of first → Appends first now (flat_map f (take i xs)) → n ≤ room_of now
room_for_one n f each xs i first now within room before =
    let more : n * (i + 1) ≤ n * length xs = mul-le-mul_left n (omega arith) in
    let some : length (flat_map f (take i xs)) ≡ n * i =
    length-pieces n f each (take i xs) ∙ ap (λ k. n * k) (length-take-le i xs (omega arith)) in
    omega (arith, before.room, some, more)

-- ---- the first refusal that applies

module _ {X : Type 0} where
  -- the first optional value is there
  pub first_of-some : (o : Option X) (others : List (Option X)) (x : X) → o ≡ Some x → first_of (o ∷ others) ≡ Some x
  first_of-some (Some y) others x is = is
  first_of-some None others x is = absurd cc

  -- it is not
  pub first_of-none : (o : Option X) (others : List (Option X)) → o ≡ None → first_of (o ∷ others) ≡ first_of others
  first_of-none (Some y) others is = absurd cc
  first_of-none None others is = refl

  -- the first value is the first optional one, or that is missing
  pub some_of : (o : Option X) (others : List (Option X)) (x : X) → first_of (o ∷ others) ≡ Some x
      → (o ≡ Some x) ⊎ ((o ≡ None) × (first_of others ≡ Some x))
  some_of None others x some = inr (refl, some)
  some_of (Some y) others x some = inl some

  -- there is no value: each is missing
  pub none_of : (o : Option X) (others : List (Option X)) → first_of (o ∷ others) ≡ None → (o ≡ None) × (first_of others ≡ None)
  none_of None others none = (refl, none)
  none_of (Some x) others none = absurd cc

  -- of all of them
  pub all_missing : (os : List (Option X)) → first_of os ≡ None → AreMissing os
  all_missing [] none = tt
  all_missing (o ∷ others) none = let parts = none_of o others none in (parts.0, all_missing others parts.1)

  -- of one optional value
  pub first_of-one : (o : Option X) → first_of (o ∷ []) ≡ o
  first_of-one (Some x) = refl
  first_of-one None = refl

  -- of two lists, if the first has no value
  pub first_of-append_none : (os others : List (Option X)) → first_of os ≡ None → first_of (os ++ others) ≡ first_of others
  first_of-append_none [] others none = refl
  first_of-append_none (None ∷ os) others none = first_of-append_none os others none
  first_of-append_none (Some x ∷ os) others none = absurd cc

  -- of two lists, if the first has one
  pub first_of-append_some : (os others : List (Option X)) (x : X) → first_of os ≡ Some x → first_of (os ++ others) ≡ Some x
  first_of-append_some [] others x some = absurd cc
  first_of-append_some (None ∷ os) others x some = first_of-append_some os others x some
  first_of-append_some (Some y ∷ os) others x some = some

  -- of two lists, if neither has one
  pub none_of_both : (os others : List (Option X)) → first_of (os ++ others) ≡ None → (first_of os ≡ None) × (first_of others ≡ None)
  none_of_both [] others none = (refl, none)
  none_of_both (None ∷ os) others none = none_of_both os others none
  none_of_both (Some x ∷ os) others none = absurd cc

  -- the test fails
  pub some_if-false : (test : Bool) (x : X) → test ≡ false → some_if test x ≡ None
  some_if-false true x is = absurd cc
  some_if-false false x is = refl

  -- there is no value only if the test fails
  pub some_if-none : (test : Bool) (x : X) → some_if test x ≡ None → test ≡ false
  some_if-none true x none = absurd cc
  some_if-none false x none = refl

  -- there is a value only if the test holds
  pub some_if-some : (test : Bool) (x y : X) → some_if test x ≡ Some y → (test ≡ true) × (x ≡ y)
  some_if-some true x y some = (refl, cc)
  some_if-some false x y some = absurd cc

module _ {X Y : Type 0} where
  -- with an index, the refusal is the one made of it
  pub option_map-some : (f : X → Y) (o : Option X) (x : X) → o ≡ Some x → option_map f o ≡ Some (f x)
  option_map-some f o x is = ap (option_map f) is

  -- without an index there is no refusal
  pub option_map-none : (f : X → Y) (o : Option X) → o ≡ None → option_map f o ≡ None
  option_map-none f o is = ap (option_map f) is

  -- a refusal made of an index comes only of an index
  pub option_map-some_back : (f : X → Y) (o : Option X) (y : Y) → option_map f o ≡ Some y → (x : X) × (o ≡ Some x) × (f x ≡ y)
  option_map-some_back f None y some = absurd cc
  option_map-some_back f (Some x) y some = (x, refl, cc)

  -- if no refusal is made of an index, there is no index
  pub option_map-none_back : (f : X → Y) (o : Option X) → option_map f o ≡ None → o ≡ None
  option_map-none_back f None none = refl
  option_map-none_back f (Some x) none = absurd cc

  -- a value is returned only if there was no refusal
  pub unless_ok : (o : Option Y) (x y : X) → unless o x ≡ Ok y → (o ≡ None) × (x ≡ y)
  unless_ok None x y is = (refl, cc)
  unless_ok (Some e) x y is = absurd cc

  -- an error is the refusal
  pub unless_err : (o : Option Y) (x : X) (e : Y) → unless o x ≡ Err e → o ≡ Some e
  unless_err None x e is = absurd cc
  unless_err (Some f) x e is = cc

-- ---- items and then filler

module _ {X : Type 0} (filler : X) (size : ℕ) where
  -- items that fit are padded to the size
  pub length-padded_list : (items : List X) → length items ≤ size → length (padded_list filler size items) ≡ size
  length-padded_list items fits =
      omega (arith, length-append items (replicate (size - length items) filler), length-replicate (size - length items) filler)

  -- a list of filler is padded, with no item
  pub IsPadded-none : IsPadded filler size 0 (replicate size filler)
  IsPadded-none =
      let all : size ≡ size - 0 = omega arith in
      record { len = length-replicate size filler; fits = omega arith; rest = ap (λ n. replicate n filler) all }

  -- items that fit and filler are a padded list
  pub IsPadded-padded_list : (items : List X) → length items ≤ size → IsPadded filler size (length items) (padded_list filler size items)
  IsPadded-padded_list items fits = record {
    len = length-padded_list items fits;
    fits = fits;
    rest = drop_at items (replicate (size - length items) filler) (length items) refl;
  }

  -- its items are the given ones
  pub take-padded_list : (items : List X) → take (length items) (padded_list filler size items) ≡ items
  take-padded_list items = take_at items (replicate (size - length items) filler) (length items) refl

  module _ (count : ℕ) (list : List X) (padded : IsPadded filler size count list) where
    -- it has as many items as it should
    pub length-items : length (take count list) ≡ count
    length-items = length-take-le count list (omega (arith, padded.len, padded.fits))

    -- what is made of a count and a padded list is made of the items alone
    pub of_items : {Y : Type 0} (f : ℕ → List X → Y)
        → f (length (take count list)) (padded_list filler size (take count list)) ≡ f count list
    of_items f =
        ap (λ n. f n (take count list ++ replicate (size - n) filler)) length-items
        ∙ ap (λ rest. f count (take count list ++ rest)) (sym padded.rest)
        ∙ ap (λ all. f count all) (take-append-drop count list)

    -- its items, padded, are the list
    pub padded_list-take : padded_list filler size (take count list) ≡ list
    padded_list-take = of_items (λ n all. all)

    module _ (item : X) (room : count < size) where
      -- one more item takes the place of the first filler
      pub IsPadded-set : IsPadded filler size (count + 1) (set list count item)
      IsPadded-set = record {
        len = length-set list count item ∙ padded.len;
        fits = omega arith;
        rest =
            let fewer : size - count - 1 ≡ size - (count + 1) = omega arith in
            drop-set-lt (count + 1) list count item (omega arith)
            ∙ sym (drop-drop 1 count list)
            ∙ ap (drop 1) padded.rest
            ∙ drop-replicate 1 (size - count) filler
            ∙ ap (λ n. replicate n filler) fewer;
      }

      -- the items are then one more
      pub take-set : take (count + 1) (set list count item) ≡ take count list ++ item ∷ []
      take-set = take_more_set list count item (omega (arith, padded.len))

-- ---- bytes

-- the first n of some bytes, and those after them, are bytes
pub IsBytes-drop : (n : ℕ) (bytes : List ℕ) → IsBytes bytes → IsBytes (drop n bytes)
IsBytes-drop n bytes h i = rw get_or-drop (h (n + i))

pub IsBytes-take : (n : ℕ) (bytes : List ℕ) → IsBytes bytes → IsBytes (take n bytes)
IsBytes-take n bytes h i =
    elim (cases_lt i n) [
      | inl lt ↦ rw (get_or-take n bytes i 0 lt) (h i)
      | inr le ↦ rw (get_or_past (take n bytes) i 0 (omega (arith, length-take n bytes))) (omega arith)
    ]
