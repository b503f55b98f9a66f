-- What a field keeps of its keys.
use Rattle.std.proofs.Common.{◌≡◌, ℕ, ◌<◌, ◌≤◌, Bool, true, false, List, [], ◌∷◌, ◌++◌, length, take, ne_eqb, refl, sym, ap, ◌∙◌, arith, length-append}
use Rattle.std.specs.Prelude.{◌&&◌, ◌||◌, ◌==◌, filter, if◌then◌else◌}
use Rattle.std.specs.List.{list_all}
use Rattle.std.proofs.lemmas.Bool.{and_parts}
use Rattle.std.proofs.lemmas.List.{append-nil, take_all, take-append-le}
use Rattle.std.proofs.lemmas.List.Elements.{filter-append}
use Rattle.std.proofs.lemmas.List.Folds.{list_all-append}
use Rattle.pv_frame.specs.declared.field.Field.{Field}
use Rattle.pv_frame.specs.declared.field.FieldKind.{FieldKind}
use Rattle.pv_frame.specs.declared.field.FieldKind.TheVariants.{Digits, Words}
use Rattle.pv_keys.specs.Commands.{hash, underline}
use Rattle.pv_session.specs.Entries.{takes_byte, key_if, field_keys, kept_keys, FillMode}

-- nothing is left out of bytes that all pass
filter-passing : (test : ℕ → Bool) (xs : List ℕ) → list_all test xs ≡ true → filter test xs ≡ xs
filter-passing test [] pass = refl
filter-passing test (x ∷ xs) pass =
    let parts = and_parts (test x) (list_all test xs) pass in
    ap (λ (b : Bool). if b then x ∷ filter test xs else filter test xs) parts.0 ∙ ap (λ rest. x ∷ rest) (filter-passing test xs parts.1)

-- no field takes the key #
no_hash : (kind : FieldKind) → takes_byte kind hash ≡ false
no_hash Digits = refl
no_hash Words = refl

and_false : (b : Bool) → (b && false) ≡ false
and_false true = refl
and_false false = refl

module _ (field : Field) (full : Bool) (keyed : List ℕ) (bytes : list_all (takes_byte field.kind) keyed ≡ true)
    (fits : length keyed ≤ field.length) where
  -- one byte more, of which the test is known
  one : (byte : ℕ) (taken : Bool) → takes_byte field.kind byte ≡ taken
      → filter (takes_byte field.kind) (keyed ++ byte ∷ []) ≡ keyed ++ key_if taken byte
  one byte taken is =
      filter-append (takes_byte field.kind) keyed (byte ∷ [])
      ∙ ap (λ xs. xs ++ filter (takes_byte field.kind) (byte ∷ [])) (filter-passing (takes_byte field.kind) keyed bytes)
      ∙ ap (λ (b : Bool). keyed ++ (if b then byte ∷ [] else [])) is

  -- a key that is not taken leaves what was keyed
  pub kept-other : (byte : ℕ) → takes_byte field.kind byte ≡ false → kept_keys (FillMode field full) (keyed ++ byte ∷ []) ≡ keyed
  kept-other byte is = ap (take field.length) (one byte false is ∙ append-nil keyed) ∙ take_all field.length keyed fits

  pub kept-hash : kept_keys (FillMode field full) (keyed ++ hash ∷ []) ≡ keyed
  kept-hash = kept-other hash (no_hash field.kind)

  pub kept-none : kept_keys (FillMode field full) (keyed ++ []) ≡ keyed
  kept-none =
      ap (λ keys. take field.length (filter (takes_byte field.kind) keys)) (append-nil keyed)
      ∙ ap (take field.length) (filter-passing (takes_byte field.kind) keyed bytes)
      ∙ take_all field.length keyed fits

  -- one that is taken is added, if there is a cell for it
  pub kept-one : (byte : ℕ) → takes_byte field.kind byte ≡ true → length keyed < field.length
      → kept_keys (FillMode field full) (keyed ++ byte ∷ []) ≡ keyed ++ byte ∷ []
  kept-one byte is room =
      ap (take field.length) (one byte true is)
      ∙ take_all field.length (keyed ++ byte ∷ []) (omega (arith, length-append keyed (byte ∷ []), room))

  -- and else it is dropped
  pub kept-full : (byte : ℕ) → takes_byte field.kind byte ≡ true → field.length ≤ length keyed
      → kept_keys (FillMode field full) (keyed ++ byte ∷ []) ≡ keyed
  kept-full byte is full_now =
      ap (take field.length) (one byte true is)
      ∙ take-append-le field.length keyed (byte ∷ []) full_now
      ∙ take_all field.length keyed fits

  -- what is kept with a byte, by whether the field takes it
  pub added-none : (byte : ℕ) → takes_byte field.kind byte ≡ false
      → keyed ≡ kept_keys (FillMode field full) (keyed ++ key_if (takes_byte field.kind byte) byte)
  added-none byte is = sym (ap (λ (b : Bool). kept_keys (FillMode field full) (keyed ++ key_if b byte)) is ∙ kept-none)

  pub added-one : (byte : ℕ) → takes_byte field.kind byte ≡ true → length keyed < field.length
      → keyed ++ byte ∷ [] ≡ kept_keys (FillMode field full) (keyed ++ key_if (takes_byte field.kind byte) byte)
  added-one byte is room =
      sym (ap (λ (b : Bool). kept_keys (FillMode field full) (keyed ++ key_if b byte)) is ∙ kept-one byte is room)

  pub added-full : (byte : ℕ) → takes_byte field.kind byte ≡ true → field.length ≤ length keyed
      → keyed ≡ kept_keys (FillMode field full) (keyed ++ key_if (takes_byte field.kind byte) byte)
  added-full byte is most =
      sym (ap (λ (b : Bool). kept_keys (FillMode field full) (keyed ++ key_if b byte)) is ∙ kept-full byte is most)

  -- all of it is taken, so that it does not end with the key #
  all_taken : (byte : ℕ) (taken : Bool) → takes_byte field.kind byte ≡ taken
      → list_all (takes_byte field.kind) (keyed ++ key_if taken byte) ≡ true
  all_taken byte true is =
      list_all-append (takes_byte field.kind) keyed (byte ∷ [])
      ∙ ap (λ (b : Bool). b && (takes_byte field.kind byte && true)) bytes ∙ ap (λ (b : Bool). true && (b && true)) is
  all_taken byte false is = list_all-append (takes_byte field.kind) keyed [] ∙ ap (λ (b : Bool). b && true) bytes

  with_hash : (text : List ℕ) → list_all (takes_byte field.kind) (text ++ hash ∷ []) ≡ false
  with_hash text =
      list_all-append (takes_byte field.kind) text (hash ∷ [])
      ∙ ap (λ (b : Bool). list_all (takes_byte field.kind) text && (b && true)) (no_hash field.kind)
      ∙ and_false (list_all (takes_byte field.kind) text)

  pub no_end : (byte : ℕ) (text : List ℕ) → (byte ≡ hash → ⊥) → (byte ≡ underline → ⊥)
      → keyed ++ field_keys field.kind byte ≡ text ++ hash ∷ [] → ⊥
  no_end byte text no_hash_key no_underline is =
      let taken = key_if (takes_byte field.kind byte) byte in
      let other : field_keys field.kind byte ≡ taken =
      ap (λ (b : Bool). if b || byte == underline then hash ∷ [] else taken) (ne_eqb byte hash no_hash_key)
      ∙ ap (λ (b : Bool). if b then hash ∷ [] else taken) (ne_eqb byte underline no_underline) in
      let all = all_taken byte (takes_byte field.kind byte) refl in
      let never : true ≡ false =
      sym all ∙ ap (λ keys. list_all (takes_byte field.kind) (keyed ++ keys)) (sym other)
      ∙ ap (list_all (takes_byte field.kind)) is ∙ with_hash text in
      absurd cc
