-- Each parser finds exactly what its spelling says.
use Rattle.std.proofs.Common.{◌≡◌, ℕ, zero, suc, ◌+◌, ◌-◌, ◌^◌, ◌<◌, ◌≤◌, Bool, true, false, cond, ltb, eqb, leb, ◌&&◌, List, [], ◌∷◌, ◌++◌, length, get_or, take, drop, Option, Some, None, Result, Ok, Err, refl, sym, ap, subst, ◌∙◌, append_assoc, arith, inl, inr}
use Rattle.std.specs.Prelude.{IfOk, IsErr, flat_map}
use Rattle.std.specs.Int.{Width, w16, w32, w64, byte_len, from_be_bytes, to_be_bytes}
use Rattle.std.specs.List.{AllByRecursion}
use Rattle.std.proofs.lemmas.Bool.{cases_lt, ltb-false, le-ltb, eqb-true, leb-true, le-leb, and_parts, and_from}
use Rattle.std.proofs.lemmas.List.{take_at, drop_at, append-nil, nil_from_length, take-append-drop, length-append, length-take, get_or-drop, get_or-take, get_or_past, get_or-append-add}
use Rattle.std.proofs.lemmas.List.Concat.{flat_map-cons}
use Rattle.std.proofs.lemmas.Nat.{be_bytes_2, be_bytes_4, be_bytes_8, from_be_bytes-to_be_bytes_2, from_be_bytes-to_be_bytes_4, from_be_bytes-to_be_bytes_8}
use Rattle.pv_fields.proofs.CallerLemmas.{IsBytes-drop, IsBytes-take}
use Rattle.pv_fields.specs.Reading.{Parser, ◌>>=◌, GivesFound, byte_at, number_at, run_at, nothing_at, passing, ◌⊗◌, map_at, chain_at, rest_at, list_at, text_at, with_prefix, times, many_at, whole, GivesAll, within, at_most, IsBytes, ReadsBefore, ReadsLast, Reads, ReadsBack, Missing}

-- a step that found a value
bind_some : {A B : Type 0} (r : Option A) (f : A → Option B) (y : B) → (r >>= f) ≡ Some y → (x : A) × (r ≡ Some x) × (f x ≡ Some y)
bind_some (Some x) f y e = (x, refl, e)
bind_some None f y e = absurd cc

-- a test that was passed
test_passed : {A : Type 0} (b : Bool) (x y : A) → cond b (Some x) None ≡ Some y → (b ≡ true) × (x ≡ y)
test_passed true x y e = (refl, cc)
test_passed false x y e = absurd cc

test_failed : {A : Type 0} (b : Bool) (x y : A) → cond b None (Some x) ≡ Some y → (b ≡ false) × (x ≡ y)
test_failed true x y e = absurd cc
test_failed false x y e = (refl, cc)

abbrev some : {A : Type 0} → A → Option A
some x = Some x

some_is : {A : Type 0} (x y : A) → some x ≡ some y → x ≡ y
some_is x y e = cc

IsBytes-after : (prefix bytes rest : List ℕ) → bytes ≡ prefix ++ rest → IsBytes bytes → IsBytes rest
IsBytes-after prefix bytes rest e h i = subst (λ n. n < 256)
    (ap (λ b. get_or b (length prefix + i) 0) e ∙ get_or-append-add prefix rest i 0) (h (length prefix + i))

-- ---- what a call gave

whole_again : {A : Type 0} (Has : A → Type 0) (spell : A → List ℕ) (read : Parser A) → ReadsLast Has spell read → (a : A) → Has a
    → whole read (spell a) ≡ Some a
whole_again Has spell read reads a has =
    let one : read (spell a) ≡ Some (a, []) = ap read (sym (append-nil (spell a))) ∙ reads.again a [] refl has in
    rw one refl

whole_found : {A : Type 0} (Has : A → Type 0) (spell : A → List ℕ) (read : Parser A) → ReadsLast Has spell read
    → (bytes : List ℕ) (a : A) → IsBytes bytes → whole read bytes ≡ Some a → Has a × (bytes ≡ spell a)
whole_found Has spell read reads bytes a fits e =
    let p = bind_some (read bytes) (λ x. cond (eqb (length x.1) 0) (Some x.0) None) a e in
    let t = test_passed (eqb (length p.0.1) 0) p.0.0 a p.2 in
    let f = reads.found bytes p.0.0 p.0.1 fits p.1 in
    let empty : p.0.1 ≡ [] = nil_from_length p.0.1 (eqb-true _ _ t.0) in
    subst (λ a. Has a × (bytes ≡ spell a)) t.1 (f.0, f.1 ∙ ap (λ rest. spell p.0.0 ++ rest) empty ∙ append-nil (spell p.0.0))

module _ {X A E : Type 0} (view : X → A) (Has : A → Type 0) (spell : A → List ℕ) (read : Parser A) (reads : Reads Has spell read)
    (bytes : List ℕ) where
  -- the bytes begin with the spelling of what it gave
  pub given_found : (result : Result X E) (left : List ℕ) → IsBytes bytes → GivesFound view result (read bytes) left
      → IfOk result (λ x. Has (view x) × (bytes ≡ spell (view x) ++ left))
  given_found (Ok x) left fits gives = reads.found bytes (view x) left fits gives
  given_found (Err e) left fits gives = tt

  -- if it failed, the bytes begin with no spelling
  pub given_missing : (result : Result X E) (left : List ℕ) → GivesFound view result (read bytes) left → IsErr result → Missing Has spell bytes
  given_missing (Ok x) left gives err a rest has e = absurd cc
  given_missing (Err e) left gives err a rest has is =
      let again = reads.again a rest tt has in
      let none : read (spell a ++ rest) ≡ None = rw is at gives in
      absurd cc

module _ {X A E : Type 0} (view : X → A) (Has : A → Type 0) (spell : A → List ℕ) (read : Parser A) (reads : ReadsLast Has spell read)
    (bytes : List ℕ) where
  -- the bytes are the spelling of what it gave
  pub all_found : (result : Result X E) → IsBytes bytes → GivesAll view result (whole read bytes)
      → IfOk result (λ x. Has (view x) × (bytes ≡ spell (view x)))
  all_found (Ok x) fits gives = whole_found Has spell read reads bytes (view x) fits gives
  all_found (Err e) fits gives = tt

  -- if it failed, the bytes are no spelling
  pub all_missing : (result : Result X E) → GivesAll view result (whole read bytes) → IsErr result → (a : A) → Has a → bytes ≡ spell a → ⊥
  all_missing (Ok x) gives err a has is = absurd cc
  all_missing (Err e) gives err a has is =
      let again : read bytes ≡ Some (a, []) = ap read (is ∙ sym (append-nil (spell a))) ∙ reads.again a [] refl has in
      let none : cond (eqb 0 0) (Some a) None ≡ None = rw again at gives in
      absurd cc

-- a value that is read from all the bytes that are left
pub Reads-rest : {A : Type 0} (Has : A → Type 0) (spell : A → List ℕ) (read : List ℕ → Option A)
    → ((bytes : List ℕ) (a : A) → IsBytes bytes → read bytes ≡ Some a → Has a × (bytes ≡ spell a))
    → ((a : A) → Has a → read (spell a) ≡ Some a) → ReadsLast Has spell (rest_at read)
Reads-rest {A = A} Has spell read found again = record { found = rest_found; again = rest_again }
  where
    rest_found : (bytes : List ℕ) (a : A) (rest : List ℕ) → IsBytes bytes → rest_at read bytes ≡ Some (a, rest)
        → Has a × (bytes ≡ spell a ++ rest)
    rest_found bytes a rest fits e =
        let p = bind_some (read bytes) (λ a. Some (a, [])) (a, rest) e in
        let f = found bytes p.0 fits p.1 in
        let one : (p.0, []) ≡ (a, rest) = some_is _ _ p.2 in
        subst (λ (x : A × List ℕ). Has x.0 × (bytes ≡ spell x.0 ++ x.1)) one (f.0, f.1 ∙ sym (append-nil (spell p.0)))

    rest_again : (a : A) (rest : List ℕ) → rest ≡ [] → Has a → rest_at read (spell a ++ rest) ≡ Some (a, rest)
    rest_again a rest ends has =
        let all : spell a ++ rest ≡ spell a = ap (λ rest. spell a ++ rest) ends ∙ append-nil (spell a) in
        rw (all, again a has, ends) refl

-- a value whose parser must leave no byte, as the last part of another
pub Reads-whole : {A : Type 0} {Has : A → Type 0} {spell : A → List ℕ} {read : Parser A} → ReadsLast Has spell read
    → ReadsLast Has spell (rest_at (whole read))
Reads-whole {A} {Has} {spell} {read} reads = Reads-rest Has spell (whole read) (whole_found Has spell read reads)
    (λ a has. whole_again Has spell read reads a has)

-- a parser of a value before any bytes reads it at the end too
pub at_end : {A : Type 0} {Has : A → Type 0} {spell : A → List ℕ} {read : Parser A} → Reads Has spell read → ReadsLast Has spell read
at_end reads = record { found = reads.found; again = λ a rest ends has. reads.again a rest tt has }

-- two spellings that begin the same bytes are of the same value
pub Reads-back : {A : Type 0} (Has : A → Type 0) (spell : A → List ℕ) (read : Parser A) → Reads Has spell read → ReadsBack Has spell
Reads-back Has spell read reads a b more rest ha hb e =
    let one = some_is (a, more) (b, rest) (sym (reads.again a more tt ha) ∙ ap read e ∙ reads.again b rest tt hb) in
    (ap (λ x. x.0) one, ap (λ x. x.1) one)

-- ---- the parts

-- a byte
pub Reads-byte : Reads (λ b. b < 256) (λ b. b ∷ []) byte_at
Reads-byte = record { found = byte_found; again = λ b rest ends fits. refl }
  where
    byte_found : (bytes : List ℕ) (b : ℕ) (rest : List ℕ) → IsBytes bytes → byte_at bytes ≡ Some (b, rest) → (b < 256) × (bytes ≡ b ∷ rest)
    byte_found [] b rest fits e = absurd cc
    byte_found (c ∷ bytes) b rest fits e = let one = some_is (c, bytes) (b, rest) e in
        subst (λ x. (x.0 < 256) × (c ∷ bytes ≡ x.0 ∷ x.1)) one (fits 0, refl)

-- a number of some width
record IsWide (w : Width) (limit : ℕ) : Type 0 where
  len : (n : ℕ) → length (to_be_bytes w n) ≡ byte_len w
  back : (bytes : List ℕ) → length bytes ≡ byte_len w → IsBytes bytes → to_be_bytes w (from_be_bytes w bytes) ≡ bytes
  again : (n : ℕ) → n < limit → from_be_bytes w (to_be_bytes w n) ≡ n
  below : (bytes : List ℕ) → IsBytes bytes → from_be_bytes w bytes < limit

number_found : (w : Width) (limit : ℕ) → IsWide w limit → (bytes : List ℕ) (n : ℕ) (rest : List ℕ) → IsBytes bytes
    → number_at w bytes ≡ Some (n, rest) → (n < limit) × (bytes ≡ to_be_bytes w n ++ rest)
number_found w limit wide bytes n rest fits e =
    let g = test_failed (ltb (length bytes) (byte_len w)) (from_be_bytes w (take (byte_len w) bytes), drop (byte_len w) bytes)
    (n, rest) e in
    let long : byte_len w ≤ length bytes = ltb-false _ _ g.0 in
    let prefix = take (byte_len w) bytes in
    let is : to_be_bytes w (from_be_bytes w prefix) ≡ prefix =
    wide.back prefix (omega (arith, length-take (byte_len w) bytes)) (IsBytes-take (byte_len w) bytes fits) in
    subst (λ (x : ℕ × List ℕ). (x.0 < limit) × (bytes ≡ to_be_bytes w x.0 ++ x.1)) g.1
    (wide.below prefix (IsBytes-take (byte_len w) bytes fits), rw is (sym (take-append-drop (byte_len w) bytes)))

number_again : (w : Width) (limit : ℕ) → IsWide w limit → (n : ℕ) (rest : List ℕ) → n < limit
    → number_at w (to_be_bytes w n ++ rest) ≡ Some (n, rest)
number_again w limit wide n rest lt =
    let len = wide.len n in
    let long : ltb (length (to_be_bytes w n ++ rest)) (byte_len w) ≡ false =
    le-ltb _ _ (omega (arith, length-append (to_be_bytes w n) rest)) in
    rw (long, take_at (to_be_bytes w n) rest (byte_len w) len, drop_at (to_be_bytes w n) rest (byte_len w) len, wide.again n lt) refl

Reads-wide : (w : Width) (limit : ℕ) → IsWide w limit → Reads (λ n. n < limit) (to_be_bytes w) (number_at w)
Reads-wide w limit wide = record { found = number_found w limit wide; again = λ n rest ends lt. number_again w limit wide n rest lt }

pub Reads-two : Reads (λ n. n < 2 ^ 16) (to_be_bytes w16) (number_at w16)
Reads-two = Reads-wide w16 (2 ^ 16) (record {
  len = λ n. refl;
  back = λ bytes len fits. be_bytes_2 bytes _ len fits refl;
  again = λ n lt. from_be_bytes-to_be_bytes_2 n lt;
  below = λ bytes fits. omega (arith, fits 0, fits 1);
})

pub Reads-four : Reads (λ n. n < 2 ^ 32) (to_be_bytes w32) (number_at w32)
Reads-four = Reads-wide w32 (2 ^ 32) (record {
  len = λ n. refl;
  back = λ bytes len fits. be_bytes_4 bytes _ len fits refl;
  again = λ n lt. from_be_bytes-to_be_bytes_4 n lt;
  below = λ bytes fits. omega (arith, fits 0, fits 1, fits 2, fits 3);
})

pub Reads-eight : Reads (λ n. n < 2 ^ 64) (to_be_bytes w64) (number_at w64)
Reads-eight = Reads-wide w64 (2 ^ 64) (record {
  len = λ n. refl;
  back = λ bytes len fits. be_bytes_8 bytes _ len fits refl;
  again = λ n lt. from_be_bytes-to_be_bytes_8 n lt;
  below = λ bytes fits. omega (arith, fits 0, fits 1, fits 2, fits 3, fits 4, fits 5, fits 6, fits 7);
})

-- a run of a fixed length
run_found : (n : ℕ) (bytes run rest : List ℕ) → IsBytes bytes → run_at n bytes ≡ Some (run, rest)
    → ((length run ≡ n) × IsBytes run) × (bytes ≡ run ++ rest)
run_found n bytes run rest fits e =
    let g = test_failed (ltb (length bytes) n) (take n bytes, drop n bytes) (run, rest) e in
    let long : n ≤ length bytes = ltb-false _ _ g.0 in
    subst (λ (x : List ℕ × List ℕ). ((length x.0 ≡ n) × IsBytes x.0) × (bytes ≡ x.0 ++ x.1)) g.1
    ((omega (arith, length-take n bytes), IsBytes-take n bytes fits), sym (take-append-drop n bytes))

run_again : (n : ℕ) (run rest : List ℕ) → (length run ≡ n) × IsBytes run → run_at n (run ++ rest) ≡ Some (run, rest)
run_again n run rest has =
    let long : ltb (length (run ++ rest)) n ≡ false = le-ltb _ _ (omega (arith, has.0, length-append run rest)) in
    rw (long, take_at run rest n has.0, drop_at run rest n has.0) refl

pub Reads-run : (n : ℕ) → Reads (λ run. (length run ≡ n) × IsBytes run) (λ run. run) (run_at n)
Reads-run n = record { found = run_found n; again = λ run rest ends has. run_again n run rest has }

-- no value
pub Reads-nothing : {A : Type 0} (Has : A → Type 0) (spell : A → List ℕ) → ((a : A) → Has a → ⊥) → Reads Has spell nothing_at
Reads-nothing Has spell none = record { found = λ bytes a rest fits e. absurd cc; again = λ a rest ends has. absurd (none a has) }

-- ---- combinators

module _ {A : Type 0} {Has : A → Type 0} {spell : A → List ℕ} {read : Parser A} (test : A → Bool) (reads : Reads Has spell read) where
  passing_found : (bytes : List ℕ) (a : A) (rest : List ℕ) → IsBytes bytes → passing test read bytes ≡ Some (a, rest)
      → (Has a × (test a ≡ true)) × (bytes ≡ spell a ++ rest)
  passing_found bytes a rest fits e =
      let p = bind_some (read bytes) (λ x. cond (test x.0) (Some x) None) (a, rest) e in
      let t = test_passed (test p.0.0) p.0 (a, rest) p.2 in
      let f = reads.found bytes p.0.0 p.0.1 fits p.1 in
      subst (λ (x : A × List ℕ). (Has x.0 × (test x.0 ≡ true)) × (bytes ≡ spell x.0 ++ x.1)) t.1 ((f.0, t.0), f.1)

  -- the values that pass a test
  pub Reads-passing : Reads (λ a. Has a × (test a ≡ true)) spell (passing test read)
  Reads-passing = record { found = passing_found; again = λ a rest ends has. rw (reads.again a rest ends has.0, has.1) refl }

-- a number up to a limit
pub Reads-at_most : (high : ℕ) {limit : ℕ} {spell : ℕ → List ℕ} {read : Parser ℕ} → high < limit → Reads (λ n. n < limit) spell read
    → Reads (λ n. n ≤ high) spell (at_most high read)
Reads-at_most high {limit} {spell} {read} below reads =
    let p = Reads-passing (λ n. leb n high) reads in
    record {
      found = λ bytes n rest fits e. let f = p.found bytes n rest fits e in (leb-true _ _ f.0.1, f.1);
      again = λ n rest ends le. p.again n rest ends (omega arith, le-leb _ _ le);
    }

-- a number within a range
pub Reads-within : (low high : ℕ) {limit : ℕ} {spell : ℕ → List ℕ} {read : Parser ℕ} → high < limit → Reads (λ n. n < limit) spell read
    → Reads (λ n. (low ≤ n) × (n ≤ high)) spell (within low high read)
Reads-within low high {limit} {spell} {read} below reads =
    let p = Reads-passing (λ n. leb low n && leb n high) reads in
    record {
      found = λ bytes n rest fits e. let f = p.found bytes n rest fits e in let b = and_parts _ _ f.0.1 in
          ((leb-true _ _ b.0, leb-true _ _ b.1), f.1);
      again = λ n rest ends le. p.again n rest ends (omega arith, and_from _ _ (le-leb _ _ le.0) (le-leb _ _ le.1));
    }

module _ {A B : Type 0} {HasA : A → Type 0} {spellA : A → List ℕ} {readA : Parser A} {HasB : B → Type 0} {spellB : B → List ℕ}
    {readB : Parser B} {IsRest : List ℕ → Type 0} (first : Reads HasA spellA readA) (second : ReadsBefore IsRest HasB spellB readB) where
  both_found : (bytes : List ℕ) (x : A × B) (rest : List ℕ) → IsBytes bytes → (readA ⊗ readB) bytes ≡ Some (x, rest)
      → (HasA x.0 × HasB x.1) × (bytes ≡ (spellA x.0 ++ spellB x.1) ++ rest)
  both_found bytes x rest fits e =
      let p = bind_some (readA bytes) (λ a. readB a.1 >>= λ b. Some ((a.0, b.0), b.1)) (x, rest) e in
      let q = bind_some (readB p.0.1) (λ b. Some ((p.0.0, b.0), b.1)) (x, rest) p.2 in
      let f = first.found bytes p.0.0 p.0.1 fits p.1 in
      let g = second.found p.0.1 q.0.0 q.0.1 (IsBytes-after (spellA p.0.0) bytes p.0.1 f.1 fits) q.1 in
      let one : ((p.0.0, q.0.0), q.0.1) ≡ (x, rest) = some_is _ _ q.2 in
      subst (λ (x : (A × B) × List ℕ). (HasA x.0.0 × HasB x.0.1) × (bytes ≡ (spellA x.0.0 ++ spellB x.0.1) ++ x.1)) one
      ((f.0, g.0), f.1 ∙ ap (λ rest. spellA p.0.0 ++ rest) g.1 ∙ sym (append_assoc (spellA p.0.0) (spellB q.0.0) q.0.1))

  -- one value and then another
  infixr 5 ◌&◌
  pub ◌&◌ : ReadsBefore IsRest (λ x. HasA x.0 × HasB x.1) (λ x. spellA x.0 ++ spellB x.1) (readA ⊗ readB)
  ◌&◌ = record {
    found = both_found;
    again = λ x rest ends has. ap (readA ⊗ readB) (append_assoc (spellA x.0) (spellB x.1) rest)
        ∙ rw (first.again x.0 (spellB x.1 ++ rest) tt has.0, second.again x.1 rest ends has.1) refl;
  }

-- each valid B is made of a valid A that has the same spelling
pub record Makes {A B : Type 0} (HasA : A → Type 0) (spellA : A → List ℕ) (make : A → B) (HasB : B → Type 0)
    (spellB : B → List ℕ) : Type 0 where
  pub has : (a : A) → HasA a → HasB (make a)
  pub spell : (a : A) → spellB (make a) ≡ spellA a
  pub part : (b : B) → HasB b → (a : A) × HasA a × (make a ≡ b)

module _ {A B : Type 0} {HasA : A → Type 0} {spellA : A → List ℕ} {read : Parser A} (make : A → B) {HasB : B → Type 0}
    {spellB : B → List ℕ} {IsRest : List ℕ → Type 0} (reads : ReadsBefore IsRest HasA spellA read)
    (makes : Makes HasA spellA make HasB spellB) where
  map_found : (bytes : List ℕ) (b : B) (rest : List ℕ) → IsBytes bytes → map_at make read bytes ≡ Some (b, rest)
      → HasB b × (bytes ≡ spellB b ++ rest)
  map_found bytes b rest fits e =
      let p = bind_some (read bytes) (λ x. Some (make x.0, x.1)) (b, rest) e in
      let f = reads.found bytes p.0.0 p.0.1 fits p.1 in
      let one : (make p.0.0, p.0.1) ≡ (b, rest) = some_is _ _ p.2 in
      subst (λ (x : B × List ℕ). HasB x.0 × (bytes ≡ spellB x.0 ++ x.1)) one
      (makes.has p.0.0 f.0, f.1 ∙ ap (λ prefix. prefix ++ p.0.1) (sym (makes.spell p.0.0)))

  map_again : (b : B) (rest : List ℕ) → IsRest rest → HasB b → map_at make read (spellB b ++ rest) ≡ Some (b, rest)
  map_again b rest ends has =
      let p = makes.part b has in
      subst (λ b. map_at make read (spellB b ++ rest) ≡ Some (b, rest)) p.2 (rw (makes.spell p.0, reads.again p.0 rest ends p.1) refl)

  -- a value made of another
  pub Reads-map : ReadsBefore IsRest HasB spellB (map_at make read)
  Reads-map = record { found = map_found; again = map_again }

module _ {A B : Type 0} {HasA : A → Type 0} {spellA : A → List ℕ} {readA : Parser A} {IsRest : List ℕ → Type 0}
    (first : Reads HasA spellA readA) (Has : B → Type 0) (head : B → A) (head_has : (b : B) → Has b → HasA (head b)) (body : B → List ℕ)
    (next : A → Parser B) (each : (a : A) → HasA a → ReadsBefore IsRest (λ b. Has b × (head b ≡ a)) body (next a)) where
  chain_found : (bytes : List ℕ) (b : B) (rest : List ℕ) → IsBytes bytes → chain_at readA next bytes ≡ Some (b, rest)
      → Has b × (bytes ≡ (spellA (head b) ++ body b) ++ rest)
  chain_found bytes b rest fits e =
      let p = bind_some (readA bytes) (λ x. next x.0 x.1) (b, rest) e in
      let f = first.found bytes p.0.0 p.0.1 fits p.1 in
      let g = (each p.0.0 f.0).found p.0.1 b rest (IsBytes-after (spellA p.0.0) bytes p.0.1 f.1 fits) p.2 in (
        g.0.0,
        f.1 ∙ ap (λ a. spellA a ++ p.0.1) (sym g.0.1) ∙ ap (λ rest. spellA (head b) ++ rest) g.1
            ∙ sym (append_assoc (spellA (head b)) (body b) rest),
      )

  chain_again : (b : B) (rest : List ℕ) → IsRest rest → Has b → chain_at readA next ((spellA (head b) ++ body b) ++ rest) ≡ Some (b, rest)
  chain_again b rest ends has =
      let has_head = head_has b has in
      ap (chain_at readA next) (append_assoc (spellA (head b)) (body b) rest)
      ∙ rw (first.again (head b) (body b ++ rest) tt has_head) ((each (head b) has_head).again b rest ends (has, refl))

  -- a first part, and a second part whose parser depends on the first
  pub Reads-chain : ReadsBefore IsRest Has (λ b. spellA (head b) ++ body b) (chain_at readA next)
  Reads-chain = record { found = chain_found; again = chain_again }

module _ {A : Type 0} {Has : A → Type 0} {spell : A → List ℕ} {read : Parser A} (reads : Reads Has spell read) where
  times_found : (n : ℕ) (bytes : List ℕ) (xs : List A) (rest : List ℕ) → IsBytes bytes → times read n bytes ≡ Some (xs, rest)
      → (AllByRecursion Has xs × (length xs ≡ n)) × (bytes ≡ flat_map spell xs ++ rest)
  unfolding times
  times_found zero bytes xs rest fits e =
      subst (λ (y : List A × List ℕ). (AllByRecursion Has y.0 × (length y.0 ≡ 0)) × (bytes ≡ flat_map spell y.0 ++ y.1))
      (some_is ([], bytes) (xs, rest) e) ((tt, refl), refl)
  times_found (suc n) bytes xs rest fits e =
      let p = bind_some (read bytes) (λ x. times read n x.1 >>= λ xs. Some (x.0 ∷ xs.0, xs.1)) (xs, rest) e in
      let q = bind_some (times read n p.0.1) (λ xs. Some (p.0.0 ∷ xs.0, xs.1)) (xs, rest) p.2 in
      let f = reads.found bytes p.0.0 p.0.1 fits p.1 in
      let g = times_found n p.0.1 q.0.0 q.0.1 (IsBytes-after (spell p.0.0) bytes p.0.1 f.1 fits) q.1 in
      let whole : bytes ≡ flat_map spell (p.0.0 ∷ q.0.0) ++ q.0.1 =
      rw flat_map-cons (f.1 ∙ ap (λ rest. spell p.0.0 ++ rest) g.1 ∙ sym (append_assoc (spell p.0.0) (flat_map spell q.0.0) q.0.1)) in
      subst (λ (y : List A × List ℕ). (AllByRecursion Has y.0 × (length y.0 ≡ suc n)) × (bytes ≡ flat_map spell y.0 ++ y.1))
      (some_is (p.0.0 ∷ q.0.0, q.0.1) (xs, rest) q.2) (((f.0, g.0.0), ap suc g.0.1), whole)

  times_again : (n : ℕ) (xs : List A) (rest : List ℕ) → AllByRecursion Has xs × (length xs ≡ n)
      → times read n (flat_map spell xs ++ rest) ≡ Some (xs, rest)
  unfolding times
  times_again zero [] rest has = refl
  times_again zero (x ∷ xs) rest has = absurd (omega (arith, has.1))
  times_again (suc n) [] rest has = absurd (omega (arith, has.1))
  times_again (suc n) (x ∷ xs) rest has =
      let regrouped : flat_map spell (x ∷ xs) ++ rest ≡ spell x ++ (flat_map spell xs ++ rest) =
      ap (λ b. b ++ rest) (flat_map-cons spell x xs) ∙ append_assoc (spell x) (flat_map spell xs) rest in
      ap (times read (suc n)) regrouped ∙ rw (
        reads.again x (flat_map spell xs ++ rest) tt has.0.0,
        times_again n xs rest (has.0.1, omega (arith, has.1)),
      ) refl

  -- n values one after the other
  pub Reads-times : (n : ℕ) → Reads (λ xs. AllByRecursion Has xs × (length xs ≡ n)) (flat_map spell) (times read n)
  Reads-times n = record { found = times_found n; again = λ xs rest ends has. times_again n xs rest has }

module _ {A : Type 0} {Has : A → Type 0} {spell : A → List ℕ} {read : Parser A} (low high : ℕ) (below : high < 256)
    (reads : Reads Has spell read) where
  -- a count, and then that many values
  pub Reads-list : Reads (λ xs. AllByRecursion Has xs × ((low ≤ length xs) × (length xs ≤ high))) (λ xs. length xs ∷ flat_map spell xs)
      (list_at low high read)
  Reads-list = Reads-chain (Reads-within low high below Reads-byte) _ length (λ xs has. has.1) (flat_map spell) (times read)
      (λ n le. record {
        found = λ bytes xs rest fits e. let f = (Reads-times reads n).found bytes xs rest fits e in ((((f.0.0, rw f.0.1 le), f.0.1)), f.1);
        again = λ xs rest ends has. (Reads-times reads n).again xs rest ends (has.0.0, has.1);
      })

-- a length, and then that many bytes
pub Reads-text : (low high : ℕ) → high < 256 → Reads (λ text. IsBytes text × ((low ≤ length text) × (length text ≤ high)))
    (λ text. length text ∷ text) (text_at low high)
Reads-text low high below = Reads-chain (Reads-within low high below Reads-byte) _ length (λ xs has. has.1) (λ text. text) run_at
    (λ n le. record {
      found = λ bytes xs rest fits e. let f = (Reads-run n).found bytes xs rest fits e in ((((f.0.1, rw f.0.0 le), f.0.0)), f.1);
      again = λ xs rest ends has. (Reads-run n).again xs rest ends (has.1, has.0.0);
    })

-- ---- a tag, and then one of several cases

-- after this tag the parser finds only values that have it
pub record FindsCase {B : Type 0} (Has : B → Type 0) (tag : B → ℕ) (body : B → List ℕ) (t : ℕ) (read : Parser B) : Type 0 where
  pub finds : (bytes : List ℕ) (b : B) (rest : List ℕ) → IsBytes bytes → read bytes ≡ Some (b, rest)
      → (Has b × (tag b ≡ t)) × (bytes ≡ body b ++ rest)

-- a tag that no value has
pub finds_none : {B : Type 0} {Has : B → Type 0} {tag : B → ℕ} {body : B → List ℕ} (t : ℕ) → FindsCase Has tag body t nothing_at
finds_none t = record { finds = λ bytes b rest fits e. absurd cc }

module _ {A B : Type 0} {Has : B → Type 0} {tag : B → ℕ} {body : B → List ℕ} {HasA : A → Type 0} {spellA : A → List ℕ} {readA : Parser A}
    {IsRest : List ℕ → Type 0} (make : A → B) (t : ℕ) (reads : ReadsBefore IsRest HasA spellA readA)
    (is : (a : A) → HasA a → (Has (make a) × (tag (make a) ≡ t)) × (spellA a ≡ body (make a))) where
  -- a tag that one case has
  pub finds_case : FindsCase Has tag body t (map_at make readA)
  finds_case = record { finds = case_finds }
    where
      case_finds : (bytes : List ℕ) (b : B) (rest : List ℕ) → IsBytes bytes → map_at make readA bytes ≡ Some (b, rest)
          → (Has b × (tag b ≡ t)) × (bytes ≡ body b ++ rest)
      case_finds bytes b rest fits e =
          let p = bind_some (readA bytes) (λ x. Some (make x.0, x.1)) (b, rest) e in
          let f = reads.found bytes p.0.0 p.0.1 fits p.1 in
          let one : (make p.0.0, p.0.1) ≡ (b, rest) = some_is _ _ p.2 in
          let i = is p.0.0 f.0 in
          subst (λ (x : B × List ℕ). (Has x.0 × (tag x.0 ≡ t)) × (bytes ≡ body x.0 ++ x.1)) one
          (i.0, f.1 ∙ ap (λ prefix. prefix ++ p.0.1) i.1)

-- a case is read back after its tag
pub case_again : {A B : Type 0} {IsRest : List ℕ → Type 0} {HasA : A → Type 0} {spellA : A → List ℕ} {readA : Parser A} (make : A → B)
    → ReadsBefore IsRest HasA spellA readA → (a : A) (rest : List ℕ) → IsRest rest → HasA a
    → map_at make readA (spellA a ++ rest) ≡ Some (make a, rest)
case_again make reads a rest ends has = rw (reads.again a rest ends has) refl

module _ {B : Type 0} {IsRest : List ℕ → Type 0} (Has : B → Type 0) (tag : B → ℕ) (body : B → List ℕ) (choose : ℕ → Parser B)
    (finds : (t : ℕ) → FindsCase Has tag body t (choose t))
    (again : (b : B) (rest : List ℕ) → IsRest rest → Has b → choose (tag b) (body b ++ rest) ≡ Some (b, rest)) where
  cases_found : (bytes : List ℕ) (b : B) (rest : List ℕ) → IsBytes bytes → chain_at byte_at choose bytes ≡ Some (b, rest)
      → Has b × (bytes ≡ tag b ∷ body b ++ rest)
  cases_found [] b rest fits e = absurd cc
  cases_found (t ∷ bytes) b rest fits e =
      let f = (finds t).finds bytes b rest (λ i. fits (suc i)) e in
      (f.0.0, ap (λ after. t ∷ after) f.1 ∙ ap (λ t. t ∷ body b ++ rest) (sym f.0.1))

  pub Reads-cases : ReadsBefore IsRest Has (λ b. tag b ∷ body b) (chain_at byte_at choose)
  Reads-cases = record { found = cases_found; again = again }

-- ---- a loop that reads n values

module _ {A : Type 0} (read : Parser A) where
  regroup : (prefix : List A) (x : A) (found : Option (List A × List ℕ))
      → with_prefix prefix (found >>= λ xs. Some (x ∷ xs.0, xs.1)) ≡ with_prefix (prefix ++ x ∷ []) found
  regroup prefix x (Some xs) = ap (λ (all : List A). Some (all, xs.1)) (simp append_assoc)
  regroup prefix x None = refl

  -- it read one more
  pub times_more : (prefix : List A) (count i : ℕ) (bytes : List ℕ) (x : A) (after : List ℕ) (total : Option (List A × List ℕ))
      → i < count → read bytes ≡ Some (x, after)
      → with_prefix prefix (times read (count - i) bytes) ≡ total
      → with_prefix (prefix ++ x ∷ []) (times read (count - (i + 1)) after) ≡ total
  unfolding times
  times_more prefix count i bytes x after total lt h so_far =
      let k : count - i ≡ suc (count - (i + 1)) = omega arith in
      let one : with_prefix prefix (times read (count - i) bytes) ≡ with_prefix (prefix ++ x ∷ []) (times read (count - (i + 1)) after) =
      rw (k, h) (regroup prefix x (times read (count - (i + 1)) after)) in
      sym one ∙ so_far

  -- the next one cannot be read
  pub times_ends : (prefix : List A) (count i : ℕ) (bytes : List ℕ) (total : Option (List A × List ℕ)) → i < count → read bytes ≡ None
      → with_prefix prefix (times read (count - i) bytes) ≡ total → total ≡ None
  unfolding times
  times_ends prefix count i bytes total lt h so_far =
      let k : count - i ≡ suc (count - (i + 1)) = omega arith in
      let one : with_prefix prefix (times read (count - i) bytes) ≡ None = rw (k, h) refl in
      sym so_far ∙ one

  -- it read all
  pub times_done : (prefix : List A) (count i : ℕ) (bytes : List ℕ) (total : Option (List A × List ℕ)) → count ≤ i
      → with_prefix prefix (times read (count - i) bytes) ≡ total → total ≡ Some (prefix, bytes)
  unfolding times
  times_done prefix count i bytes total le so_far =
      let k : count - i ≡ 0 = omega arith in
      let one : with_prefix prefix (times read (count - i) bytes) ≡ Some (prefix, bytes) =
      rw k (ap (λ (xs : List A). Some (xs, bytes)) (append-nil prefix)) in
      sym so_far ∙ one

-- ---- a loop that reads as many values as there are, up to a count

-- the values that were read before, and those that are found after them
abbrev pub prepend : {A : Type 0} → List A → List A × List ℕ → List A × List ℕ
prepend prefix found = (prefix ++ found.0, found.1)

module _ {A : Type 0} (read : Parser A) (prefix : List A) (bytes : List ℕ) (total : List A × List ℕ) where
  -- it read one more
  pub many_more : (count i : ℕ) (x : A) (after : List ℕ) → i < count → read bytes ≡ Some (x, after)
      → prepend prefix (many_at read (count - i) bytes) ≡ total
      → prepend (prefix ++ x ∷ []) (many_at read (count - (i + 1)) after) ≡ total
  many_more count i x after lt next so_far =
      let k : count - i ≡ suc (count - (i + 1)) = omega arith in
      let found = many_at read (count - (i + 1)) after in
      let one : prepend prefix (many_at read (count - i) bytes) ≡ (prefix ++ x ∷ found.0, found.1) = rw (k, next) refl in
      ap (λ xs. (xs, found.1)) (append_assoc prefix (x ∷ []) found.0) ∙ sym one ∙ so_far

  -- no further one can be read
  pub many_ends : (n : ℕ) → read bytes ≡ None → prepend prefix (many_at read n bytes) ≡ total → total ≡ (prefix, bytes)
  many_ends zero none so_far = sym so_far ∙ ap (λ xs. (xs, bytes)) (append-nil prefix)
  many_ends (suc n) none so_far =
      let end : prepend prefix (many_at read (suc n) bytes) ≡ (prefix ++ [], bytes) = rw none refl in
      sym so_far ∙ end ∙ ap (λ xs. (xs, bytes)) (append-nil prefix)

  -- as many were read as it may
  pub many_done : (count i : ℕ) → count ≤ i → prepend prefix (many_at read (count - i) bytes) ≡ total → total ≡ (prefix, bytes)
  many_done count i le so_far =
      let k : count - i ≡ 0 = omega arith in
      let end : prepend prefix (many_at read (count - i) bytes) ≡ (prefix ++ [], bytes) = rw k refl in
      sym so_far ∙ end ∙ ap (λ xs. (xs, bytes)) (append-nil prefix)
