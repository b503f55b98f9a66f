-- Charge lines that are added to a list: whose they are.
use Rattle.std.proofs.Common.{◌≡◌, ◌≢◌, ℕ, zero, suc, ◌⊎◌, Bool, true, false, cond, ◌&&◌, eqb, List, [], ◌∷◌, ◌++◌, map, Option, Some, None, refl, sym, ap, subst, ◌∙◌, inl, inr, arith}
use Rattle.std.specs.Prelude.{Contains}
use Rattle.std.specs.List.{filter, filter_map, cons_option}
use Rattle.std.proofs.lemmas.Bool.{eq-eqb}
use Rattle.std.proofs.lemmas.Bool.Decides.{eqb_tells}
use Rattle.std.proofs.lemmas.List.{map-append}
use Rattle.std.proofs.lemmas.List.Elements.{filter-append, filter_map-append, Contains-append_left, Contains-append_right, Contains-append_cases}
use Rattle.pv_charge.specs.Line.{Charge}
use Rattle.pv_post.specs.declared.item.Item.{Item}
use Rattle.pv_network.specs.declared.outcome.BillLine.{BillLine}
use Rattle.pv_network.specs.Charging.{line_in, is_of_serial, lines_with, is_of_call, shown_lines, line_at, call_of_line, IsStoppedCall}
use Rattle.pv_network.specs.World.{StoppedCall}

-- ---- lines of a list of two parts

pub lines_with-append : (kept more : List Item) (serial : ℕ)
    → lines_with (kept ++ more) serial ≡ lines_with kept serial ++ lines_with more serial
lines_with-append kept more serial =
    ap (filter (is_of_serial serial)) (filter_map-append line_in kept more)
    ∙ filter-append (is_of_serial serial) (filter_map line_in kept) (filter_map line_in more)

-- the lines alone
abbrev charges : List BillLine → List Charge
charges lines = map (λ line. line.line) lines

-- of lines that are shown at a centre those of one call are shown to it
module _ (c : ℕ) where
  here : (lines : List Charge) (serial : ℕ) → shown_lines (map (line_at c) lines) c serial ≡ filter (is_of_serial serial) lines
  here [] serial = refl
  here (line ∷ lines) serial =
      let same : (eqb c c && is_of_serial serial line) ≡ is_of_serial serial line = rw (eq-eqb c c refl) refl in
      ap (λ (test : Bool). charges (cond test (line_at c line ∷ filter (is_of_call c serial) (map (line_at c) lines))
      (filter (is_of_call c serial) (map (line_at c) lines)))) same
      ∙ by (here lines serial) (is_of_serial serial line)
    where
      by : shown_lines (map (line_at c) lines) c serial ≡ filter (is_of_serial serial) lines → (test : Bool)
          → charges (cond test (line_at c line ∷ filter (is_of_call c serial) (map (line_at c) lines))
          (filter (is_of_call c serial) (map (line_at c) lines)))
          ≡ cond test (line ∷ filter (is_of_serial serial) lines) (filter (is_of_serial serial) lines)
      by rest true = ap (λ (l : List Charge). line ∷ l) rest
      by rest false = rest

  -- none of them is shown at another
  elsewhere : (k : ℕ) → k ≢ c → (lines : List Charge) (serial : ℕ) → shown_lines (map (line_at c) lines) k serial ≡ []
  elsewhere k other [] serial = refl
  elsewhere k other (line ∷ lines) serial = elim (eqb_tells c k) [
    | inl same ↦ absurd (other (sym same.1))
    | inr away ↦ rw away.0 (elsewhere k other lines serial)
  ]

  module _ (shown : List BillLine) (lines : List Charge) where
    -- those of a list to which they are added
    abbrev more : List BillLine
    more = shown ++ map (line_at c) lines

    both : (k serial : ℕ) → shown_lines more k serial ≡ shown_lines shown k serial ++ shown_lines (map (line_at c) lines) k serial
    both k serial =
        ap charges (filter-append (is_of_call k serial) shown (map (line_at c) lines))
        ∙ map-append (λ (line : BillLine). line.line) (filter (is_of_call k serial) shown)
        (filter (is_of_call k serial) (map (line_at c) lines))

    pub shown_here : (serial : ℕ) → shown_lines more c serial ≡ shown_lines shown c serial ++ filter (is_of_serial serial) lines
    shown_here serial = both c serial ∙ ap (λ (l : List Charge). shown_lines shown c serial ++ l) (here lines serial)

    pub shown_elsewhere : (k : ℕ) → k ≢ c → (serial : ℕ) → shown_lines more k serial ≡ shown_lines shown k serial ++ []
    shown_elsewhere k other serial = both k serial
        ∙ ap (λ (l : List Charge). shown_lines shown k serial ++ l) (elsewhere k other lines serial)

-- ---- a line of one call

module _ (line : Charge) (serial : ℕ) where
  pub its_own : serial ≡ line.serial → filter (is_of_serial serial) (line ∷ []) ≡ line ∷ []
  its_own is = rw (eq-eqb line.serial serial (sym is)) refl

  pub not_its_own : (serial ≢ line.serial) → filter (is_of_serial serial) (line ∷ []) ≡ []
  not_its_own other = elim (eqb_tells line.serial serial) [
    | inl here ↦ absurd (other (sym here.1))
    | inr away ↦ rw away.0 refl
  ]

-- ---- elements

module _ {X : Type 0} where
  first : (x : X) (xs : List X) → Contains (x ∷ xs) x
  first x xs = (0, omega arith, refl)

  later : (x y : X) (xs : List X) → Contains xs y → Contains (x ∷ xs) y
  later x y xs there = Contains-append_right (x ∷ []) xs y there

module _ {X Y : Type 0} where
  -- an element that a function gives is that of one
  pub from_map : (f : X → Y) (xs : List X) (y : Y) → Contains (map f xs) y → (x : X) × Contains xs x × (f x ≡ y)
  from_map f [] y (k, within, is) = absurd (omega (arith, within))
  from_map f (x ∷ xs) y (zero, within, is) = (x, first x xs, is)
  from_map f (x ∷ xs) y (suc k, within, is) =
      let there = from_map f xs y (k, omega (arith, within), is) in (there.0, later x there.0 xs there.1, there.2)

  pub into_map : (f : X → Y) (xs : List X) (x : X) → Contains xs x → Contains (map f xs) (f x)
  into_map f [] x (k, within, is) = absurd (omega (arith, within))
  into_map f (z ∷ xs) x (zero, within, is) = subst (λ (y : Y). Contains (map f (z ∷ xs)) y) (ap f is) (first (f z) (map f xs))
  into_map f (z ∷ xs) x (suc k, within, is) = later (f z) (f x) (map f xs) (into_map f xs x (k, omega (arith, within), is))

  pub from_filter_map : (h : X → Option Y) (xs : List X) (y : Y) → Contains (filter_map h xs) y
      → (x : X) × Contains xs x × (h x ≡ Some y)
  from_filter_map h [] y (k, within, is) = absurd (omega (arith, within))
  from_filter_map h (x ∷ xs) y there =
      by (λ more. let found = from_filter_map h xs y more in (found.0, later x found.0 xs found.1, found.2)) (h x) refl there
    where
      by : (Contains (filter_map h xs) y → (z : X) × Contains (x ∷ xs) z × (h z ≡ Some y)) → (found : Option Y) → h x ≡ found
          → Contains (cons_option found (filter_map h xs)) y → (z : X) × Contains (x ∷ xs) z × (h z ≡ Some y)
      by on None is more = on more
      by on (Some z) is (zero, within, same) = (x, first x xs, is ∙ ap Some same)
      by on (Some z) is (suc k, within, same) = on (k, omega (arith, within), same)

  pub into_filter_map : (h : X → Option Y) (xs : List X) (x : X) (y : Y) → Contains xs x → h x ≡ Some y → Contains (filter_map h xs) y
  into_filter_map h [] x y (k, within, is) gives = absurd (omega (arith, within))
  into_filter_map h (z ∷ xs) x y (zero, within, is) gives =
      subst (λ (found : Option Y). Contains (cons_option found (filter_map h xs)) y) (sym (ap h is ∙ gives)) (first y (filter_map h xs))
  into_filter_map h (z ∷ xs) x y (suc k, within, is) gives = by (into_filter_map h xs x y (k, omega (arith, within), is) gives) (h z)
    where
      by : Contains (filter_map h xs) y → (found : Option Y) → Contains (cons_option found (filter_map h xs)) y
      by rest None = rest
      by rest (Some w) = later w y (filter_map h xs) rest

-- ---- calls that are stopped

module _ (stopped : List StoppedCall) (c : ℕ) (lines : List Charge) where
  -- those that were, and those of the lines
  abbrev also : List StoppedCall
  also = stopped ++ map (call_of_line c) lines

  pub stopped_before : (k serial : ℕ) → IsStoppedCall stopped k serial → IsStoppedCall also k serial
  stopped_before k serial there = Contains-append_left stopped (map (call_of_line c) lines) _ there

  pub stopped_with : (line : Charge) → Contains lines line → IsStoppedCall also c line.serial
  stopped_with line there = Contains-append_right stopped (map (call_of_line c) lines) _ (into_map (call_of_line c) lines line there)

  pub stopped_by : (k serial : ℕ) → IsStoppedCall also k serial
      → IsStoppedCall stopped k serial ⊎ ((line : Charge) × Contains lines line × (c ≡ k) × (line.serial ≡ serial))
  stopped_by k serial there = elim (Contains-append_cases stopped (map (call_of_line c) lines) _ there) [
    | inl before ↦ inl before
    | inr now ↦
        let found = from_map (call_of_line c) lines _ now in
        inr (found.0, found.1, ap (λ (call : StoppedCall). call.centre) found.2, ap (λ (call : StoppedCall). call.serial) found.2)
  ]
