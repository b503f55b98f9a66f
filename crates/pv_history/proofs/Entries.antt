-- The entries of a log, and rights in order.
use Rattle.std.proofs.Common.{◌≡◌, ℕ, ◌+◌, List, [], ◌∷◌, ◌++◌, length, map, Option, Some, None, refl, ap, sym, ◌∙◌, subst, arith}
use mathlib.Core.List.{IsPrefix}
use Rattle.logbook.specs.Pages.{Book}
use Rattle.logbook.specs.declared.tokens.Pen.{Pen}
use Rattle.pv_history.specs.History.{entries_of, IsRight, AreRights}

module _ {E : Type 0} where
  -- a log of entries alone
  pub entries_of-map : (xs : List E) → entries_of (map Some xs) ≡ xs
  entries_of-map [] = refl
  entries_of-map (x ∷ xs) = ap (λ ys. x ∷ ys) (entries_of-map xs)

  -- with one entry more
  pub entries_of-push : (log : List (Option E)) (entry : E) → entries_of (log ++ Some entry ∷ []) ≡ entries_of log ++ entry ∷ []
  entries_of-push [] entry = refl
  entries_of-push (None ∷ log) entry = entries_of-push log entry
  entries_of-push (Some first ∷ log) entry = ap (λ ys. first ∷ ys) (entries_of-push log entry)

  pub map-push : (xs : List E) (entry : E) → map Some xs ++ Some entry ∷ [] ≡ map Some (xs ++ entry ∷ [])
  map-push [] entry = refl
  map-push (x ∷ xs) entry = ap (λ ys. Some x ∷ ys) (map-push xs entry)

  -- it has as many entries
  pub length-entries : (log : List (Option E)) → log ≡ map Some (entries_of log) → length (entries_of log) ≡ length log
  length-entries log all = length_map (entries_of log) ∙ sym (ap length all)
    where
      length_map : (xs : List E) → length xs ≡ length (map Some xs)
      length_map [] = refl
      length_map (x ∷ xs) = omega (arith, length_map xs)

  -- prefixes of logs have prefixes of entries
  pub prefix-entries : (xs ys : List E) → IsPrefix (map Some xs) (map Some ys) → IsPrefix xs ys
  prefix-entries [] ys p = (ys, refl)
  prefix-entries (x ∷ xs) [] p = absurd (cc (p.1))
  prefix-entries (x ∷ xs) (y ∷ ys) p =
      let rest = prefix-entries xs ys (p.0, cc (p.1)) in
      let heads : x ≡ y = cc (p.1) in
      (rest.0, cc (heads, rest.1))

-- one right more
pub rights-push : (book : Book) (number : ℕ) (pens : List Pen) (pen : Pen) → AreRights book number pens → IsRight book (number + length pens) pen
    → AreRights book number (pens ++ pen ∷ [])
rights-push book number [] pen are is = (subst (λ n. IsRight book n pen) (omega arith) is, tt)
rights-push book number (first ∷ pens) pen are is =
    (are.0, rights-push book (number + 1) pens pen are.1 (subst (λ n. IsRight book n pen) (omega arith) is))
