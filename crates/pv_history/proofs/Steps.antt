-- The steps of a history keep its rule.
use Rattle.std.proofs.Common.{◌≡◌, ℕ, suc, ◌+◌, ◌-◌, nat_lt, ◌<◌, ◌≤◌, ◌==◌, Bool, true, false, List, [], ◌∷◌, ◌++◌, length, map, replicate, Option, Some, None, refl, ap, sym, ◌∙◌, subst, arith, inl, length-append, append_assoc}
use Rattle.std.proofs.Math.ListN.{get_or, set}
use Rattle.std.proofs.Math.Seq.{set-append_seam}
use Rattle.std.proofs.lemmas.List.{append-nil, length-replicate, replicate-append-replicate, get_or_append_left, get_or-replicate}
use Rattle.std.proofs.lemmas.Bool.{false≢true, ltb-true, ltb-false}
use Rattle.std.proofs.lemmas.Bool.Decides.{nat_tests}
use mathlib.Core.List.{IsPrefix}
use prog.Atomic.{either}
use Rattle.logbook.specs.Pages.{Cell, View, cell, cells_after, keeps, gives, adds, no_nib, nib, may_write, may_make, step, Moves, Goes}
use Rattle.pv_history.specs.History.{entries_of, words_from, IsKept, GivesRight, Adds, Bounds}
use Rattle.pv_history.proofs.CallerLemmas.{prefix_whole, prefix_length}
use Rattle.pv_history.proofs.Entries.{entries_of-push, map-push}

-- the exchange of one count of words for the next
abbrev counted : ℕ → ℕ → ℕ
counted old n = either (n == old) (old + 1) n

-- an exchange that changes nothing
abbrev unchanged : ℕ → ℕ
unchanged n = either (n == 0) 0 n

unchanged_is : (n : ℕ) → unchanged n ≡ n
unchanged_is n = by (n == 0) refl
  where
    by : (b : Bool) → (n == 0) ≡ b → unchanged n ≡ n
    by true is = let zero_is : n ≡ 0 = grind (arith, nat_tests) in rw is (sym zero_is)
    by false is = rw is refl

-- the words, with one right more that was not used
one_given : (used unused : ℕ) → ((2 + used + unused + 1, true) ∷ (0, true) ∷ replicate used (0, true) ++ replicate unused (0, false)) ++ (0, false) ∷ []
    ≡ words_from used (unused + 1)
one_given used unused =
    let home : List Cell = replicate used (0, true) in
    let rest : (home ++ replicate unused (0, false)) ++ (0, false) ∷ [] ≡ home ++ replicate (unused + 1) (0, false) =
    append_assoc home (replicate unused (0, false)) ((0, false) ∷ []) ∙ ap (λ (l : List Cell). home ++ l) (replicate-append-replicate unused 1 (0, false)) in
    let count : 2 + used + unused + 1 ≡ 2 + used + (unused + 1) = omega arith in
    λ i. (count i, true) ∷ (0, true) ∷ rest i

-- the words, once the first right that was not used is
one_used : (used unused : ℕ) → set (words_from used (unused + 1)) (used + 2) (0, true) ≡ words_from (used + 1) unused
one_used used unused =
    let home : List Cell = replicate used (0, true) in
    let away : List Cell = replicate unused (0, false) in
    let first : replicate (unused + 1) (0, false) ≡ (0, false) ∷ away =
    sym (replicate-append-replicate 1 unused (0, false) ∙ ap (λ (n : ℕ). replicate n (0, false)) (omega arith)) in
    let seam : set (home ++ replicate (unused + 1) (0, false)) used (0, true) ≡ home ++ (0, true) ∷ away =
    rw first (subst (λ (n : ℕ). set (home ++ (0, false) ∷ away) n (0, true) ≡ home ++ (0, true) ∷ away) (length-replicate used (0, true))
    (set-append_seam home (0, false) away (0, true))) in
    let grown : home ++ (0, true) ∷ away ≡ replicate (used + 1) (0, true) ++ away =
    sym (append_assoc home ((0, true) ∷ []) away) ∙ ap (λ (l : List Cell). l ++ away) (replicate-append-replicate used 1 (0, true)) in
    let count : 2 + used + (unused + 1) ≡ 2 + (used + 1) + unused = omega arith in
    let whole : set (words_from used (unused + 1)) (suc (suc used)) (0, true) ≡ words_from (used + 1) unused =
    λ i. (count i, true) ∷ (0, true) ∷ (seam ∙ grown) i in
    let two : suc (suc used) ≡ used + 2 = omega arith in
    subst (λ (n : ℕ). set (words_from used (unused + 1)) n (0, true) ≡ words_from (used + 1) unused) two whole

-- how many words there are
count_of : (used unused : ℕ) → length (words_from used unused) ≡ 2 + used + unused
count_of used unused =
    omega (
      arith,
      length-append {A = Cell} (replicate used (0, true)) (replicate unused (0, false)),
      length-replicate {A = Cell} used (0, true),
      length-replicate {A = Cell} unused (0, false),
    )

-- a right that was used is at home
used_home : (used unused k : ℕ) → k < used → (cell (words_from used unused) (k + 2)).1 ≡ true
used_home used unused k below =
    let home : List Cell = replicate used (0, true) in
    let away : List Cell = replicate unused (0, false) in
    let within : k < length home = rw (length-replicate {A = Cell} used (0, true)) below in
    let there : get_or (home ++ away) k (0, false) ≡ (0, true) =
    get_or_append_left home away (0, false) k within ∙ get_or-replicate used k (0, true) (0, false) below in
    let two : suc (suc k) ≡ k + 2 = omega arith in
    subst (λ (n : ℕ). (cell (words_from used unused) n).1 ≡ true) two (ap (λ (c : Cell). c.1) there)

-- so one that is not at home was not used
not_used : (used unused k : ℕ) → (cell (words_from used unused) (k + 2)).1 ≡ false → used ≤ k
not_used used unused k away = by (nat_lt k used) refl
  where
    by : (b : Bool) → nat_lt k used ≡ b → used ≤ k
    by true is = absurd (false≢true (sym away ∙ used_home used unused k (ltb-true k used is)))
    by false is = ltb-false k used is

module _ {E : Type 0} where
  -- nothing is shown of the log, and nothing is said of a step
  abbrev shown : List (Option E) → List (Option E)
  shown log = []

  abbrev moved : List (Option E) → List (Option E) → ℕ → Type 0
  moved xs ys n = Unit {0}

  -- what was seen, by a thread without a pen, and by one with the right of this number
  abbrev sight : List (Option E) → View (Option E) ℕ
  sight seen = (seen, (no_nib, None))

  abbrev right_sight : ℕ → List (Option E) → View (Option E) ℕ
  right_sight number seen = (seen, (nib may_write (number + 2) 0, None))

  -- a right is given, if there are as many words as the thread has counted
  gives_goes : (log seen : List (Option E)) (unused old : ℕ) → log ≡ map Some (entries_of log)
      → (b : Bool) → (2 + length log + unused == old) ≡ b
      → Goes IsKept shown moved 0 (sight seen) (counted old) (GivesRight (step 0 old (old + 1) None) (sight seen)) (words_from (length log) unused) log
  gives_goes log seen unused old all true is =
      let here : 2 + length log + unused ≡ old = grind (arith, nat_tests) in
      let same : log ++ [] ≡ log = append-nil log in
      let more : 2 + length log + unused + 1 ≡ old + 1 = omega (arith, here) in (
        adds,
        [],
        None,
        tt,
        rw (is, same) (
          unused + 1,
          all,
          subst (λ (n : ℕ). ((n, true) ∷ (0, true) ∷ replicate (length log) (0, true) ++ replicate unused (0, false)) ++ (0, false) ∷ [] ≡ words_from (length log) (unused + 1))
              more (one_given (length log) unused),
        ),
        inl (refl, refl),
        rw is (ap (λ (n : ℕ). nib may_make n 0) (count_of (length log) unused ∙ here)),
      )
  gives_goes log seen unused old all false is =
      let same : log ++ [] ≡ log = append-nil log in (
        keeps,
        [],
        None,
        tt,
        rw (is, same) (unused, all, refl),
        inl (refl, refl),
        rw is tt,
      )

  -- at every state of the book
  pub gives_moves : (seen : List (Option E)) (old : ℕ)
      → Moves IsKept shown moved 0 (sight seen) (counted old) (GivesRight (step 0 old (old + 1) None) (sight seen))
  gives_moves seen old cells log kept prefix away =
      let P : List Cell → Type 0 = λ c. (0 < length c) × ((cell c 0).1 ≡ true)
      × Goes IsKept shown moved 0 (sight seen) (counted old) (GivesRight (step 0 old (old + 1) None) (sight seen)) c log in
      subst P (sym kept.2) (omega arith, refl, gives_goes log seen kept.0 old kept.1 (2 + length log + kept.0 == old) refl)

  -- whoever has the first right that was not used has seen all entries, and adds one
  pub adds_moves : (seen : List (Option E)) (entry : E)
      → Moves IsKept shown moved 0 (right_sight (length seen) seen) unchanged (Adds (step 0 0 0 (Some entry)) (right_sight (length seen) seen))
  adds_moves seen entry cells log kept prefix away =
      let P : List Cell → Type 0 = λ c. (0 < length c) × ((cell c 0).1 ≡ true)
      × Goes IsKept shown moved 0 (right_sight (length seen) seen) unchanged (Adds (step 0 0 0 (Some entry)) (right_sight (length seen) seen)) c log in
      let here = away refl in
      let there : (cell (words_from (length log) kept.0) (length seen + 2)).1 ≡ false = subst (λ (c : List Cell). (cell c (length seen + 2)).1 ≡ false) kept.2 here.1 in
      let within : length seen + 2 < length (words_from (length log) kept.0) = subst (λ (c : List Cell). length seen + 2 < length c) kept.2 here.0 in
      let least = not_used (length log) kept.0 (length seen) there in
      let same : seen ≡ log = prefix_whole seen log prefix least in
      let left : kept.0 ≡ (kept.0 - 1) + 1 = omega (arith, within, least, count_of (length log) kept.0, prefix_length seen log prefix) in
      let entries : log ++ Some entry ∷ [] ≡ map Some (entries_of (log ++ Some entry ∷ [])) =
      ap (λ (l : List (Option E)). l ++ Some entry ∷ []) kept.1 ∙ map-push (entries_of log) entry
      ∙ ap (λ (l : List E). map Some l) (sym (entries_of-push log entry)) in
      let size : length log + 1 ≡ length (log ++ Some entry ∷ []) = omega (arith, length-append log (Some entry ∷ [])) in
      let used : set (words_from (length log) ((kept.0 - 1) + 1)) (length log + 2) (0, true) ≡ words_from (length (log ++ Some entry ∷ [])) (kept.0 - 1) =
      one_used (length log) (kept.0 - 1) ∙ ap (λ (n : ℕ). words_from n (kept.0 - 1)) size in
      let Sets : ℕ → ℕ → Type 0 = λ n k. set (words_from (length log) n) (k + 2) (0, true) ≡ words_from (length (log ++ Some entry ∷ [])) (kept.0 - 1) in
      let words : Sets kept.0 (length seen) = subst (λ (n : ℕ). Sets n (length seen)) (sym left) (subst (Sets ((kept.0 - 1) + 1)) (sym (ap length same)) used) in
      let Count : ℕ → Type 0 = λ n. IsKept (cells_after gives (nib may_write (length seen + 2) 0) ((n, true) ∷ (0, true) ∷ replicate (length log) (0, true) ++ replicate kept.0 (0, false))) (log ++ Some entry ∷ []) in
      subst P (sym kept.2) (
        omega arith,
        refl,
        (
          gives,
          Some entry ∷ [],
          None,
          refl,
          subst Count (sym (unchanged_is (2 + length log + kept.0))) (kept.0 - 1, entries, words),
          inl (refl, refl),
          ap (λ (l : List (Option E)). l ++ Some entry ∷ []) (sym same),
        ),
      )

  -- whoever has the first right that was not used knows how many entries there are
  pub bounds_moves : (seen : List (Option E)) (number : ℕ)
      → Moves IsKept shown moved 0 (right_sight number seen) unchanged (Bounds (step 0 0 0 None) (right_sight number seen))
  bounds_moves seen number cells log kept prefix away =
      let P : List Cell → Type 0 = λ c. (0 < length c) × ((cell c 0).1 ≡ true)
      × Goes IsKept shown moved 0 (right_sight number seen) unchanged (Bounds (step 0 0 0 None) (right_sight number seen)) c log in
      let here = away refl in
      let there : (cell (words_from (length log) kept.0) (number + 2)).1 ≡ false = subst (λ (c : List Cell). (cell c (number + 2)).1 ≡ false) kept.2 here.1 in
      let least = not_used (length log) kept.0 number there in
      let same : log ++ [] ≡ log = append-nil log in
      let Count : ℕ → Type 0 = λ n. IsKept ((n, true) ∷ (0, true) ∷ replicate (length log) (0, true) ++ replicate kept.0 (0, false)) log in
      subst P (sym kept.2) (
        omega arith,
        refl,
        (
          keeps,
          [],
          None,
          tt,
          rw same (subst Count (sym (unchanged_is (2 + length log + kept.0))) (kept.0, kept.1, refl)),
          inl (refl, refl),
          (omega (arith, least, prefix_length seen log prefix), refl),
        ),
      )
