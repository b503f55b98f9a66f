-- What crates above may cite: a disk that was not called, or that was called in two stretches.
use Rattle.std.proofs.Common.{◌⊎◌, ⊎_elim, ℕ, ◌+◌, ◌<◌, ◌≤◌, refl, arith, rules}
use Rattle.pv_outside.specs.declared.reports.Reports as reports
use Rattle.pv_journal.specs.Journal.{HasLeft, Remains, Spends, ReadsOnly, HasMade}
use Rattle.pv_journal.specs.Log.{count_with_hand}
use Rattle.pv_journal.specs.declared.journal.Phase.{Phase}
use Rattle.pv_journal.specs.declared.journal.Phase.TheVariants.{Reading, Resting, InHand}
use Rattle.pv_journal.proofs.Moments.{time_none, time_weaker, time_then}

module _ {D : Type 0} (g : reports.Ghosts D) where
  -- a disk on which no call was made remains as it was
  pub remains_none : (d : D) → Remains g d d
  remains_none d = record { reads = refl; images = λ image left. left; time = time_none g d (g.may_leave d) }

  -- a disk on which nothing was written in either of two stretches remains over both
  pub remains_then : {first second third : D} → Remains g first second → Remains g second third → Remains g first third
  remains_then a b = search (rules, time_then, time_weaker)

  -- calls of which fewer succeed, or which fail in more cases, are such calls
  pub spends_most : {n most : ℕ} {F Fails : Type 0} {old new : D} → n ≤ most → (Fails → F) → Spends g n F old new
      → Spends g most Fails old new
  spends_most le fails a = search rules

  -- if no call was made, none was taken
  pub spends_none : {most : ℕ} {Fails : Type 0} (d : D) → (Fails → ⊥) → Spends g most Fails d d
  spends_none d never = search rules

  -- two stretches of calls take what both take
  pub spends_then : {n most : ℕ} {F Fails : Type 0} {first second third : D}
      → Spends g n F first second → Spends g most Fails second third → Spends g (n + most) Fails first third
  spends_then a b = record {
    calls = omega (arith, a.calls, b.calls);
    endless = λ room endless. b.endless room (a.endless room endless);
    has_room = λ room has. b.has_room room (a.has_room room has);
    paid = λ n has.
        let one = a.paid n has in
        let two = b.paid one.0 one.1 in
        (two.0, two.1, omega (arith, one.2, two.2));
    counted = omega (arith, a.counted, b.counted);
    failed = λ fails. let rose = b.failed fails in omega (arith, a.counted, rose);
  }

  -- calls that write nothing: a bound may be raised, and none at all keep the disk
  pub reads_most : {n most : ℕ} {F Fails : Type 0} {old new : D} → n ≤ most → (Fails → F) → ReadsOnly g n F old new
      → ReadsOnly g most Fails old new
  reads_most le fails a =
      record { same = a.same; spends = spends_most le fails a.spends; passes = λ room endless f. a.passes room endless (fails f) }

  pub reads_none : {most : ℕ} {Fails : Type 0} (d : D) → (Fails → ⊥) → ReadsOnly g most Fails d d
  reads_none d never = record { same = remains_none d; spends = spends_none d never; passes = λ room endless. never }

  pub reads_then : {n most : ℕ} {F Fails : Type 0} {first second third : D}
      → ReadsOnly g n F first second → ReadsOnly g most Fails second third → ReadsOnly g (n + most) Fails first third
  reads_then a b = record {
    same = remains_then a.same b.same;
    spends = spends_then a.spends b.spends;
    passes = λ room endless. b.passes room (a.spends.endless room endless);
  }

  -- in two stretches as many calls were made as in both
  pub made_then : {n m : ℕ} {first second third : D} → HasMade g n first second → HasMade g m second third → HasMade g (n + m) first third
  made_then a b = record {
    clock = omega (arith, a.clock, b.clock);
    left = λ k has.
        let one = a.left k has in
        let two = b.left one.0 one.1 in
        (two.0, two.1, omega (arith, one.2, two.2));
  }

  -- no call is made by none
  pub made_none : {n : ℕ} (d : D) → n ≤ 0 → HasMade g n d d
  made_none d none = record { clock = omega (arith, none); left = λ k has. (k, has, omega (arith, none)) }

  -- of the calls that were made, whatever further ones return, all were
  pub made_any : {most : ℕ} {Fails : Type 0} {old new : D} → Spends g most Fails old new → g.clock old ≤ g.clock new → HasMade g 0 old new
  made_any a later = record {
    clock = omega (arith, later);
    left = λ k has. let paid = a.paid k has in (paid.0, paid.1, omega (arith, later, paid.2));
  }

  -- if fewer than n calls were left, n were not made
  pub too_few : {n : ℕ} {old new : D} {P : Type 0} (k : ℕ) → HasLeft k (g.budget old) → k < n → HasMade g n old new ⊎ P → P
  too_few k has few made = ⊎_elim (λ made. let left = made.left k has in absurd (omega (arith, few, left.2))) (λ p. p) made

-- what a journal has counted is within its limit
pub count_within : (phase : Phase) (count limit : ℕ) → count_with_hand phase count ≤ limit → count ≤ limit
count_within (Reading end) count limit within = within
count_within Resting count limit within = within
count_within (InHand size bodies) count limit within = omega (arith, within)
