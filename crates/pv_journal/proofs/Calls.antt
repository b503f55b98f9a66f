-- What a disk reports of its room and of the calls that are left, over one call of it.
use Rattle.std.proofs.Common.{◌≡◌, ℕ, zero, suc, ◌+◌, ◌-◌, ◌≤◌, Option, Some, None, IfSome, Result, Ok, Err, IsOk, IsErr, sym, ◌∙◌, ap, subst, arith, rules}
use Rattle.std.proofs.lemmas.Bool.{false≢true}
use Rattle.std.specs.Option.{option_map}
use Rattle.pv_outside.specs.Disk.{Budget, budget_after, IsLaterBy, HasCalls, IsEndless, IsSpent, CanCall}
use Rattle.pv_outside.specs.Counts.{successes_after}
use Rattle.pv_outside.specs.Calls.{IsCall, WritesNothing}
use Rattle.pv_outside.specs.declared.reports.Reports as reports
use Rattle.pv_journal.specs.Journal.{HasLeft, Spends, ReadsOnly, HasMade}
use Rattle.pv_journal.proofs.Moments.{time_look}

-- a call that is paid for leaves the room, and takes one of the calls that are left
abbrev pub Pays : (Budget → Budget) → Type 0
Pays pay = (b : Budget) → ((pay b).room ≡ b.room) × ((pay b).left ≡ option_map (λ n. n - 1) b.left)

-- of n + 1 calls that are left, n still are after one
one_less : (n : ℕ) → suc n - 1 ≡ n
one_less n = omega arith

-- however many calls are left, it is at least none
any_left : (o : Option ℕ) → IfSome o (λ left. 0 ≤ left)
any_left None = tt
any_left (Some n) = omega arith

module _ {T E : Type 0} where
  -- a disk that has this room and calls without end still has both after a call of it, whatever the call returns
  pub endless_after : (r : Result T E) (pay : Budget → Budget) → Pays pay → (old new : Option Budget) → new ≡ budget_after r pay old
      → (room : ℕ) → IsEndless room old → IsEndless room new
  endless_after (Err e) pay pays old new is room endless = subst (IsEndless room) (sym is) endless
  endless_after (Ok x) pay pays None new is room endless = absurd endless
  endless_after (Ok x) pay pays (Some b) new is room endless =
      subst (IsEndless room) (sym is) (subst (λ (k : ℕ). room ≤ k) (sym (pays b).0) endless.0, (pays b).1 ∙ ap (option_map (λ n. n - 1)) endless.1)

  -- a disk that reports its budget with at least this room does so after a call of it
  pub room_after : (r : Result T E) (pay : Budget → Budget) → Pays pay → (old new : Option Budget) → new ≡ budget_after r pay old
      → (room : ℕ) → HasCalls 0 room old → HasCalls 0 room new
  room_after (Err e) pay pays old new is room has = subst (HasCalls 0 room) (sym is) has
  room_after (Ok x) pay pays None new is room has = absurd has
  room_after (Ok x) pay pays (Some b) new is room has =
      subst (HasCalls 0 room) (sym is) (subst (λ (k : ℕ). room ≤ k) (sym (pays b).0) has.0, any_left (pay b).left)

  -- a call that succeeds is one of those that were left, and one that fails takes none
  pub paid_after : (r : Result T E) (pay : Budget → Budget) → Pays pay → (old new : Option Budget) (before now : ℕ)
      → new ≡ budget_after r pay old
      → now ≡ successes_after r before → (IsSpent old → IsErr r) → (n : ℕ) → HasLeft n old → (m : ℕ) × HasLeft m new × (now + m ≤ before + n)
  paid_after (Err e) pay pays old new before now is clock spent n has = (n, subst (HasLeft n) (sym is) has, omega (arith, clock))
  paid_after (Ok x) pay pays None new before now is clock spent n has = absurd has
  paid_after (Ok x) pay pays (Some b) new before now is clock spent zero has = absurd (false≢true (spent has))
  paid_after (Ok x) pay pays (Some b) new before now is clock spent (suc n) has =
      (n, subst (HasLeft n) (sym is) ((pays b).1 ∙ ap (option_map (λ n. n - 1)) has ∙ ap Some (one_less n)), omega (arith, clock))

-- a call that succeeds is one of those that were left
left_after : {T E : Type 0} (r : Result T E) (pay : Budget → Budget) → Pays pay → (old new : Option Budget) → new ≡ budget_after r pay old
    → (IsSpent old → IsErr r) → IsOk r → (k : ℕ) → HasLeft k old → (m : ℕ) × HasLeft m new × (m + 1 ≤ k)
left_after (Err e) pay pays old new is spent ok k has = absurd (false≢true ok)
left_after (Ok x) pay pays None new is spent ok k has = absurd has
left_after (Ok x) pay pays (Some b) new is spent ok zero has = absurd (false≢true (spent has))
left_after (Ok x) pay pays (Some b) new is spent ok (suc k) has =
    (k, subst (HasLeft k) (sym is) ((pays b).1 ∙ ap (option_map (λ n. n - 1)) has ∙ ap Some (one_less k)), omega arith)

-- a call that succeeds is one on the clock
passed_after : {T E : Type 0} (r : Result T E) (before now : ℕ) → now ≡ successes_after r before → IsOk r → IsLaterBy 1 before now
passed_after (Ok x) before now is ok = omega (arith, is)
passed_after (Err e) before now is ok = absurd (false≢true ok)

-- at most one call more has succeeded after a call
one_at_most : {T E : Type 0} (r : Result T E) (before now : ℕ) → now ≡ successes_after r before → now ≤ before + 1
one_at_most (Ok x) before now is = omega (arith, is)
one_at_most (Err e) before now is = omega (arith, is)

-- a call does not fail where calls pass without end
endless_passes : {T E : Type 0} (r : Result T E) (budget : Option Budget) → (CanCall budget → IsOk r) → (room : ℕ) → IsEndless room budget
    → IsErr r → ⊥
endless_passes r None can room endless fails = endless
endless_passes (Ok x) (Some b) can room endless fails = false≢true fails
endless_passes (Err e) (Some b) can room endless fails =
    false≢true (can (λ some. subst (λ (o : Option ℕ). IfSome o (λ n. ⊥)) (sym endless.1 ∙ some) tt))

module _ {D : Type 0} (g : reports.Ghosts D) {T E : Type 0} {pay : Budget → Budget} (pays : Pays pay) (old new : D) (r : Result T E) where
  -- one call of a disk takes at most one of those that are left, and only if it succeeds
  pub spends_call : {size : ℕ} {Can : Option Budget → Type 0} → IsCall g size pay Can old new r → Spends g 1 (IsErr r) old new
  spends_call call = record {
    calls = one_at_most r (g.clock old) (g.clock new) call.clock;
    endless = endless_after r pay pays (g.budget old) (g.budget new) call.budget;
    has_room = room_after r pay pays (g.budget old) (g.budget new) call.budget;
    paid = paid_after r pay pays (g.budget old) (g.budget new) (g.clock old) (g.clock new) call.budget call.clock call.spent;
    counted = call.counted;
    failed = call.failed;
  }

  -- a call that succeeds was made
  pub made_call : {size : ℕ} {Can : Option Budget → Type 0} → IsCall g size pay Can old new r → IsOk r → HasMade g 1 old new
  made_call call ok = search (rules, passed_after, left_after)

  -- a call that writes nothing, whatever it returns
  pub reads_once : WritesNothing g pay old new r → ReadsOnly g 1 (IsErr r) old new
  reads_once looks = record {
    same = record { reads = looks.reads; images = looks.images; time = time_look g old new r looks };
    spends = spends_call looks.call;
    passes = endless_passes r (g.budget old) looks.call.passes;
  }
