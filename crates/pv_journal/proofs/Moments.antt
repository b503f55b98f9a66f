-- What a crash at a moment of some calls of a disk might have left, over one call and over more.
use Rattle.std.proofs.Common.{◌⊎◌, ℕ, ◌≤◌, List, length, Option, IsSome, Result, subst, arith, rules}
use Rattle.pv_outside.specs.declared.failed.TheConstants.{COUNT_END}
use Rattle.pv_outside.specs.declared.disk.TheConstants.{KEPT_BYTES}
use Rattle.pv_outside.specs.Disk.{Budget}
use Rattle.pv_outside.specs.Calls.{IsCall, WritesNothing, WritesAt}
use Rattle.pv_outside.specs.declared.reports.Reports as reports
use Rattle.pv_journal.specs.Journal.{EachImage, TimePasses, LeavesOnly, Remains}
use Rattle.pv_journal.proofs.Images.{writes_told, each_kept}

module _ {D : Type 0} (g : reports.Ghosts D) where
  -- over one call, after which each image has P
  pub time_call : {T E : Type 0} {pay : Budget → Budget} {size : ℕ} {Can : Option Budget → Type 0} (old new : D) (r : Result T E) (P : List ℕ → Type 0)
      → IsCall g size pay Can old new r → size ≤ KEPT_BYTES → (IsSome (g.reads new) → IsSome (g.reads old)) → EachImage g new P → TimePasses g old new P
  time_call old new r P call little told each = search rules

  -- over no call
  pub time_none : (d : D) (P : List ℕ → Type 0) → TimePasses g d d P
  time_none d P = search rules

  -- what has P has Q
  pub time_weaker : {old new : D} {P Q : List ℕ → Type 0} → (IsSome (g.reads new) → (image : List ℕ) → P image → Q image)
      → TimePasses g old new P → TimePasses g old new Q
  time_weaker weaker a = search rules

  -- over two stretches
  pub time_then : {first second third : D} {P : List ℕ → Type 0} → TimePasses g first second P → TimePasses g second third P
      → TimePasses g first third P
  time_then {second = second} a b = search rules

  -- over a write, whatever it returns
  pub time_write : {T E : Type 0} (old new : D) (r : Result T E) (at : ℕ) (bytes : List ℕ) (P : List ℕ → Type 0)
      → WritesAt g at bytes old new r → length bytes ≤ KEPT_BYTES → EachImage g new P → TimePasses g old new P
  time_write old new r at bytes P writes little each =
      time_call old new r P writes.call little (writes_told g old new r at bytes writes) each

  -- over a call that writes nothing
  pub time_look : {T E : Type 0} {pay : Budget → Budget} (old new : D) (r : Result T E) → WritesNothing g pay old new r
      → TimePasses g old new (g.may_leave old)
  time_look old new r looks =
      time_call old new r (g.may_leave old) looks.call (omega arith)
      (λ told. subst (λ (o : Option (List ℕ)). IsSome o) looks.reads told) (λ told image left. looks.images image left)

  -- if no call was made, each image of this moment is one of now
  pub only_none : ((d : D) (image : List ℕ) → g.left_since d (g.clock d) image → g.may_leave d image ⊎ g.has_forgotten d (g.clock d))
      → ((d : D) → g.has_forgotten d (g.clock d) → COUNT_END ≤ g.clock d)
      → (d : D) (P : List ℕ → Type 0) → EachImage g d P → LeavesOnly g d d P
  only_none only_now now_is_known d P each = search (rules, time_none)

  -- what has P has Q, on a disk that reported what it read
  pub only_weaker : {old new : D} {P Q : List ℕ → Type 0} → (IsSome (g.reads old) → (image : List ℕ) → P image → Q image)
      → LeavesOnly g old new P → LeavesOnly g old new Q
  only_weaker weaker a = search (rules, time_weaker)

  -- over a stretch more
  pub only_then : {first second third : D} {P : List ℕ → Type 0} → LeavesOnly g first second P → TimePasses g second third P
      → EachImage g third P → LeavesOnly g first third P
  only_then {first = first} a b now = search (rules, time_then)

  -- over a write more, after which each image has P
  pub only_write : {T E : Type 0} {first old new : D} {P : List ℕ → Type 0} {r : Result T E} {at : ℕ} {bytes : List ℕ}
      → LeavesOnly g first old P → WritesAt g at bytes old new r → length bytes ≤ KEPT_BYTES → EachImage g new P → LeavesOnly g first new P
  only_write a writes little each = only_then a (time_write _ _ _ _ _ _ writes little each) each

  -- over a call more that writes nothing
  pub only_look : {T E : Type 0} {pay : Budget → Budget} {first old new : D} {P : List ℕ → Type 0} {r : Result T E}
      → LeavesOnly g first old P → WritesNothing g pay old new r → LeavesOnly g first new P
  only_look {old = old} {new = new} {P = P} {r = r} a looks =
      only_then a
      (time_weaker (λ told image left. a.now (subst (λ (o : Option (List ℕ)). IsSome o) looks.reads told) image left) (time_look old new r looks))
      (each_kept g old new P looks.reads looks.images a.now)

  -- over a stretch more in which nothing was written
  pub only_remains : {first old new : D} {P : List ℕ → Type 0} → LeavesOnly g first old P → Remains g old new → LeavesOnly g first new P
  only_remains {old = old} {new = new} {P = P} a same =
      only_then a
      (time_weaker (λ told image left. a.now (subst (λ (o : Option (List ℕ)). IsSome o) same.reads told) image left) same.time)
      (each_kept g old new P same.reads same.images a.now)
