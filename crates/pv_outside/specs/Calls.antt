-- What every call of a disk does to what the disk reports.
use Rattle.std.specs.Prelude.{◌≡◌, ◌↔◌, ℕ, ◌+◌, ◌≤◌, List, length, Option, Result, OnOk, OnErr, IsOk, IsErr}
use Rattle.std.specs.Option.{option_map}
use Rattle.pv_outside.specs.Counts.{Rose}
use Rattle.pv_outside.specs.Disk.{Budget, text_after_write, Torn, Follows, NoMore, Turns, budget_after, Elapses, budget_after_write, CanCall, CanWrite, IsSpent, budget_with_fuse}
use Rattle.pv_outside.specs.Counts.{successes_after}
use Rattle.pv_outside.specs.declared.reports.Reports as reports

module _ {D : Type 0} (g : reports.Ghosts D) where
  -- A call that wrote `size` bytes, is paid for in this way, and passes if the budget allows it.
  pub record IsCall {T E : Type 0} (size : ℕ) (pay : Budget → Budget) (Can : Option Budget → Type 0)
      (old new : D) (result : Result T E) : Type 0 where
    pub clock : g.clock new ≡ successes_after result (g.clock old)
    pub time : Elapses (g.clock old) (g.clock new) (g.has_forgotten old) (g.has_forgotten new)
        (g.left_since old) (g.left_since new) (g.may_leave new) size
    pub budget : g.budget new ≡ budget_after result pay (g.budget old)
    pub passes : Can (g.budget old) → IsOk result
    -- a spent disk fails, and each failure is counted
    pub spent : IsSpent (g.budget old) → IsErr result
    pub counted : g.faults old ≤ g.faults new
    pub failed : IsErr result → Rose (g.faults old) (g.faults new)
    -- a call that succeeds has met no failure on its way, as that of a sync that was tried again
    pub steady : IsOk result → g.faults new ≡ g.faults old

  -- A call that writes nothing, and is paid for in this way: the disk reads as before, and a crash may leave no further image.
  pub record WritesNothing {T E : Type 0} (pay : Budget → Budget) (old new : D) (result : Result T E) : Type 0 where
    pub call : IsCall 0 pay CanCall old new result
    pub reads : g.reads new ≡ g.reads old
    pub images : NoMore (g.may_leave old) (g.may_leave new)

  -- A call that writes these bytes at this place.
  pub record WritesAt {T E : Type 0} (at : ℕ) (bytes : List ℕ) (old new : D) (result : Result T E) : Type 0 where
    pub call : IsCall (length bytes) budget_after_write (λ b. CanWrite b (at + length bytes)) old new result
    pub written : OnOk result (g.reads new ≡ option_map (text_after_write at bytes) (g.reads old))
    pub torn : OnErr result (Turns (Torn at (length bytes)) (g.reads old) (g.reads new))
    pub images : Follows (Torn at (length bytes)) (g.may_leave old) (g.may_leave new)

  -- This many further calls pass, and nothing else has changed.
  pub record IsFused (calls : ℕ) (old new : D) : Type 0 where
    pub left : g.budget new ≡ option_map (budget_with_fuse calls) (g.budget old)
    pub reads : g.reads new ≡ g.reads old
    pub images : (image : List ℕ) → g.may_leave new image ↔ g.may_leave old image
    pub clock : g.clock new ≡ g.clock old
    pub since : (t : ℕ) (image : List ℕ) → g.left_since new t image ↔ g.left_since old t image
    pub forgotten : (t : ℕ) → g.has_forgotten new t ↔ g.has_forgotten old t
    pub faults : g.faults new ≡ g.faults old
