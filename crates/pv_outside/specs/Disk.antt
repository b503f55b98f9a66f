-- What the calls of a disk do to what it reports, and what a crash may do to what was written.
use Rattle.std.specs.Prelude.{◌≡◌, ◌≢◌, ◌⊎◌, ℕ, ◌+◌, ◌-◌, ◌<◌, ◌≤◌, min, List, ◌++◌, length, take, drop, slice_index, Option, Some, None, IfSome, Result, Ok, Err}
use Rattle.std.specs.Option.{option_map}
use Rattle.pv_outside.specs.declared.failed.TheConstants.{COUNT_END}
use Rattle.pv_outside.specs.declared.disk.TheConstants.{KEPT_CALLS, KEPT_BYTES, MAX_UNSYNCED}

-- the text with these bytes at this place
abbrev pub text_after_write : ℕ → List ℕ → List ℕ → List ℕ
text_after_write at bytes text = take at text ++ bytes ++ drop (at + length bytes) text

-- What a crash may make of an image, once n bytes were written at this place. Each byte of the image outside that range is kept.
-- Within it and past the image's end there may be anything, and the new image may end anywhere past the old end.
pub record Torn (at n : ℕ) (old new : List ℕ) : Type 0 where
  pub no_shorter : length old ≤ length new
  pub outside : (i : ℕ) → i < length old → (i < at) ⊎ (at + n ≤ i) → slice_index new i ≡ slice_index old i

-- each image that a crash may leave now is one that it might have left before, after this step
abbrev pub Follows : (List ℕ → List ℕ → Type 0) → (List ℕ → Type 0) → (List ℕ → Type 0) → Type 0
Follows step before now = (image : List ℕ) → now image → (old : List ℕ) × before old × step old image

-- a crash may leave no image now that it might not have left before
abbrev pub NoMore : (List ℕ → Type 0) → (List ℕ → Type 0) → Type 0
NoMore before now = (image : List ℕ) → now image → before image

-- a disk that reported what it reads still does, and that is what it read before, after this step
abbrev pub Turns : (List ℕ → List ℕ → Type 0) → Option (List ℕ) → Option (List ℕ) → Type 0
Turns step (Some old) (Some new) = step old new
Turns step None None = Unit {0}
Turns step _ _ = ⊥

-- at least n calls have succeeded between these two readings of a clock, which no longer rises at its end
abbrev pub IsLaterBy : ℕ → ℕ → ℕ → Type 0
IsLaterBy n before now = min (before + n) COUNT_END ≤ now

-- Time goes on by one call, which wrote `size` bytes.
pub record Elapses (clock_before clock_now : ℕ) (forgot_before forgot_now : ℕ → Type 0)
    (since_before since_now : ℕ → List ℕ → Type 0) (may_leave_now : List ℕ → Type 0) (size : ℕ) : Type 0 where
  -- it never goes back
  pub later : clock_before ≤ clock_now
  -- a crash since t might have left what it might have left before, or what it may leave now
  pub nothing_else : (t : ℕ) (image : List ℕ) → t ≤ clock_before → since_now t image
      → since_before t image ⊎ (may_leave_now image ⊎ forgot_now t)
  -- what it might have left before still counts
  pub keeps : (t : ℕ) (image : List ℕ) → t ≤ clock_before → since_before t image → since_now t image
  -- a time that is forgotten stays so
  pub stays : (t : ℕ) → t ≤ clock_before → forgot_before t → forgot_now t
  -- a time is forgotten only once it lies too many calls back, or before a large write
  pub forgets : (t : ℕ) → t ≤ clock_before → forgot_now t
      → forgot_before t ⊎ (IsLaterBy (KEPT_CALLS + 1) t clock_now ⊎ (KEPT_BYTES < size))

-- how much a disk still takes: its room in bytes, how many further calls pass (none: there is no end to them), and how
-- many writes it has taken since its last sync
pub record Budget : Type 0 where
  pub room : ℕ
  pub left : Option ℕ
  pub unsynced : ℕ

-- after a call that wrote nothing
abbrev pub budget_after_call : Budget → Budget
budget_after_call b = record b { left = option_map (λ n. n - 1) b.left }

-- after a write
abbrev pub budget_after_write : Budget → Budget
budget_after_write b = record b { left = option_map (λ n. n - 1) b.left; unsynced = b.unsynced + 1 }

-- after a sync
abbrev pub budget_after_sync : Budget → Budget
budget_after_sync b = record b { left = option_map (λ n. n - 1) b.left; unsynced = 0 }

-- after a fuse of `calls` calls was set
abbrev pub budget_with_fuse : ℕ → Budget → Budget
budget_with_fuse calls b = record b { left = Some calls }

-- a call that succeeds is paid for, and one that fails is not
abbrev pub budget_after : {T E : Type 0} → Result T E → (Budget → Budget) → Option Budget → Option Budget
budget_after (Ok value) pay budget = option_map pay budget
budget_after (Err failure) pay budget = budget

-- the disk reports its budget, and a further call passes
abbrev pub CanCall : Option Budget → Type 0
CanCall (Some b) = b.left ≢ Some 0
CanCall None = ⊥

-- the disk reports its budget, and a write up to this end passes
abbrev pub CanWrite : Option Budget → ℕ → Type 0
CanWrite (Some b) end = (b.left ≢ Some 0) × (end ≤ b.room) × (b.unsynced < MAX_UNSYNCED)
CanWrite None end = ⊥

-- the disk reports its budget: it has at least this room, and at least n further calls pass
abbrev pub HasCalls : ℕ → ℕ → Option Budget → Type 0
HasCalls n room (Some b) = (room ≤ b.room) × IfSome b.left (λ left. n ≤ left)
HasCalls n room None = ⊥

-- the disk reports its budget: it has at least this room, and calls pass without end
abbrev pub IsEndless : ℕ → Option Budget → Type 0
IsEndless room (Some b) = (room ≤ b.room) × (b.left ≡ None)
IsEndless room None = ⊥

-- the disk reports its budget, and no further call passes
abbrev pub IsSpent : Option Budget → Type 0
IsSpent (Some b) = b.left ≡ Some 0
IsSpent None = ⊥
