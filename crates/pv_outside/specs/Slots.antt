-- The slots in which jobs are run side by side.
use Rattle.std.specs.Prelude.{ℕ, ◌<◌, List, length, slice_index_or, Option, Some, None}
use Rattle.pv_outside.specs.declared.slots.Slot.{Slot}

-- a slot that had this job has a value that the job may return
abbrev pub RunsJob : {J T : Type 0} → (J → T → Type 0) → Option J → Option T → Type 0
RunsJob MayReturn (Some job) (Some value) = MayReturn job value
RunsJob MayReturn (Some job) None = ⊥
RunsJob MayReturn None value = Unit {0}

-- each slot has run its job
abbrev pub AllRun : {J T : Type 0} → (J → T → Type 0) → List (Slot J T) → List (Slot J T) → Type 0
AllRun {J} {T} MayReturn old new =
    (k : ℕ) (s : Slot J T) → k < length old → RunsJob MayReturn (slice_index_or old k s).job (slice_index_or new k s).done

-- a slot with a job that was not run
abbrev pub slot_of : {J T : Type 0} → J → Slot J T
slot_of job = record { job = Some job; done = None }
