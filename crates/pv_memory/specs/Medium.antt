-- What a disk in memory holds, which images a crash may leave of it, and what each call makes of it.
use Rattle.std.specs.Prelude.{◌≡◌, ◌⊎◌, ℕ, zero, suc, min, ◌+◌, ◌-◌, ◌*◌, ◌%◌, ◌<◌, ◌≤◌, Bool, true, false, not, ◌&&◌, nat_le, nat_lt, if◌then◌else◌, List, [], ◌∷◌, ◌++◌, length, map, take, slice_index, All, Option, Some, None}
use Rattle.std.specs.List.{list_any, range_with_len}
use Rattle.std.specs.Option.{option_map}
use Rattle.pv_outside.specs.Disk.{Budget, text_after_write}
use Rattle.pv_outside.specs.declared.failed.TheConstants.{COUNT_END}
use Rattle.pv_outside.specs.declared.disk.TheConstants.{KEPT_BYTES, KEPT_CALLS, MAX_UNSYNCED}
use Rattle.pv_memory.specs.Faults.{Plan, plan_after_call, plan_after_failure, fails_now}
use Rattle.pv_memory.specs.declared.past.Range.{Range}

-- all that a crash at one moment depends on: the bytes, the end at the last sync, and the ranges written since, oldest first
pub record Moment : Type 0 where
  pub text : List ℕ
  pub end : ℕ
  pub pending : List Range

-- A disk: its bytes; those that it had at the last sync; the ranges written since, oldest first; the moments before each of
-- the last calls, newest first; its room; how many further calls pass (none: no end); how many calls have succeeded; and
-- which fail.
pub record Medium : Type 0 where
  pub text : List ℕ
  pub synced : List ℕ
  pub pending : List Range
  pub past : List Moment
  pub room : ℕ
  pub left : Option ℕ
  pub clock : ℕ
  pub plan : Plan

-- whether the place lies in the range
abbrev pub is_within : Range → ℕ → Bool
is_within range place = nat_le range.at place && nat_lt place (range.at + range.size)

-- whether the place lies in one of the ranges that were written since the last sync
abbrev pub is_pending : List Range → ℕ → Bool
is_pending ranges place = list_any (λ range. is_within range place) ranges

-- what a crash of this disk now depends on
abbrev pub moment_of : Medium → Moment
moment_of m = record { text = m.text; end = length m.synced; pending = m.pending }

-- something was written since the last sync, and the image has each byte below the end at that sync that was not written
pub record IsTorn (m : Moment) (image : List ℕ) : Type 0 where
  pub written : 0 < length m.pending
  pub no_shorter : m.end ≤ length image
  pub kept : (place : ℕ) → place < m.end → is_pending m.pending place ≡ false → slice_index image place ≡ slice_index m.text place

-- a crash leaves the disk as it reads, or torn
abbrev pub IsImage : Moment → List ℕ → Type 0
IsImage m image = (image ≡ m.text) ⊎ IsTorn m image

-- the image is one that a crash might have left at one of these moments
abbrev pub LeftIn : List Moment → List ℕ → Type 0
LeftIn [] image = ⊥
LeftIn (m ∷ moments) image = IsImage m image ⊎ LeftIn moments image

-- the time lies further back than the moments that are known, or the clock is at its end
abbrev pub IsTooFarBack : Medium → ℕ → Type 0
IsTooFarBack m t = (COUNT_END ≤ m.clock) ⊎ (t + length m.past < m.clock)

-- the image is one that a crash might have left since this time
abbrev pub LeftSince : Medium → ℕ → List ℕ → Type 0
LeftSince m t image = IsTooFarBack m t ⊎ LeftIn (moment_of m ∷ take (m.clock - t) m.past) image

-- a disk of which no calls are named to fail reports how much it still takes
abbrev pub budget_of : Medium → Option Budget
budget_of m = reported m.plan.failing
  where
    reported : List ℕ → Option Budget
    reported [] = Some (record { room = m.room; left = m.left; unsynced = length m.pending })
    reported (n ∷ failing) = None

-- the byte that the image of this number has at this place, in a range that was written since the last sync
abbrev pub pattern : ℕ → ℕ → ℕ
pattern image place = (31 * image + 17 * place) % 256

-- the bytes of the image of this number: those at the last sync, those that the disk reads as, or these with a pattern
-- over each range that was written since
abbrev pub image_bytes : List ℕ → List ℕ → List Range → ℕ → List ℕ
image_bytes text synced pending zero = synced
image_bytes text synced pending (suc zero) = text
image_bytes text synced pending (suc (suc n)) =
    map (λ place. if is_pending pending place then pattern (n + 2) place else slice_index text place) (range_with_len 0 (length text))

-- the bytes that the image of this number of the disk has
abbrev pub image_of : Medium → ℕ → List ℕ
image_of m image = image_bytes m.text m.synced m.pending image

-- each range lies within a text of this length
abbrev pub IsEachWithin : List Range → ℕ → Type 0
IsEachWithin ranges n = All (λ range. range.at + range.size ≤ n) ranges

-- the text and the one from the last sync differ only in the ranges that were written since, and past the old end
pub record MatchesSync (text synced : List ℕ) (pending : List Range) : Type 0 where
  pub shorter : length synced ≤ length text
  pub within : IsEachWithin pending (length text)
  pub same : (place : ℕ) → place < length synced → is_pending pending place ≡ false → slice_index synced place ≡ slice_index text place
  pub settled : length pending ≡ 0 → length synced ≡ length text
  pub few : length pending ≤ MAX_UNSYNCED

-- what is known of the past after a call that wrote `size` bytes: the moments before the last calls, or none after a large write
abbrev pub past_after : ℕ → Medium → List Moment
past_after size m = if nat_lt KEPT_BYTES size then [] else take KEPT_CALLS (moment_of m ∷ m.past)

-- the disk once a call that succeeds was counted
abbrev pub disk_after_count : Medium → Medium
disk_after_count m = record m { left = option_map (λ n. n - 1) m.left; clock = min (m.clock + 1) COUNT_END; plan = plan_after_call m.plan }

-- the disk after a call that fails: the call and the fault are counted, and nothing else has changed
abbrev pub disk_after_failure : Medium → Medium
disk_after_failure m = record m { plan = plan_after_failure m.plan }

-- the disk after a call that reads its length or its bytes
abbrev pub disk_after_read : Medium → Medium
disk_after_read m = record (disk_after_count m) { past = past_after 0 m }

-- the disk after a write of these bytes at this place, which is pending now
abbrev pub disk_after_write : ℕ → List ℕ → Medium → Medium
disk_after_write at bytes m =
    let range : Range = record { at = at; size = length bytes } in
    record (disk_after_count m) { text = text_after_write at bytes m.text; pending = m.pending ++ range ∷ []; past = past_after (length bytes) m }

-- the disk after a sync: nothing is pending
abbrev pub disk_after_sync : Medium → Medium
disk_after_sync m = record (disk_after_read m) { synced = m.text; pending = [] }

-- a further call passes
abbrev pub left_passes : Option ℕ → Bool
left_passes None = true
left_passes (Some zero) = false
left_passes (Some (suc n)) = true

-- the next call passes: it is not named to fail, and a further one passes
abbrev pub can_pass : Medium → Bool
can_pass m = not (fails_now m.plan) && left_passes m.left

-- a write up to this end has room, and is not one more than a disk takes between two syncs
abbrev pub accepts_write : Medium → ℕ → Bool
accepts_write m end = nat_le end m.room && nat_lt (length m.pending) MAX_UNSYNCED
