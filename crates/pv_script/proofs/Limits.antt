-- Limits are known by their numbers.
use Rattle.std.proofs.Common.{◌≡◌, ℕ, ◌<◌, ◌≤◌, subst}
use Rattle.std.proofs.Math.Bridge.{le_prop}
use Rattle.pv_outside.specs.declared.limits.Limits.{Limits}
use Rattle.pv_outside.specs.declared.limits.TheConstants.{MAX_FRAMES, MAX_RECORDS}

-- a number is one of frames, or of records
abbrev IsFrames : ℕ → Type 0
IsFrames n = (0 < n) × (n ≤ MAX_FRAMES)

abbrev IsRecords : ℕ → Type 0
IsRecords n = (0 < n) × (n ≤ MAX_RECORDS)

-- the limits of two numbers
abbrev limits : (frames records : ℕ) → IsFrames frames → IsRecords records → Limits
limits frames records f r = record { frames = frames; records = records; frames_in_range = f; records_in_range = r }

-- limits of the same numbers are the same, however it is shown that these are in their range
pub same_limits : (frames records : ℕ) (f g : IsFrames frames) (r s : IsRecords records)
    → limits frames records f r ≡ limits frames records g s
same_limits frames records f g r s =
    λ i. limits frames records (le_prop f.0 g.0 i, le_prop f.1 g.1 i) (le_prop r.0 s.0 i, le_prop r.1 s.1 i)

-- limits that have two numbers are those of these numbers
pub limits_of_numbers : (l : Limits) (frames records : ℕ) (f : IsFrames frames) (r : IsRecords records)
    → l.frames ≡ frames → l.records ≡ records → l ≡ limits frames records f r
limits_of_numbers l frames records f r is_frames is_records =
    let own : (f : IsFrames l.frames) (r : IsRecords l.records) → l ≡ limits l.frames l.records f r = λ f r.
    same_limits l.frames l.records l.frames_in_range f l.records_in_range r in
    let next : (f : IsFrames frames) (r : IsRecords l.records) → l ≡ limits frames l.records f r =
    subst (λ (n : ℕ). (f : IsFrames n) (r : IsRecords l.records) → l ≡ limits n l.records f r) is_frames own in
    subst (λ (n : ℕ). (f : IsFrames frames) (r : IsRecords n) → l ≡ limits frames n f r) is_records next f r
