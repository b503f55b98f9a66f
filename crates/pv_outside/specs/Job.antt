-- What jobs return that are run side by side.
use Rattle.std.specs.Prelude.{◌≡◌, ℕ, ◌<◌, List, ◌++◌, length, slice_index_or}

-- There are as many values as jobs, and each is one that the job at its index may return.
pub record EachMayReturn {J T : Type 0} (MayReturn : J → T → Type 0) (jobs : List J) (values : List T) : Type 0 where
  pub count : length values ≡ length jobs
  pub each : (k : ℕ) (j : J) (v : T) → k < length jobs → MayReturn (slice_index_or jobs k j) (slice_index_or values k v)

-- the first jobs were run and returned these values, and the rest were not
abbrev pub IsPartRun : {J T : Type 0} → (J → T → Type 0) → List J → List T → List J → Type 0
IsPartRun {J} MayReturn jobs done rest = (run : List J) × (jobs ≡ run ++ rest) × EachMayReturn MayReturn run done
