-- Which calls of an object in memory fail, and how often one has.
use Rattle.std.specs.Prelude.{ℕ, ◌==◌, Bool, List, if◌then◌else◌}
use Rattle.std.specs.List.{list_any}
use Rattle.pv_outside.specs.Counts.{one_more}

-- the number of the next call, the numbers of the calls that fail, and how many have failed
pub record Plan : Type 0 where
  pub call : ℕ
  pub failing : List ℕ
  pub faults : ℕ

-- whether the next call fails
abbrev pub fails_now : Plan → Bool
fails_now plan = list_any (λ n. n == plan.call) plan.failing

-- the plan once the next call was made
abbrev pub plan_after_call : Plan → Plan
plan_after_call plan = record { call = one_more plan.call; failing = plan.failing; faults = if fails_now plan then one_more plan.faults else plan.faults }

-- the plan once a fault of another kind was met
abbrev pub plan_after_fault : Plan → Plan
plan_after_fault plan = record plan { faults = one_more plan.faults }

-- the plan once a call was made that failed, named or not: each count has risen by one
abbrev pub plan_after_failure : Plan → Plan
plan_after_failure plan = record { call = one_more plan.call; failing = plan.failing; faults = one_more plan.faults }
