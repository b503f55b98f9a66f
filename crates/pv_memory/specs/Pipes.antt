-- What a pipe in memory holds, and what one call of it does.
use Rattle.std.specs.Prelude.{ℕ, List, [], ◌∷◌, ◌++◌, if◌then◌else◌}
use Rattle.circular_buffer.specs.Buffer.{keep_last}
use Rattle.pv_outside.specs.Counts.{one_more}
use Rattle.pv_memory.specs.Faults.{Plan, fails_now, plan_after_call}
use Rattle.pv_memory.specs.declared.pipe.TheConstants.{PIPE_PACKETS}

-- a pipe: its packets, oldest first, how many were given and taken, and which calls fail
pub record PipeState : Type 0 where
  pub packets : List (List ℕ)
  pub given : ℕ
  pub taken : ℕ
  pub plan : Plan

-- the pipe after a give: of the old packets and this one it keeps the last 64
abbrev pub pipe_after_give : List ℕ → PipeState → PipeState
pipe_after_give packet p = if fails_now p.plan then record p { plan = plan_after_call p.plan }
    else record p { packets = keep_last PIPE_PACKETS (p.packets ++ packet ∷ []); given = one_more p.given; plan = plan_after_call p.plan }

-- the pipe once its first packet was handed out, if it has one
abbrev pub pipe_without_first : PipeState → List (List ℕ) → PipeState
pipe_without_first p [] = p
pipe_without_first p (packet ∷ rest) = record p { packets = rest; taken = one_more p.taken }

-- the pipe after a take
abbrev pub pipe_after_take : PipeState → PipeState
pipe_after_take p = if fails_now p.plan then record p { plan = plan_after_call p.plan }
    else record (pipe_without_first p p.packets) { plan = plan_after_call p.plan }
