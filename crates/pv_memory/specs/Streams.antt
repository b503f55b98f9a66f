-- What a source and a sink in memory hold, and what one call of each does.
use Rattle.std.specs.Prelude.{ℕ, ◌+◌, ◌==◌, Bool, ◌||◌, ◌&&◌, nat_lt, List, ◌++◌, length, take, drop, if◌then◌else◌}
use Rattle.pv_outside.specs.Counts.{one_more}
use Rattle.pv_memory.specs.Faults.{Plan, fails_now, plan_after_call, plan_after_fault}

-- a source: the bytes read so far, those that are left, whether the end was met, and which calls fail
pub record SourceState : Type 0 where
  pub read : List ℕ
  pub left : List ℕ
  pub ended : Bool
  pub plan : Plan

-- the source after a read into this many bytes, of which it fills as many as are left
abbrev pub source_after_read : SourceState → ℕ → SourceState
source_after_read s n = if fails_now s.plan then record s { plan = plan_after_call s.plan }
    else record { read = s.read ++ take n s.left; left = drop n s.left; ended = s.ended || (length (take n s.left) == 0 && nat_lt 0 n); plan = plan_after_call s.plan }

-- a sink: the bytes written so far, how many it has room for in all, how many writes have succeeded, and which calls fail
pub record SinkState : Type 0 where
  pub bytes : List ℕ
  pub room : ℕ
  pub writes : ℕ
  pub plan : Plan

-- the bytes do not fit
abbrev pub is_past_room : SinkState → List ℕ → Bool
is_past_room s bytes = nat_lt s.room (length s.bytes + length bytes)

-- the sink after a write: a call that fails, or one past the room, writes nothing
abbrev pub sink_after_write : SinkState → List ℕ → SinkState
sink_after_write s bytes = if fails_now s.plan then record s { plan = plan_after_call s.plan }
    else (if is_past_room s bytes then record s { plan = plan_after_fault (plan_after_call s.plan) } else record s { bytes = s.bytes ++ bytes; writes = one_more s.writes; plan = plan_after_call s.plan })
