-- What a door in memory holds, and what one call of it does.
use Rattle.std.specs.Prelude.{ℕ, min, ◌+◌, ◌-◌, ◌==◌, Bool, ◌||◌, List, [], ◌∷◌, ◌++◌, length, Some}
use Rattle.pv_outside.specs.Line.{IsUnused}
use Rattle.pv_outside.specs.declared.failed.TheConstants.{COUNT_END}
use Rattle.pv_memory.specs.Faults.{Plan, fails_now, plan_after_call, plan_after_failure}
use Rattle.pv_memory.specs.declared.line.MemLine.{MemLine}

-- a door: the lines that are still to come in, those that were given back, how many are out, and which accepts fail
pub record DoorState : Type 0 where
  pub waiting : List MemLine
  pub finished : List MemLine
  pub out : ℕ
  pub plan : Plan

-- how many lines were given back
abbrev pub finished_of : DoorState → ℕ
finished_of d = min (length d.finished) COUNT_END

-- how many lines have come in: each is out, or was given back
abbrev pub accepted_of : DoorState → ℕ
accepted_of d = min (length d.finished + d.out) COUNT_END

-- nothing was read from the line or written to it, and it has not ended
abbrev pub IsNewLine : MemLine → Type 0
IsNewLine line = IsUnused (Some line.source.read) (Some line.sink.bytes) line.source.ended

-- the next accept fails: it is named to, or no line is left
abbrev pub is_shut : DoorState → Bool
is_shut d = fails_now d.plan || length d.waiting == 0

-- the door after an accept that returned its first line
abbrev pub door_after_accept : DoorState → List MemLine → DoorState
door_after_accept d [] = d
door_after_accept d (line ∷ rest) = record d { waiting = rest; out = d.out + 1; plan = plan_after_call d.plan }

-- the door after an accept that failed
abbrev pub door_after_failure : DoorState → DoorState
door_after_failure d = record d { plan = plan_after_failure d.plan }

-- the door once this line was given back
abbrev pub door_after_finish : MemLine → DoorState → DoorState
door_after_finish line d = record d { finished = d.finished ++ line ∷ []; out = d.out - 1 }
