use Rattle.std.specs.Prelude.{All}
use Rattle.pv_memory.specs.Doors.{IsNewLine}
use Rattle.pv_serve_tests.proofs.parts.door_of.Given as goal

-- the lines that were made are new
abbrev pub invariant-loop-bytes : goal.invariant-loop-bytes
invariant-loop-bytes l = All IsNewLine l.coming.items
