use Rattle.std.{proofs.Common.{◌≡◌, take}, specs.List.list_all}
use Rattle.pv_cells.specs.Notation.{is_plain}
use Rattle.pv_cells.proofs.writing.are_plain.Given as goal

-- the bytes so far are written as themselves, or another is found
abbrev pub invariant-loop-byte : goal.invariant-loop-byte
invariant-loop-byte l = l.plain ≡ list_all is_plain (take l.byte-index l.bytes)
