use Rattle.std.proofs.Common.{◌≡◌, ◌+◌, length, take}
use Rattle.pv_cells.specs.Notation.{notation_of}
use Rattle.pv_cells.proofs.writing.fits.Given as goal

-- what is left of the room is what the notation so far leaves of it
abbrev pub invariant-loop-byte : goal.invariant-loop-byte
invariant-loop-byte l = length (notation_of (take l.byte-index l.bytes)) + l.left ≡ l.room
