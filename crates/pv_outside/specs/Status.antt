-- The number that a process ends with, and the message that it prints then.
use Rattle.std.specs.Prelude.{ℕ, List, ◌++◌, codes, decimal}
use Rattle.pv_outside.specs.declared.status.Status.{Status}
use Rattle.pv_outside.specs.declared.status.Status.TheVariants.{Done, Usage, BadLine, ReadFault, WriteFault, Memory, TooLong}

-- the exit status of each end
abbrev pub number_of : Status → ℕ
number_of Done = 0
number_of Usage = 2
number_of (BadLine line) = 3
number_of ReadFault = 4
number_of WriteFault = 5
number_of Memory = 6
number_of TooLong = 7

-- the message of each end
abbrev pub words_of : Status → List ℕ
words_of Done = codes "done"
words_of Usage = codes "usage: prestel play N < SCRIPT"
words_of (BadLine line) = codes "line " ++ decimal line ++ codes ": not a valid command"
words_of ReadFault = codes "the input could not be read"
words_of WriteFault = codes "the output could not be written"
words_of Memory = codes "out of memory"
words_of TooLong = codes "the script is longer than 1048576 bytes"
