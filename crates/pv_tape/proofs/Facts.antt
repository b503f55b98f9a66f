-- Worked examples of a tape's lines, computed from the definitions.
use Rattle.std.proofs.Common.{◌≡◌, true, false, None, codes, refl}
use Rattle.pv_tape.specs.Lines.{is_comment}
use Rattle.pv_tape.specs.Tape.{can_do}
use Rattle.pv_tape.specs.declared.head.TheConstants.{LAST_FIRST}
use Rattle.pv_tape.specs.declared.line.TapeLine.TheVariants.{Store}

-- a comment begins with a semicolon
pub a_comment : is_comment (codes "; 1a") ≡ true
a_comment = refl

pub no_comment : is_comment (codes "STORE") ≡ false
no_comment = refl

-- nothing is stored before a frame was begun
pub nothing_stored : can_do None Store ≡ false
nothing_stored = refl

-- the last number that a tape may begin with
pub last_first : LAST_FIRST ≡ 4_000_000_000
last_first = refl
