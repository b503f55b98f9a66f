-- What the definitions are, computed.
use Rattle.std.proofs.Common.{◌≡◌, ◌*◌, refl}
use Rattle.pv_input.specs.Reading.{longest_text}
use Rattle.pv_input.specs.declared.text.TheConstants.{LONGEST_TEXT}

-- a text may have a mebibyte
pub mebibyte : longest_text ≡ 1024 * 1024
mebibyte = refl

-- and that is the constant of the code
pub longest : LONGEST_TEXT ≡ longest_text
longest = refl
