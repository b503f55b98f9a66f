-- Worked examples, computed from the definitions: each constant at the last value that fits, and the next.
use Rattle.std.proofs.Common.{◌≡◌, [], ◌∷◌, true, false, refl}
use Rattle.pv_ports.specs.Session.{is_session_over}
use Rattle.pv_ports.specs.Typing.{text_in_line, ended_line}
use Rattle.pv_ports.specs.declared.port.TheConstants.{MAX_MARKS}
use Rattle.pv_ports.specs.declared.typing.TheConstants.{KEPT}

-- a call has up to 4,096 marks, and of a line 514 bytes are kept
pub sizes : (MAX_MARKS ≡ 4096) × (KEPT ≡ 514)
sizes = (refl, refl)

-- a session has up to 4,096 lines and 1,000,000 bytes
pub last-line-and-byte : is_session_over 4095 999999 ≡ false
last-line-and-byte = refl

pub line-too-many : is_session_over 4096 0 ≡ true
line-too-many = refl

pub byte-too-many : is_session_over 0 1000000 ≡ true
byte-too-many = refl

-- a line ends with a newline, and a return before that is no part of what it says
pub newline-ends : ended_line (65 ∷ []) ≡ 65 ∷ 10 ∷ []
newline-ends = refl

pub return-is-left-out : text_in_line (65 ∷ 13 ∷ []) ≡ 65 ∷ []
return-is-left-out = refl

pub one-return-is-left-out : text_in_line (13 ∷ 65 ∷ 13 ∷ 13 ∷ []) ≡ 13 ∷ 65 ∷ 13 ∷ []
one-return-is-left-out = refl

pub empty-line : text_in_line [] ≡ []
empty-line = refl
