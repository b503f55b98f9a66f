-- The lines that an editor types.
use Rattle.std.specs.Prelude.{ℕ, ◌-◌, ◌==◌, ◌&&◌, nat_lt, List, [], ◌∷◌, ◌++◌, length, take, slice_index, if◌then◌else◌}
use Rattle.pv_ports.specs.declared.typing.TheConstants.{NEWLINE, RETURN}

-- what a line says: without the return at its end, if it has one
abbrev pub text_in_line : List ℕ → List ℕ
text_in_line line =
    if nat_lt 0 (length line) && slice_index line (length line - 1) == RETURN then take (length line - 1) line else line

-- a line with its end
abbrev pub ended_line : List ℕ → List ℕ
ended_line line = line ++ NEWLINE ∷ []
