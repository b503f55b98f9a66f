-- What the words `gen N` ask for, and how that may end.
use Rattle.std.specs.Prelude.{ℕ, List, Option, codes, take}
use Rattle.std.specs.Io.KnownBytes.{Appends}
use Rattle.pv_outside.specs.declared.status.Status.{Status}
use Rattle.pv_outside.specs.declared.status.Status.TheVariants.{Done, WriteFault}
use Rattle.pv_gen.specs.declared.writing.TheConstants.{LAST_NUMBER}
use Rattle.pv_gen.specs.Script.{script_of}
use Rattle.pv_script.specs.Asking.{AskFor, AskNot}

-- the words ask for the script of this number, which is 1 to 999
abbrev pub AskToGenerate : List (List ℕ) → ℕ → Type 0
AskToGenerate words number = AskFor (codes "gen") LAST_NUMBER words number

-- the words ask for no script
abbrev pub AskNoScript : List (List ℕ) → Type 0
AskNoScript words = AskNot (codes "gen") LAST_NUMBER words

-- What was written of a number's script, by the status that it ended with: all of it, or a prefix if the output failed. It ends
-- in no other way.
abbrev pub WritesScript : ℕ → Option (List ℕ) → Option (List ℕ) → Status → Type 0
WritesScript number before now Done = Appends before now (script_of number)
WritesScript number before now WriteFault = (count : ℕ) × Appends before now (take count (script_of number))
WritesScript number before now _ = ⊥
