-- What the words `evening N` ask for, and how that may end.
use Rattle.std.specs.Prelude.{◌≡◌, ℕ, ◌++◌, List, length, take, Option, IsSomeAnd, codes, decimal}
use Rattle.std.specs.Io.KnownBytes.{Appends}
use Rattle.pv_outside.specs.declared.status.Status.{Status}
use Rattle.pv_outside.specs.declared.status.Status.TheVariants.{Done, WriteFault, Memory}
use Rattle.pv_gen.specs.declared.writing.TheConstants.{LAST_NUMBER}
use Rattle.pv_gen.specs.Script.{script_lines}
use Rattle.pv_network.specs.Standing.{State, StandsFor}
use Rattle.pv_network.specs.Step.{Choice}
use Rattle.pv_network.specs.World.{World}
use Rattle.pv_script.specs.declared.grammar.Command.{Command}
use Rattle.pv_script.specs.declared.tally.Tally.{Tally}
use Rattle.pv_script.specs.Asking.{AskFor, AskNot}
use Rattle.pv_script.specs.Play.{first_world}
use Rattle.pv_script.specs.Tally.{outcomes_of, tally_of}
use Rattle.pv_script.specs.Transcript.{AreRead, newline, world_after_all}

-- the words ask for the evening of this number, which is 1 to 999
abbrev pub AskForEvening : List (List ℕ) → ℕ → Type 0
AskForEvening words number = AskFor (codes "evening") LAST_NUMBER words number

-- the words ask for no evening
abbrev pub AskNoEvening : List (List ℕ) → Type 0
AskNoEvening words = AskNot (codes "evening") LAST_NUMBER words

-- ---- the summary

-- how many records the Update Centre has, and what the outcomes add up to, in one line
abbrev pub summary_text : ℕ → Tally → List ℕ
summary_text records tally =
    codes "records " ++ decimal records
    ++ codes " screens " ++ decimal tally.screens
    ++ codes " lines " ++ decimal tally.lines
    ++ codes " pence " ++ decimal tally.pence
    ++ newline

-- the lines of the number's script were read as these commands, which were run on one centre
abbrev pub IsEvening : ℕ → List (Command × Choice) → Type 0
IsEvening number runs = AreRead (first_world 1) 1 1 (script_lines number) runs

-- the world after an evening
abbrev pub world_after_evening : List (Command × Choice) → World
world_after_evening runs = world_after_all (first_world 1) runs

-- its summary: the records of the Update Centre at the end, and the tally of all that came of it
abbrev pub summary_of : List (Command × Choice) → List ℕ
summary_of runs = summary_text (length (world_after_evening runs).update.records) (tally_of (outcomes_of (first_world 1) runs))

-- ---- how it may end

-- What was made of the evening of a number, by the status that it ended with. Done says that the summary was written, and that
-- the network stands for the world after the evening. A fault of the output leaves a prefix of the summary. If memory ran out,
-- nothing was written. It ends in no other way.
abbrev pub IsEveningOf : ℕ → Option State → Option (List ℕ) → Option (List ℕ) → Status → Type 0
IsEveningOf number network before now Done =
    (runs : List (Command × Choice)) × IsEvening number runs × Appends before now (summary_of runs)
    × IsSomeAnd network (λ n. StandsFor n (world_after_evening runs))
IsEveningOf number network before now WriteFault =
    (runs : List (Command × Choice)) × IsEvening number runs × (count : ℕ) × Appends before now (take count (summary_of runs))
IsEveningOf number network before now Memory = now ≡ before
IsEveningOf number network before now _ = ⊥
