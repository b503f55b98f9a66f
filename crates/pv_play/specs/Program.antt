-- How a run of the whole program may end, and what then has gone to the writer after its buffer.
use Rattle.std.specs.Prelude.{◌≡◌, ℕ, ◌+◌, ◌≤◌, ◌⊎◌, Bool, List, [], length, take, Option}
use Rattle.std.specs.Io.KnownBytes.{Appends}
use Rattle.pv_outside.specs.Counts.{Rose}
use Rattle.pv_outside.specs.declared.status.Status.{Status}
use Rattle.pv_outside.specs.declared.status.Status.TheVariants.{Done, Usage, BadLine, ReadFault, WriteFault, Memory, TooLong}
use Rattle.pv_network.specs.Standing.{State}
use Rattle.pv_network.specs.World.{World}
use Rattle.pv_files.specs.declared.standard.StandardOutput.{StandardOutput}
use Rattle.pv_files.specs.Output.{written_bytes, flushed_bytes, buffered_bytes}
use Rattle.pv_network.specs.Step.{Choice}
use Rattle.pv_script.specs.declared.grammar.Command.{Command}
use Rattle.pv_script.specs.Evening.{IsEvening, summary_of}
use Rattle.pv_input.specs.Reading.{longest_text, IsReadWhole}
use Rattle.pv_script.specs.Play.{IsPlayed, StopsAtBadLine, StopsInAnswers, StopsAfterLine}

-- How it may end that a text of the program is written: the writer itself has the whole of it, and nothing is in the buffer, or
-- the output failed after a prefix of it.
abbrev pub WritesText : {W : Type 0} → (W → Option (List ℕ)) → List ℕ → StandardOutput W → StandardOutput W → Status → Type 0
WritesText contents text before now Done = Appends (written_bytes contents before) (flushed_bytes contents now) text × (buffered_bytes now ≡ [])
WritesText contents text before now WriteFault = (count : ℕ) × Appends (written_bytes contents before) (written_bytes contents now) (take count text)
WritesText contents text before now _ = ⊥

-- How it may end that the evening of a number is played: its summary is written as any text of the program is, or memory ran out,
-- and nothing was written.
abbrev pub WritesSummary : {W : Type 0} → (W → Option (List ℕ)) → ℕ → StandardOutput W → StandardOutput W → Status → Type 0
WritesSummary contents number before now Memory = written_bytes contents now ≡ written_bytes contents before
WritesSummary contents number before now status =
    (runs : List (Command × Choice)) × IsEvening number runs × WritesText contents (summary_of runs) before now status

-- What a run made of the text that it read, by the status that it ended with. Done says that the writer itself has the whole
-- transcript. Its lines `kept` and `lost` are the fates of the cuts' records. In the world after all lines the law of the one
-- list and the law of charging hold. A bad line says that it has all answers of the lines before. Nothing is in the buffer then,
-- as at Done. A fault of the output leaves a prefix of the answers, perhaps in part in the buffer. If memory ran out, the first
-- lines were run, and their answers have gone to the writer unless it failed.
abbrev pub IsRunOf : {W : Type 0} → (W → Option (List ℕ)) → ℕ → World → List ℕ → Option (List ℕ) → Bool → StandardOutput W → StandardOutput W → Status → Type 0
IsRunOf contents centres first text left ended before now Done = IsReadWhole text left ended
    × ((network : State) × IsPlayed centres first text network (written_bytes contents before) (flushed_bytes contents now))
    × (buffered_bytes now ≡ [])
IsRunOf contents centres first text left ended before now Usage = ⊥
IsRunOf contents centres first text left ended before now (BadLine number) = IsReadWhole text left ended
    × StopsAtBadLine centres first text number (written_bytes contents before) (flushed_bytes contents now) × (buffered_bytes now ≡ [])
IsRunOf contents centres first text left ended before now ReadFault = length text ≤ longest_text
IsRunOf contents centres first text left ended before now WriteFault = IsReadWhole text left ended
    × StopsInAnswers centres first text (written_bytes contents before) (written_bytes contents now)
IsRunOf contents centres first text left ended before now Memory = (length text ≤ longest_text)
    × StopsAfterLine centres first text (written_bytes contents before) (written_bytes contents now)
    × ((buffered_bytes now ≡ []) ⊎ Rose before.faults now.faults)
IsRunOf contents centres first text left ended before now TooLong = length text ≡ longest_text + 1
