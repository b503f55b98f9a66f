-- Why a part of a play ended before its end: reading the script, an answer, a line, all lines.
use Rattle.std.specs.Prelude.{◌≡◌, ℕ, ◌+◌, ◌≤◌, ◌==◌, Bool, List, [], length, take, Option}
use Rattle.std.specs.Io.KnownBytes.{Appends}
use Rattle.pv_outside.specs.Counts.{Rose}
use Rattle.pv_outside.specs.declared.status.Status.{Status}
use Rattle.pv_outside.specs.declared.status.Status.TheVariants as statuses
use Rattle.pv_network.specs.Standing.{State, StandsFor}
use Rattle.pv_network.specs.World.{World}
use Rattle.pv_network.specs.Step.{Choice}
use Rattle.pv_script.specs.declared.ends.AnswerEnd.{AnswerEnd}
use Rattle.pv_script.specs.declared.ends.AnswerEnd.TheVariants as answering
use Rattle.pv_script.specs.declared.ends.RunEnd.{RunEnd}
use Rattle.pv_script.specs.declared.ends.RunEnd.TheVariants.{BadLine, Unanswered}
use Rattle.pv_script.specs.declared.grammar.Command.{Command}
use Rattle.pv_script.specs.Grammar.{ReadsLine, HasNoForm, IsCommandChoice}
use Rattle.pv_script.specs.Transcript.{answer_to, world_after_command}
use Rattle.pv_script.specs.declared.tally.Tally.{Tally}
use Rattle.pv_script.specs.Play.{IsPlayed, StopsAtBadLine, StopsInAnswers, StopsAfterLine}
use Rattle.pv_script.specs.Fates.{HasFatesOf}
use Rattle.pv_script.specs.Tally.{outcomes_to, outcomes_of, tally_of, AddsOutcomes}

-- the status of a play whose lines were not all run
abbrev pub run_status : RunEnd → Status
run_status (BadLine number) = statuses.BadLine number
run_status (Unanswered answering.Fault) = statuses.WriteFault
run_status (Unanswered answering.Memory) = statuses.Memory

-- A command was run: for each world that the network stood for it stands for the next. The answer was written, and says the fate of a
-- record only if the command is a cut. What came of it was added to the tally.
abbrev pub GivesAnswer : Command → State → State → Option (List ℕ) → Option (List ℕ) → Tally → Tally → Type 0
GivesAnswer command old new before now from to = (w : World) → StandsFor old w → (choice : Choice) × IsCommandChoice w command choice
    × StandsFor new (world_after_command w command choice) × Appends before now (answer_to w command choice)
    × AddsOutcomes from to (outcomes_to w command choice) × HasFatesOf (answer_to w command choice) (outcomes_to w command choice)

-- a command was begun: for each world that the network stood for a prefix of the answer was written
abbrev pub HasBegun : Command → State → Option (List ℕ) → Option (List ℕ) → Type 0
HasBegun command old before now = (w : World) → StandsFor old w → (choice : Choice) × IsCommandChoice w command choice
    × (count : ℕ) × Appends before now (take count (answer_to w command choice))

-- why the answer to a command was not written
abbrev pub IsAnswerEnd : Command → State → Option (List ℕ) → Option (List ℕ) → ℕ → ℕ → AnswerEnd → Type 0
IsAnswerEnd command old before now faults_before faults_now answering.Fault = Rose faults_before faults_now × HasBegun command old before now
IsAnswerEnd command old before now faults_before faults_now answering.Memory = now ≡ before

-- a line was run: it reads as a command that was run
abbrev pub HasRun : ℕ → Bool → List ℕ → State → State → Option (List ℕ) → Option (List ℕ) → Tally → Tally → Type 0
HasRun centres first line old new before now from to =
    (command : Command) × ReadsLine centres first line command × GivesAnswer command old new before now from to

-- why a line was not run
abbrev pub IsLineEnd : ℕ → List ℕ → ℕ → State → Option (List ℕ) → Option (List ℕ) → ℕ → ℕ → RunEnd → Type 0
IsLineEnd centres line number old before now faults_before faults_now (BadLine bad) = (bad ≡ number) × HasNoForm centres (number == 1) line × (now ≡ before)
IsLineEnd centres line number old before now faults_before faults_now (Unanswered end) =
    (command : Command) × ReadsLine centres (number == 1) line command × IsAnswerEnd command old before now faults_before faults_now end

-- all lines of a text were run, and the tally is that of what came of them
pub record IsTallied (centres : ℕ) (first : World) (text : List ℕ) (network : State) (before now : Option (List ℕ)) (tally : Tally) : Type 0 where
  pub played : IsPlayed centres first text network before now
  pub counted : tally ≡ tally_of (outcomes_of first played.transcript.runs)

-- why a text's lines were not all run
abbrev pub IsRunEnd : ℕ → World → List ℕ → Option (List ℕ) → Option (List ℕ) → ℕ → ℕ → RunEnd → Type 0
IsRunEnd centres first text before now faults_before faults_now (BadLine number) = StopsAtBadLine centres first text number before now
IsRunEnd centres first text before now faults_before faults_now (Unanswered answering.Fault) =
    Rose faults_before faults_now × StopsInAnswers centres first text before now
IsRunEnd centres first text before now faults_before faults_now (Unanswered answering.Memory) = StopsAfterLine centres first text before now
