-- How a play may end, and what then was read and written.
use Rattle.std.specs.Prelude.{◌≡◌, ℕ, ◌+◌, ◌≤◌, ◌==◌, Bool, IsTrue, List, [], ◌∷◌, ◌++◌, length, min, take, Option, Some, None, IsSomeAnd, codes}
use Rattle.std.specs.Io.KnownBytes.{Appends, Consumes}
use Rattle.std.proofs.Common.{lit<, lit≤}
use Rattle.pv_outside.specs.declared.failed.TheConstants.{COUNT_END}
use Rattle.pv_outside.specs.declared.limits.Limits.{Limits}
use Rattle.pv_outside.specs.declared.status.Status.{Status}
use Rattle.pv_outside.specs.declared.status.Status.TheVariants.{Done, Usage, BadLine, ReadFault, WriteFault, Memory, TooLong}
use Rattle.pv_words.specs.Lines.{lines_of}
use Rattle.pv_input.specs.Reading.{longest_text, IsReadWhole}
use Rattle.pv_account.specs.declared.account.TheConstants.{MAX_CENTRES}
use Rattle.pv_network.specs.Charging.{OwedLines}
use Rattle.pv_network.specs.OneList.{OneList}
use Rattle.pv_network.specs.Standing.{State, StandsFor}
use Rattle.pv_network.specs.World.{World, start}
use Rattle.pv_network.specs.Step.{Choice}
use Rattle.pv_script.specs.declared.grammar.Command.{Command}
use Rattle.pv_script.specs.Asking.{AskFor, AskNot}
use Rattle.pv_script.specs.Grammar.{ReadsLine, HasNoForm, answer_count}
use Rattle.pv_script.specs.Fates.{fates_in, fates_of}
use Rattle.pv_script.specs.Transcript.{AreRead, answers, world_after_all}

-- the words ask for a play of this many centres, which are one to four
abbrev pub AskToPlay : List (List ℕ) → ℕ → Type 0
AskToPlay words centres = AskFor (codes "play") MAX_CENTRES words centres

-- the words ask for no play
abbrev pub AskNoPlay : List (List ℕ) → Type 0
AskNoPlay words = AskNot (codes "play") MAX_CENTRES words

-- the limits of a play: 2,000 frames and 10,000 records
abbrev pub play_limits : Limits
play_limits = record { frames = 2000; records = 10000; frames_in_range = (lit< tt, lit≤ tt); records_in_range = (lit< tt, lit≤ tt) }

-- the world in which a play of this many centres begins, within these limits
abbrev pub first_world : ℕ → World
first_world centres = start centres play_limits

-- ---- what was run and written, of a play of this many centres that begins in this world

-- every one of the lines was read as a command and run, and what was written is the answers to them
pub record IsTranscript (centres : ℕ) (first : World) (lines : List (List ℕ)) (written_before written_now : Option (List ℕ)) : Type 0 where
  pub runs : List (Command × Choice)
  pub read : AreRead first centres 1 lines runs
  pub written : Appends written_before written_now (answers first runs)

-- each answer to the lines was one write: the count of the writes that succeeded rose by as many, up to its end
abbrev pub WritesEach : List (List ℕ) → ℕ → ℕ → Type 0
WritesEach lines before now = before ≤ COUNT_END → now ≡ min (before + answer_count lines) COUNT_END

-- Every line of the text was run: what was written is the answers. Its lines `kept` and `lost` are the fates of the cuts' records, so
-- that it says what was open in them. The network stands for the world after them, in which the law of the one list and the law of
-- charging hold.
pub record IsPlayed (centres : ℕ) (first : World) (text : List ℕ) (network : State) (written_before written_now : Option (List ℕ)) : Type 0 where
  pub transcript : IsTranscript centres first (lines_of text) written_before written_now
  pub fates : fates_in (answers first transcript.runs) ≡ fates_of first transcript.runs
  pub stands : StandsFor network (world_after_all first transcript.runs)
  pub one_list : OneList (world_after_all first transcript.runs)
  pub owed : OwedLines (world_after_all first transcript.runs)

-- the line of this number is the first of the text that is not a valid command: those before it were run, and what was
-- written is their answers
pub record StopsAtBadLine (centres : ℕ) (first : World) (text : List ℕ) (number : ℕ) (written_before written_now : Option (List ℕ)) : Type 0 where
  pub run : List (List ℕ)
  pub bad : List ℕ
  pub later : List (List ℕ)
  pub lines : lines_of text ≡ run ++ bad ∷ later
  pub place : length run + 1 ≡ number
  pub none : HasNoForm centres (number == 1) bad
  pub transcript : IsTranscript centres first run written_before written_now

-- the first lines were read, and what was written is a prefix of their answers
pub record StopsInAnswers (centres : ℕ) (first : World) (text : List ℕ) (written_before written_now : Option (List ℕ)) : Type 0 where
  pub run : List (List ℕ)
  pub later : List (List ℕ)
  pub runs : List (Command × Choice)
  pub lines : lines_of text ≡ run ++ later
  pub read : AreRead first centres 1 run runs
  pub count : ℕ
  pub written : Appends written_before written_now (take count (answers first runs))

-- the first lines were run, and what was written is their answers
pub record StopsAfterLine (centres : ℕ) (first : World) (text : List ℕ) (written_before written_now : Option (List ℕ)) : Type 0 where
  pub run : List (List ℕ)
  pub later : List (List ℕ)
  pub lines : lines_of text ≡ run ++ later
  pub transcript : IsTranscript centres first run written_before written_now

-- ---- all

-- What a play made of the text that it read, by the status that it ended with. Done says that the whole text was run. A bad
-- line is the first that is not a valid command. A fault of the output leaves a prefix of the answers. If memory ran out, the
-- first lines were run. A text is too long exactly if it has one byte more than a script may have.
abbrev pub IsPlayOf : ℕ → World → List ℕ → Option State → Option (List ℕ) → Bool → Option (List ℕ) → Option (List ℕ) → Status → Type 0
IsPlayOf centres first text network left ended before now Done =
    IsReadWhole text left ended × IsSomeAnd network (λ n. IsPlayed centres first text n before now)
IsPlayOf centres first text network left ended before now Usage = ⊥
IsPlayOf centres first text network left ended before now (BadLine number) =
    IsReadWhole text left ended × StopsAtBadLine centres first text number before now
IsPlayOf centres first text network left ended before now ReadFault = length text ≤ longest_text
IsPlayOf centres first text network left ended before now WriteFault =
    IsReadWhole text left ended × StopsInAnswers centres first text before now
IsPlayOf centres first text network left ended before now Memory =
    (length text ≤ longest_text) × StopsAfterLine centres first text before now
IsPlayOf centres first text network left ended before now TooLong = length text ≡ longest_text + 1

-- ---- a script that is valid

-- each of the lines, of which the first has this number, is a valid command
abbrev pub AreCommands : ℕ → ℕ → List (List ℕ) → Type 0
AreCommands centres number [] = Unit {0}
AreCommands centres number (line ∷ lines) =
    ((command : Command) × ReadsLine centres (number == 1) line command) × AreCommands centres (number + 1) lines

-- the text is a script of a play of this many centres: it fits, and each of its lines is a valid command
pub record IsScript (centres : ℕ) (text : List ℕ) : Type 0 where
  pub within : length text ≤ longest_text
  pub lines : AreCommands centres 1 (lines_of text)

-- nothing was run
abbrev pub IsNotRun : Status → Type 0
IsNotRun Usage = Unit {0}
IsNotRun ReadFault = Unit {0}
IsNotRun TooLong = Unit {0}
IsNotRun _ = ⊥
