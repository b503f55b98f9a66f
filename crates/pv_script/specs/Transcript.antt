-- What is written for what came of a script's commands.
use Rattle.std.specs.Prelude.{ℕ, ◌+◌, ◌==◌, List, [], ◌∷◌, ◌++◌, length, Option, Some, None, codes, decimal}
use Rattle.pv_outside.specs.declared.limits.Limits.{Limits}
use Rattle.pv_cells.specs.Notation.{notation_of}
use Rattle.pv_screen.specs.Painting.{screen_bytes}
use Rattle.std.specs.List.{flat_map}
use Rattle.pv_session.specs.declared.step.Why.{Why}
use Rattle.pv_session.specs.declared.step.Why.TheVariants.{Finished, Refused, Spent}
use Rattle.pv_session.specs.declared.step.Why.TheVariants as why
use Rattle.pv_page.specs.Names.{name_text}
use Rattle.pv_network.specs.declared.outcome.BillLine.{BillLine}
use Rattle.pv_network.specs.declared.outcome.Turn.{Turn}
use Rattle.pv_network.specs.declared.outcome.Outcome.{Outcome}
use Rattle.pv_network.specs.declared.outcome.Outcome.TheVariants as outcomes
use Rattle.pv_network.specs.World.{World, start}
use Rattle.pv_network.specs.Step.{Choice, happens}
use Rattle.pv_script.specs.Grammar.{ReadsLine, IsCommandChoice}
use Rattle.pv_script.specs.declared.grammar.Command.{Command}
use Rattle.pv_script.specs.declared.grammar.Command.TheVariants.{Nothing, Do}
use Rattle.pv_script.specs.declared.grammar.Command.TheVariants as commands

-- the end of a line
abbrev pub newline : List ℕ
newline = 10 ∷ []

-- the line that says why a call ended, if it did
abbrev pub end_text : Option Why → List ℕ
end_text None = []
end_text (Some Finished) = codes "ended finished" ++ newline
end_text (Some Refused) = codes "ended refused" ++ newline
end_text (Some Spent) = codes "ended spent" ++ newline
end_text (Some why.Full) = codes "ended full" ++ newline

-- the index of an acknowledgement, or a dash if none was made
abbrev pub ack_text : Option ℕ → List ℕ
ack_text None = codes " ack -"
ack_text (Some index) = codes " ack " ++ decimal index

-- a screen, and why the call ended with it, if it did
abbrev pub turn_text : Turn → List ℕ
turn_text turn = codes "screen " ++ notation_of (screen_bytes turn.screen) ++ newline ++ end_text turn.ended

-- screens, one after another
abbrev pub turns_text : List Turn → List ℕ
turns_text turns = flat_map turn_text turns

-- a charge line: its centre and its parts
abbrev pub charge_text : BillLine → List ℕ
charge_text charge =
    codes "line " ++ decimal charge.centre
    ++ codes " " ++ decimal charge.line.serial
    ++ codes " " ++ decimal charge.line.number
    ++ codes " " ++ name_text charge.line.name
    ++ codes " " ++ decimal charge.line.price
    ++ codes " " ++ decimal charge.line.moment
    ++ newline

-- charge lines, one after another
abbrev pub charges_text : List BillLine → List ℕ
charges_text charges = flat_map charge_text charges

-- what is written for an outcome
abbrev pub answer_text : Outcome → List ℕ
answer_text (outcomes.Reply text) = text ++ newline
answer_text (outcomes.Shown turn) = turn_text turn
answer_text outcomes.Busy = codes "busy" ++ newline
answer_text outcomes.Quiet = codes "quiet" ++ newline
answer_text outcomes.Owes = codes "owes" ++ newline
answer_text outcomes.Owing = codes "owing" ++ newline
answer_text outcomes.NoCall = codes "no call" ++ newline
answer_text outcomes.Nothing = codes "nothing" ++ newline
answer_text outcomes.Hung = codes "hung" ++ newline
answer_text outcomes.Stored = codes "stored" ++ newline
answer_text (outcomes.StoreFull count screen) =
    (codes "full " ++ decimal count ++ newline) ++ turn_text (record { screen = screen; ended = Some why.Full })
answer_text (outcomes.Turns turns) = turns_text turns
answer_text outcomes.Idle = codes "idle" ++ newline
answer_text outcomes.PacketsFull = codes "packets full" ++ newline
answer_text outcomes.NoPacket = codes "no packet" ++ newline
answer_text (outcomes.SentRecord index number) = codes "sent " ++ decimal index ++ codes " record " ++ decimal number ++ newline
answer_text (outcomes.SentItem index number) = codes "sent " ++ decimal index ++ codes " item " ++ decimal number ++ newline
answer_text (outcomes.Taken number ack) = codes "taken " ++ decimal number ++ ack_text ack ++ newline
answer_text (outcomes.Old number ack) = codes "old " ++ decimal number ++ ack_text ack ++ newline
answer_text (outcomes.Early number ack) = codes "early " ++ decimal number ++ ack_text ack ++ newline
answer_text (outcomes.Heard number) = codes "heard " ++ decimal number ++ newline
answer_text (outcomes.Full count) = codes "full " ++ decimal count ++ newline
answer_text (outcomes.Carried records items) = codes "carried " ++ decimal records ++ codes " " ++ decimal items ++ newline
answer_text (outcomes.Crashed count) = codes "crashed " ++ decimal count ++ newline
answer_text outcomes.Kept = codes "kept" ++ newline
answer_text outcomes.Lost = codes "lost" ++ newline
answer_text outcomes.NotStored = codes "none" ++ newline
answer_text (outcomes.Clock moment) = codes "clock " ++ decimal moment ++ newline
answer_text outcomes.NotHeld = codes "-" ++ newline
answer_text (outcomes.Applied count) = codes "applied " ++ decimal count ++ newline
answer_text (outcomes.Records count) = codes "records " ++ decimal count ++ newline
answer_text (outcomes.Bill lines pence) = charges_text lines ++ (codes "sum " ++ decimal pence ++ newline)

-- what is written for limits
abbrev pub limits_text : Limits → List ℕ
limits_text limits = codes "limits " ++ decimal limits.frames ++ codes " " ++ decimal limits.records ++ newline

-- ---- commands, one after another; beside each stands what was open in it

-- the world after a command: limits begin the play again, before anything has happened
abbrev pub world_after_command : World → Command → Choice → World
world_after_command w Nothing choice = w
world_after_command w (commands.Limits limits) choice = start (length w.centres) limits
world_after_command w (Do event) choice = (happens w event choice).0

-- what is written for a command
abbrev pub answer_to : World → Command → Choice → List ℕ
answer_to w Nothing choice = []
answer_to w (commands.Limits limits) choice = limits_text limits
answer_to w (Do event) choice = answer_text (happens w event choice).1

-- the world after commands
abbrev pub world_after_all : World → List (Command × Choice) → World
world_after_all w [] = w
world_after_all w (run ∷ runs) = world_after_all (world_after_command w run.0 run.1) runs

-- what is written for commands
abbrev pub answers : World → List (Command × Choice) → List ℕ
answers w [] = []
answers w (run ∷ runs) = answer_to w run.0 run.1 ++ answers (world_after_command w run.0 run.1) runs

-- The lines, of which the first has this number, read as the commands that were run in this world, one for each; beside a
-- command stands what was open in it. A script's lines are counted from 1.
abbrev pub AreRead : World → ℕ → ℕ → List (List ℕ) → List (Command × Choice) → Type 0
AreRead w centres number [] [] = Unit {0}
AreRead w centres number (line ∷ lines) (run ∷ runs) =
    ReadsLine centres (number == 1) line run.0 × IsCommandChoice w run.0 run.1
    × AreRead (world_after_command w run.0 run.1) centres (number + 1) lines runs
AreRead w centres number _ _ = ⊥
