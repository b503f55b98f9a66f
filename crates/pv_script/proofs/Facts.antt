-- Worked examples of scripts and transcripts, computed from the definitions.
use Rattle.std.proofs.Common.{lit≤, ◌≡◌, [], ◌∷◌, ◌*◌, true, Some, None, codes, refl}
use Rattle.std.specs.Fmt.{digits}
use Rattle.pv_network.specs.declared.event.Event.TheVariants.{Send, Deliver}
use Rattle.pv_account.specs.declared.account.TheConstants.{MAX_CENTRES}
use Rattle.pv_network.specs.declared.outcome.BillLine.{BillLine}
use Rattle.pv_network.specs.declared.outcome.Outcome.TheVariants.{Turns, SentRecord, SentItem, Taken, Old, Carried, Kept, Lost, NotStored, Clock, NotHeld, Applied, Records, Bill}
use Rattle.pv_network.specs.declared.outcome.Outcome.TheVariants.{Shown, Quiet}
use Rattle.pv_network.specs.declared.outcome.Turn.{Turn}
use Rattle.pv_screen.specs.Grid.{blank_grid}
use Rattle.pv_screen.specs.declared.screen.Screen.TheVariants.{Whole}
use Rattle.pv_gen.specs.declared.writing.TheConstants.{LAST_NUMBER}
use Rattle.pv_script.specs.declared.grammar.Command.TheVariants.{Nothing, Do}
use Rattle.pv_script.specs.declared.grammar.TheConstants.{COMMENT, MAX_CALLS}
use Rattle.pv_script.specs.declared.word.CallWord.TheVariants as calling
use Rattle.pv_script.specs.declared.readers.TheConstants.{LAST_IMAGE}
use Rattle.pv_script.specs.declared.word.StoringWord.TheVariants as storing
use Rattle.pv_script.specs.declared.word.Word.TheVariants as words
use Rattle.pv_script.specs.Evening.{AskForEvening, summary_text}
use Rattle.pv_script.specs.Tally.{outcomes_of, tally_of}
use Rattle.pv_script.specs.Play.{AskToPlay, first_world, play_limits}
use Rattle.pv_network.specs.Step.{Choice}
use Rattle.pv_session.specs.declared.step.Why.TheVariants.{Finished}
use Rattle.pv_script.specs.Readers.{IsKeyText}
use Rattle.pv_script.specs.Transcript.{answer_text, answers, end_text, limits_text}
use Rattle.pv_script.specs.Words.{word_of_text, storing_word_of_text}

-- ---- scripts

-- a comment begins with a semicolon
pub comment : COMMENT ∷ [] ≡ codes ";"
comment = refl

-- a word is one of the script's as it stands, and with a letter more it is none
pub names_of_words : (word_of_text (codes "deliver") ≡ Some words.Deliver) × (word_of_text (codes "keys") ≡ Some (words.Call calling.Keys))
    × (word_of_text (codes "views") ≡ None)
names_of_words = (refl, refl, refl)

-- a cut is within the store of a record: within a delivery, and within no crash
pub names_within_a_cut : (storing_word_of_text (codes "deliver") ≡ Some storing.Deliver) × (storing_word_of_text (codes "crash") ≡ None)
names_within_a_cut = (refl, refl)

-- it comes after four calls of the disk at most, and an image has a number up to 255
pub within_a_cut : (MAX_CALLS ≡ 4) × (LAST_IMAGE ≡ 255)
within_a_cut = (refl, refl)

-- a key is one byte in notation: a space, or 255
pub keys : IsKeyText 32 (codes " ") × IsKeyText 255 (codes "\\fF")
keys = (([], refl, refl), ([], refl, refl))

-- the words write how many centres there are, of which there are four at most
pub words_of_a_play : AskToPlay (codes "play" ∷ codes "4" ∷ []) 4 × (MAX_CENTRES ≡ 4)
unfolding digits
words_of_a_play = (record { some = lit≤ tt; few = lit≤ tt; asked = refl }, refl)

-- ---- transcripts

-- The packet's number comes before the record's. A record that was taken has its acknowledgement beside it.
-- A dash stands for one that could not be made, and for a frame that a centre does not have.
pub lines : (answer_text (SentRecord 3 17) ≡ codes "sent 3 record 17\n")
    × (answer_text (Taken 17 (Some 4)) ≡ codes "taken 17 ack 4\n")
    × (answer_text (Old 17 None) ≡ codes "old 17 ack -\n")
    × (answer_text (SentItem 3 17) ≡ codes "sent 3 item 17\n")
    × (answer_text (Clock 315532800) ≡ codes "clock 315532800\n")
    × (answer_text Kept ≡ codes "kept\n")
    × (answer_text Lost ≡ codes "lost\n")
    × (answer_text NotStored ≡ codes "none\n")
    × (answer_text NotHeld ≡ codes "-\n")
    × (answer_text (Carried 3 0) ≡ codes "carried 3 0\n")
    × (answer_text (Applied 2) ≡ codes "applied 2\n")
    × (answer_text (Records 3) ≡ codes "records 3\n")
unfolding digits
lines = (refl, refl, refl, refl, refl, refl, refl, refl, refl, refl, refl, refl)

-- a charge of 9 pence
abbrev charge : BillLine
charge = record {
  centre = 1;
  line = record {
    serial = 2;
    number = 0;
    account = 1000000001;
    name = record { page = 20; letter = 97 };
    price = 9;
    moment = 315532800;
  };
}

-- a bill: a line for each charge, and the sum
pub bill : answer_text (Bill (charge ∷ []) 9) ≡ codes "line 1 2 0 20a 9 315532800\nsum 9\n"
unfolding digits
bill = refl

-- the line after a call's last screen says why it ended, and nothing is written of keys that showed nothing
pub ends : (end_text (Some Finished) ≡ codes "ended finished\n") × (end_text None ≡ []) × (answer_text (Turns []) ≡ [])
ends = (refl, refl, refl)

-- the limits of a play are answered with their numbers
pub limits : limits_text play_limits ≡ codes "limits 2000 10000\n"
unfolding digits
limits = refl

-- nothing is open in a command
abbrev any : Choice
any = record { kept = true; said = None; keyed = [] }

-- on a new network nothing is there to send or to deliver, and a comment has no answer
pub new_network : answers (first_world 1) ((Do (Send 0), any) ∷ (Nothing, any) ∷ (Do (Deliver 0 0), any) ∷ []) ≡ codes "idle\nno packet\n"
new_network = refl

-- ---- evenings

-- the words write the number of an evening, of which 999 is the last
pub words_of_an_evening : AskForEvening (codes "evening" ∷ codes "999" ∷ []) 999 × (LAST_NUMBER ≡ 999)
unfolding digits
words_of_an_evening = (record { some = lit≤ tt; few = lit≤ tt; asked = refl }, refl)

-- a screen that is shown, whatever it is
abbrev shown : Turn
shown = record { screen = Whole blank_grid; ended = None }

-- what is shown and billed is counted, and nothing else
pub tally : tally_of (Shown shown ∷ Quiet ∷ Turns (shown ∷ shown ∷ []) ∷ Bill (charge ∷ charge ∷ []) 18 ∷ Records 4 ∷ [])
    ≡ record { screens = 3; lines = 2; pence = 18 }
tally = refl

-- the summary names each number
pub summary : summary_text 4 (record { screens = 5; lines = 2; pence = 16 }) ≡ codes "records 4 screens 5 lines 2 pence 16\n"
unfolding digits
summary = refl

-- a comment has no outcome
pub no_outcome : outcomes_of (first_world 1) ((Nothing, any) ∷ []) ≡ []
no_outcome = refl
