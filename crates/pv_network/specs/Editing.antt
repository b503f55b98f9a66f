-- What an editor's request and an editor's line make of the world, and the answers to them.
use Rattle.std.specs.Prelude.{ℕ, List, Option}
use Rattle.pv_page.specs.Names.{Name}
use Rattle.pv_frame.specs.declared.layout.TheConstants.{FIRST_ROW}
use Rattle.pv_frame.specs.Content.{Content, blank_frame, with_row}
use Rattle.pv_edits.specs.declared.room.TheConstants.{OPERATOR}
use Rattle.pv_edits.specs.declared.wish.EditWish.{EditWish}
use Rattle.pv_edits.specs.declared.wish.EditWish.TheVariants.{Put}
use Rattle.pv_udc.specs.EditList.{all_places}
use Rattle.pv_udc.specs.Judgement.{next_number}
use Rattle.pv_udc.specs.declared.request.UdcRequest.TheVariants.{Edit}
use Rattle.pv_editor.specs.Replies.{reply_of, closing_reply, responses_reply}
use Rattle.pv_editor.specs.Say.{new_seat, turn_of}
use Rattle.pv_editor.specs.declared.line.EditLine.{EditLine}
use Rattle.pv_editor.specs.declared.step.EditStep.{EditStep}
use Rattle.pv_editor.specs.declared.step.EditStep.TheVariants as steps
use Rattle.pv_network.specs.declared.outcome.Outcome.{Outcome}
use Rattle.pv_network.specs.declared.outcome.Outcome.TheVariants as outcomes
use Rattle.pv_verdicts.specs.Search.{first_reply}
use Rattle.pv_network.specs.Verdict.{Verdict, verdict_of}
use Rattle.pv_network.specs.World.{World, seat_at, with_seat, with_edit, with_receipt}

-- ---- seed

-- the world after a verdict on an editor's request
abbrev pub with_verdict : World → ℕ → ℕ → Verdict → World
with_verdict w editor q verdict = with_receipt (with_edit w verdict.stored) editor q verdict.reply

-- an editor's request is judged: its record is stored unless it is refused, and an edit that is stored is acknowledged
abbrev pub step_of_request : World → ℕ → ℕ → EditWish → World × Outcome
step_of_request w editor q wish =
    let verdict = verdict_of w.update (Edit editor q wish) in (with_verdict w editor q verdict, outcomes.Reply (reply_of verdict.reply))

-- a frame that is blank except for its row 2
abbrev pub seeded_frame : List ℕ → Content
seeded_frame row = record blank_frame { body = with_row FIRST_ROW row blank_frame.body }

-- the request that the operator's next number puts that frame under a name: its editor, its number, and what is asked for
abbrev pub seed_request : World → Name → List ℕ → ℕ × ℕ × EditWish
seed_request w name row = (OPERATOR, next_number w.update.records OPERATOR, Put name (seeded_frame row))

-- it is judged
abbrev pub step_of_seeding : World → Name → List ℕ → World × Outcome
step_of_seeding w name row = let request = seed_request w name row in step_of_request w request.0 request.1 request.2

-- ---- edit

-- an editor's line is taken at a seat: what it says makes another seat of it, and gives a step
abbrev pub step_of_line : World → ℕ → Option EditLine → World × EditStep
step_of_line w port said =
    let turn = turn_of (seat_at w port) w.update.records (all_places w.update.records) said in (with_seat w port turn.0, turn.1)

-- the step of an editor's line is done; after the end of a session the seat is new
abbrev pub step_of_said : World → ℕ → EditStep → World × Outcome
step_of_said w port (steps.Say text) = (w, outcomes.Reply text)
step_of_said w port (steps.Ask editor q wish) = step_of_request w editor q wish
step_of_said w port (steps.Responses editor from) = (w, outcomes.Reply (responses_reply (first_reply w.update.records editor from)))
step_of_said w port steps.Close = (with_seat w port new_seat, outcomes.Reply closing_reply)

-- an editor's line arrives at a port
abbrev pub step_of_edit : World → ℕ → Option EditLine → World × Outcome
step_of_edit w port said = let step = step_of_line w port said in step_of_said step.0 port step.1
