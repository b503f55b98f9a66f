-- What one event makes of the world, and the answer to it.
use Rattle.std.specs.Prelude.{ℕ, Bool, List, [], ◌∷◌, length, Option, Some, None}
use Rattle.pv_page.specs.Names.{Name}
use Rattle.pv_frame.specs.Content.{Content}
use Rattle.pv_screen.specs.Composing.{composed_grid}
use Rattle.pv_screen.specs.declared.screen.Screen.TheVariants.{Whole}
use Rattle.pv_edits.specs.Edits.{frame_at}
use Rattle.pv_words.specs.Parts.{Exactly}
use Rattle.pv_editor.specs.Lines.{IsLine}
use Rattle.pv_editor.specs.declared.line.EditLine.{EditLine}
use Rattle.pv_cells.specs.Notation.{ReadsAs}
use Rattle.pv_network.specs.declared.event.Event.{Event}
use Rattle.pv_network.specs.declared.event.Event.TheVariants as events
use Rattle.pv_network.specs.declared.outcome.Outcome.{Outcome}
use Rattle.pv_network.specs.declared.outcome.Outcome.TheVariants as outcomes
use Rattle.pv_network.specs.Bills.{step_of_bill, step_of_lines}
use Rattle.pv_network.specs.Calling.{call_at, step_of_dial, step_of_press, step_of_store, step_of_show, step_of_hang}
use Rattle.pv_network.specs.Calls.{IsPortEntry}
use Rattle.pv_network.specs.Crashing.{step_of_crash}
use Rattle.pv_network.specs.Cutting.{MayBeKept, step_of_cut, IsSaid}
use Rattle.pv_network.specs.Editing.{step_of_seeding, step_of_edit}
use Rattle.pv_network.specs.Keying.{KeyedByte, bytes_of, first_entry, step_of_keys, TakesAllAt}
use Rattle.pv_network.specs.Traffic.{step_of_send, step_of_post, step_of_deliver, step_of_back, step_of_carry}
use Rattle.pv_network.specs.World.{World, centre_at, page_base}

-- ---- view

-- what a centre shows of a name: the frame that its page base gives it
abbrev pub view_answer : Name → Option Content → Outcome
view_answer name None = outcomes.NotHeld
view_answer name (Some frame) = outcomes.Shown (record { screen = Whole (composed_grid frame name); ended = None })

-- a view leaves the world as it is, and shows what the centre has under the name
abbrev pub step_of_view : World → ℕ → Name → World × Outcome
step_of_view w c name = (w, view_answer name (frame_at (page_base w c) name))

-- ---- at, list

-- a question for what a centre has applied leaves the world as it is
abbrev pub step_of_at : World → ℕ → World × Outcome
step_of_at w c = (w, outcomes.Applied (centre_at w c).applied)

-- so does one for the length of the edit list
abbrev pub step_of_list : World → World × Outcome
step_of_list w = (w, outcomes.Records (length w.update.records))

-- ---- clock

-- the clock shows another moment
abbrev pub step_of_clock : World → ℕ → World × Outcome
step_of_clock w moment = (record w { moment = moment }, outcomes.Clock moment)

-- ---- all

-- What the definitions leave open in an event: whether a node that was lost within a command has the record that was to be stored,
-- what an editor's line says, and what a caller's keys say.
pub record Choice : Type 0 where
  pub kept : Bool
  pub said : Option EditLine
  pub keyed : List KeyedByte

-- What an editor's line says is read from it, and is nothing if it is none of an editor's lines. What a key says is read from those that
-- the caller has keyed in this world. How many calls of its disk passed says whether the node may have the record.
abbrev pub IsChoice : World → Event → Choice → Type 0
IsChoice w (events.Edit port line) choice = Exactly (IsLine line) choice.said
IsChoice w (events.Press centre port key) choice = IsPortEntry (call_at w centre port) key (first_entry choice.keyed)
IsChoice w (events.Keys centre port keys) choice = ReadsAs keys (bytes_of choice.keyed) × TakesAllAt w centre port choice.keyed
IsChoice w (events.Cut calls image command) choice = MayBeKept calls choice.kept × IsSaid command choice.said
IsChoice w _ choice = Unit {0}

-- the world after an event, and the answer
abbrev pub happens : World → Event → Choice → World × Outcome
happens w (events.Seed name row) choice = step_of_seeding w name row
happens w (events.Edit port line) choice = step_of_edit w port choice.said
happens w (events.Dial centre port) choice = step_of_dial w centre port
happens w (events.Press centre port key) choice = step_of_press w centre port key (first_entry choice.keyed)
happens w (events.Keys centre port keys) choice = step_of_keys w centre port choice.keyed
happens w (events.Store centre port) choice = step_of_store w centre port
happens w (events.Show centre port) choice = step_of_show w centre port
happens w (events.Hang centre port) choice = step_of_hang w centre port
happens w (events.Send centre) choice = step_of_send w centre
happens w (events.Post centre) choice = step_of_post w centre
happens w (events.Deliver centre index) choice = step_of_deliver w centre index
happens w (events.Back centre index) choice = step_of_back w centre index
happens w (events.Carry centre) choice = step_of_carry w centre
happens w (events.Crash node) choice = step_of_crash w node
happens w (events.Cut calls image command) choice = step_of_cut w command choice.kept choice.said
happens w (events.Clock moment) choice = step_of_clock w moment
happens w (events.View centre name) choice = step_of_view w centre name
happens w (events.At centre) choice = step_of_at w centre
happens w events.List choice = step_of_list w
happens w (events.Bill account) choice = step_of_bill w account
happens w (events.Lines centre) choice = step_of_lines w centre

-- the world after a list of events, each with what was open in it
abbrev pub after : World → List (Event × Choice) → World
after w [] = w
after w (step ∷ steps) = after (happens w step.0 step.1).0 steps
