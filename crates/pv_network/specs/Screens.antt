-- What a caller is shown from the dial of his call to its end: the steps of his seat, by what happens at his port alone.
use Rattle.std.specs.Prelude.{ℕ, Bool, ◌&&◌, ◌==◌, List, [], ◌∷◌, ◌++◌, Option, Some, None, if◌then◌else◌}
use Rattle.pv_edits.specs.Sight.{View}
use Rattle.pv_session.specs.Calls.{CallEvent, Keyed, Stored, Refused}
use Rattle.pv_session.specs.declared.step.Paid.{Paid}
use Rattle.pv_session.specs.declared.step.Step.{Step}
use Rattle.pv_session.specs.declared.step.Step.TheVariants as steps
use Rattle.pv_session.specs.declared.step.Wish.{Wish}
use Rattle.pv_network.specs.declared.event.Event.{Event}
use Rattle.pv_network.specs.declared.event.Event.TheVariants as events
use Rattle.pv_network.specs.declared.outcome.Outcome.{Outcome}
use Rattle.pv_network.specs.declared.outcome.Outcome.TheVariants as outcomes
use Rattle.pv_network.specs.declared.outcome.Turn.{Turn}
use Rattle.pv_network.specs.Call.{Call, is_waiting, wish_to_store}
use Rattle.pv_network.specs.Calling.{call_at, view_at, holdings_at, step_of_press, step_of_store}
use Rattle.pv_network.specs.Calls.{Holdings, lacks_room}
use Rattle.pv_network.specs.Keying.{KeyedByte, is_owes, is_storing, step_of_key, screens_in, is_over, keys_refusal}
use Rattle.pv_network.specs.Step.{Choice, IsChoice, happens}
use Rattle.pv_network.specs.World.{World}

-- ---- what happens at a seat

-- a key is taken, with what the caller may see and the moment, unless the call waits
abbrev pub press_events : View → ℕ → ℕ → Option Call → List CallEvent
press_events view moment key None = []
press_events view moment key (Some call) = if is_waiting call then [] else Keyed key view moment ∷ []

-- a full centre refuses to store what is owed; if it is stored, the seat does not know it yet
abbrev pub wish_events : Holdings → Option Wish → List CallEvent
wish_events holdings None = []
wish_events holdings (Some wish) = if lacks_room holdings wish then Refused ∷ [] else []

abbrev pub store_events : Holdings → Option Call → List CallEvent
store_events holdings None = []
store_events holdings (Some call) = wish_events holdings (wish_to_store call)

-- the seat gets the reply to what was stored
abbrev pub reply_events : Option Paid → List CallEvent
reply_events None = []
reply_events (Some reply) = Stored reply ∷ []

abbrev pub show_events : Option Call → List CallEvent
show_events None = []
show_events (Some call) = reply_events call.stored

-- a payment: the store, and the show of what was stored
abbrev pub payment_events : World → ℕ → ℕ → List CallEvent
payment_events w c port =
    let stored = step_of_store w c port in
    store_events (holdings_at w c) (call_at w c port) ++ (if is_storing stored.1 then show_events (call_at stored.0 c port) else [])

-- a key, and the payment of what it owes
abbrev pub key_events : World → ℕ → ℕ → KeyedByte → List CallEvent
key_events w c port key =
    let pressed = step_of_press w c port key.byte key.entry in
    press_events (view_at w c port) w.moment key.byte (call_at w c port)
    ++ (if is_owes pressed.1 then payment_events pressed.0 c port else [])

-- all keys, up to the end of the call
abbrev pub keys_events : World → ℕ → ℕ → List KeyedByte → List CallEvent
keys_events w c port [] = []
keys_events w c port (key ∷ keys) =
    let done = step_of_key w c port key in
    key_events w c port key ++ (if is_over done.1 then [] else keys_events done.0 c port keys)

-- keys at a port, if they are taken there
abbrev pub taken_events : World → ℕ → ℕ → List KeyedByte → Option Outcome → List CallEvent
taken_events w c port keys (Some refusal) = []
taken_events w c port keys None = keys_events w c port keys

-- the two are one port
abbrev pub is_same_port : ℕ → ℕ → ℕ → ℕ → Bool
is_same_port centre port c p = centre == c && port == p

-- what happens at the seat of a port in an event: nothing if the event is at another port
abbrev pub seat_events : World → ℕ → ℕ → Event → Choice → List CallEvent
seat_events w c p (events.Press centre port key) choice =
    if is_same_port centre port c p then press_events (view_at w c p) w.moment key (call_at w c p) else []
seat_events w c p (events.Store centre port) choice =
    if is_same_port centre port c p then store_events (holdings_at w c) (call_at w c p) else []
seat_events w c p (events.Show centre port) choice = if is_same_port centre port c p then show_events (call_at w c p) else []
seat_events w c p (events.Keys centre port keys) choice =
    if is_same_port centre port c p then taken_events w c p choice.keyed (keys_refusal (call_at w c p)) else []
seat_events w c p _ choice = []

-- ---- what is shown

-- the screen of a step, if it has one
abbrev pub step_turns : Step → List Turn
step_turns steps.Quiet = []
step_turns (steps.Show screen) = record { screen = screen; ended = None } ∷ []
step_turns (steps.Owe wish) = []
step_turns (steps.Ended why screen) = record { screen = screen; ended = Some why } ∷ []

-- the screens of steps
abbrev pub steps_turns : List Step → List Turn
steps_turns [] = []
steps_turns (step ∷ steps) = step_turns step ++ steps_turns steps

-- all screens that an outcome shows to a caller
abbrev pub turns_in : Outcome → List Turn
turns_in (outcomes.Turns turns) = turns
turns_in outcome = screens_in outcome

-- what the caller at a port is shown in an event, by its outcome
abbrev pub port_turns : ℕ → ℕ → Event → Outcome → List Turn
port_turns c p (events.Press centre port key) outcome = if is_same_port centre port c p then screens_in outcome else []
port_turns c p (events.Store centre port) outcome = if is_same_port centre port c p then screens_in outcome else []
port_turns c p (events.Show centre port) outcome = if is_same_port centre port c p then screens_in outcome else []
port_turns c p (events.Keys centre port keys) outcome = if is_same_port centre port c p then turns_in outcome else []
port_turns c p _ outcome = []

-- ---- a call

-- what happens at the seat of a port's call, up to its end
abbrev pub call_events : World → ℕ → ℕ → Option Call → List (Event × Choice) → List CallEvent
call_events w c p None steps = []
call_events w c p (Some call) [] = []
call_events w c p (Some call) (step ∷ steps) =
    let next = (happens w step.0 step.1).0 in seat_events w c p step.0 step.1 ++ call_events next c p (call_at next c p) steps

-- what its caller is shown
abbrev pub call_turns : World → ℕ → ℕ → Option Call → List (Event × Choice) → List Turn
call_turns w c p None steps = []
call_turns w c p (Some call) [] = []
call_turns w c p (Some call) (step ∷ steps) =
    let done = happens w step.0 step.1 in port_turns c p step.0 done.1 ++ call_turns done.0 c p (call_at done.0 c p) steps

-- what was open in each event is chosen in the world in which it happens
abbrev pub AreChoices : World → List (Event × Choice) → Type 0
AreChoices w [] = Unit {0}
AreChoices w (step ∷ steps) = IsChoice w step.0 step.1 × AreChoices (happens w step.0 step.1).0 steps
