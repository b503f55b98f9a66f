-- The keys of a caller, one after another: each is pressed, and what it owes is stored and shown at once.
use Rattle.std.specs.Prelude.{ℕ, Bool, true, false, is_some, List, [], ◌∷◌, ◌++◌, map, Option, Some, None, if◌then◌else◌}
use Rattle.pv_session.specs.declared.entry.Entry.{Entry}
use Rattle.pv_session.specs.declared.step.Why.TheVariants.{Full}
use Rattle.pv_network.specs.declared.outcome.Outcome.{Outcome}
use Rattle.pv_network.specs.declared.outcome.Outcome.TheVariants as outcomes
use Rattle.pv_network.specs.declared.outcome.Turn.{Turn}
use Rattle.pv_network.specs.Call.{Call, is_waiting}
use Rattle.pv_network.specs.Calling.{call_at, step_of_press, step_of_store, step_of_show}
use Rattle.pv_network.specs.Calls.{IsPortEntry}
use Rattle.pv_network.specs.World.{World}

-- a byte that is keyed, and the entry that it makes, if it makes one
pub record KeyedByte : Type 0 where
  pub byte : ℕ
  pub entry : Option Entry

-- the entry of the first of them
abbrev pub first_entry : List KeyedByte → Option Entry
first_entry [] = None
first_entry (key ∷ keys) = key.entry

-- the bytes alone
abbrev pub bytes_of : List KeyedByte → List ℕ
bytes_of keys = map (λ key. key.byte) keys

-- ---- one key

-- the outcome says that something is owed, or that it was stored
abbrev pub is_owes : Outcome → Bool
is_owes outcomes.Owes = true
is_owes _ = false

abbrev pub is_storing : Outcome → Bool
is_storing outcomes.Stored = true
is_storing _ = false

-- what is owed is stored and then shown, if the centre has room
abbrev pub step_of_payment : World → ℕ → ℕ → World × Outcome
step_of_payment w c port = let stored = step_of_store w c port in if is_storing stored.1 then step_of_show stored.0 c port else stored

-- a key, and then the payment of what it owes
abbrev pub step_of_key : World → ℕ → ℕ → KeyedByte → World × Outcome
step_of_key w c port key =
    let pressed = step_of_press w c port key.byte key.entry in if is_owes pressed.1 then step_of_payment pressed.0 c port else pressed

-- the screen that an outcome shows to the caller, if it shows one
abbrev pub screens_in : Outcome → List Turn
screens_in (outcomes.Shown turn) = turn ∷ []
screens_in (outcomes.StoreFull count screen) = record { screen = screen; ended = Some Full } ∷ []
screens_in _ = []

-- the call ended with a screen
abbrev pub is_over : Outcome → Bool
is_over (outcomes.Shown turn) = is_some turn.ended
is_over (outcomes.StoreFull count screen) = true
is_over _ = false

-- ---- all keys

-- the keys one after another, and the screens that they show; after the end of the call no key is read
abbrev pub keys_from : World → ℕ → ℕ → List KeyedByte → World × List Turn
keys_from w c port [] = (w, [])
keys_from w c port (key ∷ keys) =
    let done = step_of_key w c port key in
    let rest = keys_from done.0 c port keys in
    if is_over done.1 then (done.0, screens_in done.1) else (rest.0, screens_in done.1 ++ rest.1)

-- keys that are not read say nothing
abbrev pub UnlessOver : Bool → Type 0 → Type 0
UnlessOver true Rest = Unit {0}
UnlessOver false Rest = Rest

-- each key has the entry that it makes in the world in which it is keyed
abbrev pub TakesAll : World → ℕ → ℕ → List KeyedByte → Type 0
TakesAll w c port [] = Unit {0}
TakesAll w c port (key ∷ keys) =
    let done = step_of_key w c port key in
    IsPortEntry (call_at w c port) key.byte key.entry × UnlessOver (is_over done.1) (TakesAll done.0 c port keys)

-- the answer to keys: the screens, if they showed one
abbrev pub turns_answer : List Turn → Outcome
turns_answer [] = outcomes.Quiet
turns_answer (turn ∷ turns) = outcomes.Turns (turn ∷ turns)

-- why no key is taken: there is no call, or it waits
abbrev pub keys_refusal : Option Call → Option Outcome
keys_refusal None = Some outcomes.NoCall
keys_refusal (Some call) = if is_waiting call then Some outcomes.Owing else None

-- keys at a port, if they are taken there
abbrev pub step_of_taken_keys : World → ℕ → ℕ → List KeyedByte → Option Outcome → World × Outcome
step_of_taken_keys w c port keys (Some refusal) = (w, refusal)
step_of_taken_keys w c port keys None = let done = keys_from w c port keys in (done.0, turns_answer done.1)

abbrev pub step_of_keys : World → ℕ → ℕ → List KeyedByte → World × Outcome
step_of_keys w c port keys = step_of_taken_keys w c port keys (keys_refusal (call_at w c port))

-- what the keys say, if they are taken
abbrev pub TakesAllAt : World → ℕ → ℕ → List KeyedByte → Type 0
TakesAllAt w c port keys = UnlessOver (is_some (keys_refusal (call_at w c port))) (TakesAll w c port keys)
