-- Calls in the world: what each event at a port makes of it.
use Rattle.std.specs.Prelude.{ℕ, List, [], ◌∷◌, Option}
use Rattle.pv_post.specs.Boxes.{WaitingLetter}
use Rattle.pv_post.specs.Waiting.{waiting_letters}
use Rattle.pv_edits.specs.Letters.{letter_at}
use Rattle.pv_edits.specs.Sight.{View, sight_of}
use Rattle.pv_session.specs.declared.entry.Entry.{Entry}
use Rattle.pv_network.specs.declared.outcome.Outcome.{Outcome}
use Rattle.pv_network.specs.Call.{Call}
use Rattle.pv_network.specs.Calls.{Calls, Holdings, given_account, call_in, dial_at, hang_at, press_at, store_at, show_at}
use Rattle.pv_network.specs.Centre.{record_count}
use Rattle.pv_network.specs.Charging.{with_shown, with_stops}
use Rattle.pv_network.specs.World.{World, centre_at, with_centre, page_base}

-- the calls at a centre
abbrev pub calls_at : World → ℕ → Calls
calls_at w c = (centre_at w c).calls

-- the call at a port of a centre
abbrev pub call_at : World → ℕ → ℕ → Option Call
call_at w c port = call_in (calls_at w c) port

-- the world with other calls at a centre
abbrev pub with_calls : World → ℕ → Calls → World
with_calls w c calls = with_centre w c (record (centre_at w c) { calls = calls })

-- what is done with a centre's calls is done in the world
abbrev pub at_calls : World → ℕ → Calls × Outcome → World × Outcome
at_calls w c done = (with_calls w c done.0, done.1)

abbrev pub step_of_dial : World → ℕ → ℕ → World × Outcome
step_of_dial w c port = at_calls w c (dial_at (calls_at w c) port (call_at w c port))

-- a caller hangs up: his call is stopped if it has a line in hand
abbrev pub step_of_hang : World → ℕ → ℕ → World × Outcome
step_of_hang w c port =
    let done = at_calls w c (hang_at (calls_at w c) port (call_at w c port)) in
    (with_stops done.0 c (call_at w c port ∷ []), done.1)

-- the letters that wait at a centre for an account: those that its page base brought him, less those that were removed
abbrev pub letters_at : World → ℕ → ℕ → List WaitingLetter
letters_at w c account =
    waiting_letters (letter_at (page_base w c) c account) (calls_at w c).removals account (centre_at w c).applied

-- what a centre shows to the caller at a port: what its page base has for his account, and the letter that waits
abbrev pub view_at : World → ℕ → ℕ → View
view_at w c port = sight_of (page_base w c) (letters_at w c) c (given_account (call_at w c port))

-- a key at the moment of the clock, with the entry that it makes
abbrev pub step_of_press : World → ℕ → ℕ → ℕ → Option Entry → World × Outcome
step_of_press w c port key entry = at_calls w c (press_at (calls_at w c) port key (view_at w c port) w.moment entry (call_at w c port))

-- what a centre stores a wish by
abbrev pub holdings_at : World → ℕ → Holdings
holdings_at w c = record {
  limit = w.update.limits.records;
  count = record_count (centre_at w c);
  applied = (centre_at w c).applied;
  letters = letters_at w c;
}

-- what a call owes is stored
abbrev pub step_of_store : World → ℕ → ℕ → World × Outcome
step_of_store w c port = at_calls w c (store_at (holdings_at w c) (calls_at w c) port (call_at w c port))

-- a caller is shown what his call was stored for: the line that it has in hand is now one of a frame that was shown
abbrev pub step_of_show : World → ℕ → ℕ → World × Outcome
step_of_show w c port =
    let done = at_calls w c (show_at (calls_at w c) port (call_at w c port)) in (with_shown done.0 c (call_at w c port), done.1)
