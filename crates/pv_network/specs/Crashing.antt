-- What a crash makes of the world: the node is opened again from its disk. All that it stored is there, and what it had in memory
-- alone is new. Packets stay.
use Rattle.std.specs.Prelude.{ℕ, length, map, None, replicate}
use Rattle.pv_editor.specs.Say.{new_seat}
use Rattle.pv_network.specs.declared.event.NodeName.{NodeName}
use Rattle.pv_network.specs.declared.event.NodeName.TheVariants as nodes
use Rattle.pv_network.specs.declared.event.TheConstants.{EDITORS, PORTS}
use Rattle.pv_traffic.specs.declared.way.Way.TheVariants as ways
use Rattle.pv_network.specs.declared.outcome.Outcome.{Outcome}
use Rattle.pv_network.specs.declared.outcome.Outcome.TheVariants as outcomes
use Rattle.pv_network.specs.Calling.{calls_at, at_calls}
use Rattle.pv_network.specs.Calls.{Calls}
use Rattle.pv_network.specs.Centre.{record_count}
use Rattle.pv_network.specs.Charging.{with_stops}
use Rattle.pv_traffic.specs.Link.{with_new_end}
use Rattle.pv_network.specs.World.{World, centre_at, link_at, with_link}

-- ---- the Update Centre

-- the editors' seats are new, and so is the end that sends records down each link
abbrev pub step_of_update_crash : World → World × Outcome
step_of_update_crash w = (
  record w { seats = replicate EDITORS new_seat; links = map (with_new_end ways.Down) w.links },
  outcomes.Crashed (length w.update.records),
)

-- ---- a centre

-- the calls are over; the log-ons are counted on
abbrev pub without_calls : Calls → Calls
without_calls calls = record calls { ports = replicate PORTS None }

-- a crash of a centre that has this many records
abbrev pub crash_at : ℕ → Calls → Calls × Outcome
crash_at count calls = (without_calls calls, outcomes.Crashed count)

-- the calls of a centre are over, and each that has a line in hand is stopped
abbrev pub step_of_lost_calls : World → ℕ → World × Outcome
step_of_lost_calls w c =
    let done = at_calls w c (crash_at (record_count (centre_at w c)) (calls_at w c)) in
    (with_stops done.0 c (calls_at w c).ports, done.1)

-- so it is in a crash, and the centre's end, which sends items up, is new
abbrev pub step_of_centre_crash : World → ℕ → World × Outcome
step_of_centre_crash w c = step_of_lost_calls (with_link w c (with_new_end ways.Up (link_at w c))) c

-- ---- either

abbrev pub step_of_crash : World → NodeName → World × Outcome
step_of_crash w nodes.Udc = step_of_update_crash w
step_of_crash w (nodes.Centre c) = step_of_centre_crash w c
