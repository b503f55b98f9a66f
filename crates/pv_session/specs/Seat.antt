-- What a seat stands for.
use Rattle.std.specs.Prelude.{ℕ, List, [], Option, Some, None}
use Rattle.pv_session.specs.declared.seat.Seat.{Seat}
use Rattle.pv_session.specs.Earlier.{names_of}
use Rattle.pv_session.specs.Reading.{mode_of, keys_so_far}
use Rattle.pv_session.specs.State.{CallState}

-- what was filled in, if anything was
abbrev pub fields_of : Option (List (List ℕ)) → List (List ℕ)
fields_of None = []
fields_of (Some fields) = fields

-- the call at a seat
abbrev pub state_of : Seat → CallState
state_of seat = record {
  phase = seat.phase;
  mode = mode_of seat.reading;
  keyed = keys_so_far seat.reading;
  failed = seat.failed;
  account = seat.account;
  serial = seat.serial;
  lines = seat.lines;
  aside = seat.aside;
  present = seat.present;
  filled = fields_of seat.filled;
  earlier = names_of seat.earlier;
  bytes = seat.bytes;
  entries = seat.entries;
}
