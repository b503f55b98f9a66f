-- What a disk in memory keeps.
use Rattle.std.specs.Prelude.{◌≤◌, vec_len, vec_capacity}
use Rattle.pv_outside.specs.declared.disk.TheConstants.{MAX_UNSYNCED}
use Rattle.pv_memory.specs.Medium.{Medium, MatchesSync}
use Rattle.pv_memory.specs.Past.{moments_before}
use Rattle.pv_memory.specs.declared.disk.MemDisk.TheInside.{Inside}

-- the disk that contracts see: the vectors as lists, without their capacities, and the moments before the last calls
abbrev pub medium_of : Inside → Medium
medium_of d = record {
  text = d.text.items;
  synced = d.synced.items;
  pending = d.pending.items;
  past = moments_before d.text.items d.past;
  room = d.room;
  left = d.left;
  clock = d.clock;
  plan = d.faults;
}

-- its bytes fit the room, for which memory is taken
pub record IsMemDisk (d : Inside) : Type 0 where
  pub matches : MatchesSync d.text.items d.synced.items d.pending.items
  pub fits : vec_len d.text ≤ d.room
  pub text_room : d.room ≤ vec_capacity d.text
  pub synced_room : d.room ≤ vec_capacity d.synced
  pub pending_room : MAX_UNSYNCED ≤ vec_capacity d.pending
