-- What every world that can be reached keeps.
use Rattle.std.specs.Prelude.{◌≡◌, ℕ, ◌+◌, ◌<◌, ◌≤◌, All, IfSome, List, length, Option, Some, slice_get}
use Rattle.std.specs.List.{count_by}
use Rattle.pv_packet.specs.declared.packet.Packet.{Packet}
use Rattle.pv_packet.specs.declared.packet.Packet.TheVariants.{Down, Up, DownHeard, UpHeard}
use Rattle.pv_edits.specs.declared.down.DownRecord.{DownRecord}
use Rattle.pv_edits.specs.declared.record.Record.{Record}
use Rattle.pv_edits.specs.Edits.{is_edit_of, taken_of}
use Rattle.pv_edits.specs.Room.{frame_count}
use Rattle.pv_fields.specs.Reading.{◌>>=◌}
use Rattle.pv_session.specs.declared.step.Paid.{Paid}
use Rattle.pv_session.specs.declared.step.Paid.TheVariants.{Serial, Stored}
use Rattle.pv_session.specs.declared.step.Phase.{Phase}
use Rattle.pv_session.specs.declared.step.Phase.TheVariants.{Owing}
use Rattle.pv_session.specs.declared.step.Wish.TheVariants.{LogOn, Charge, Post, Remove}
use Rattle.pv_udc.specs.Judgement.{next_number}
use Rattle.pv_udc.specs.Replies.{down_of}
use Rattle.pv_network.specs.declared.event.TheConstants.{PORTS}
use Rattle.pv_traffic.specs.declared.way.Way.{Way}
use Rattle.pv_traffic.specs.declared.way.Way.TheVariants as ways
use Rattle.pv_network.specs.Call.{Call, serial_of}
use Rattle.pv_network.specs.Calls.{Calls, call_in}
use Rattle.pv_network.specs.Centre.{Centre}
use Rattle.pv_traffic.specs.Link.{Link, way_of}
use Rattle.pv_network.specs.OneList.{OneList}
use Rattle.pv_network.specs.World.{World, centre_at, link_at}

-- what goes down under a number is what goes down of the record that the edit list has there
pub record CarriesRecord (edits : List Record) (number : ℕ) (rec : DownRecord) : Type 0 where
  pub edit : Record
  pub there : slice_get edits number ≡ Some edit
  pub same : rec ≡ down_of edit

-- A packet on a centre's link is its own. It carries the list's record or the centre's item of its number, or acknowledges no more
-- records than were applied, or no more items than were taken up.
abbrev pub IsGenuine : List Record → ℕ → Centre → Packet → Type 0
IsGenuine edits c centre (Down from number rec) = (from ≡ c) × CarriesRecord edits number rec
IsGenuine edits c centre (Up from number item) = (from ≡ c) × (slice_get centre.calls.items number ≡ Some item)
IsGenuine edits c centre (DownHeard from number) = (from ≡ c) × (number ≤ centre.applied)
IsGenuine edits c centre (UpHeard from number) = (from ≡ c) × (number ≤ taken_of edits c)

-- such a packet, which goes this way
pub record GoesAlong (edits : List Record) (c : ℕ) (centre : Centre) (way : Way) (packet : Packet) : Type 0 where
  pub way_is : way_of packet ≡ way
  pub genuine : IsGenuine edits c centre packet

-- the serial of the call at a port, if there is a call and it has one
abbrev pub serial_in : Calls → ℕ → Option ℕ
serial_in calls port = call_in calls port >>= serial_of

-- a reply is the one to what a seat owes: a serial to a log-on, and else that it is stored
abbrev pub Answers : Phase → Paid → Type 0
Answers (Owing (LogOn account)) (Serial serial) = Unit {0}
Answers (Owing (Charge line)) Stored = Unit {0}
Answers (Owing (Post item)) Stored = Unit {0}
Answers (Owing (Remove account number)) Stored = Unit {0}
Answers _ _ = ⊥

-- a reply that is to be shown is the one to what the seat owes
abbrev pub OwesItsReply : Call → Type 0
OwesItsReply call = IfSome call.stored (Answers call.seat.phase)

-- The packets that went each way are genuine. No more was acknowledged to the end that sends records than the centre has applied,
-- and no more to the end that sends items than were taken up.
pub record IsSoundLink (edits : List Record) (c : ℕ) (centre : Centre) (link : Link) : Type 0 where
  pub down : All (GoesAlong edits c centre ways.Down) link.down
  pub up : All (GoesAlong edits c centre ways.Up) link.up
  pub sending : link.sending.acknowledged ≤ centre.applied
  pub posting : link.posting.acknowledged ≤ taken_of edits c

-- Each serial at a port is below the count of log-ons, and no two calls have one serial. A reply that is to be shown to a call is
-- the one to what its seat owes.
pub record IsSoundCalls (calls : Calls) : Type 0 where
  pub ports : length calls.ports ≡ PORTS
  pub below : (port serial : ℕ) → serial_in calls port ≡ Some serial → serial < calls.log_ons
  pub differ : (port other serial : ℕ) → serial_in calls port ≡ Some serial → serial_in calls other ≡ Some serial → port ≡ other
  pub replies : (port : ℕ) → IfSome (call_in calls port) OwesItsReply

-- The law of the one list holds, and with it what keeps it so: an editor's next number is one more than how many edits he has,
-- the limits are kept, and each centre's link is sound and so are its calls.
pub record IsSound (w : World) : Type 0 where
  pub law : OneList w
  pub next : (editor : ℕ) → next_number w.update.records editor ≡ count_by (is_edit_of editor) w.update.records + 1
  pub records : length w.update.records ≤ w.update.limits.records
  pub frames : frame_count w.update.records ≤ w.update.limits.frames
  pub links : (c : ℕ) → IsSoundLink w.update.records c (centre_at w c) (link_at w c)
  pub calls : (c : ℕ) → IsSoundCalls (centre_at w c).calls
