-- Right packets: what goes between the Update Centre and a centre is what these have stored.
use Rattle.std.specs.Prelude.{◌≡◌, ℕ, ◌≤◌, List, slice_get, Some}
use Rattle.pv_outside.specs.declared.link.Link as links
use Rattle.pv_edits.specs.Edits.{taken_of}
use Rattle.pv_edits.specs.declared.record.Record.{Record}
use Rattle.pv_irc.specs.History.{applied_of, items_of}
use Rattle.pv_irc.specs.declared.record.CentreRecord.{CentreRecord}
use Rattle.pv_live.specs.Entries.{with_opening}
use Rattle.pv_live.specs.Pass.{Standing}
use Rattle.pv_packet.specs.Packet.{IsPacket, packet_bytes, centre_of}
use Rattle.pv_packet.specs.declared.packet.Packet.{Packet}
use Rattle.pv_packet.specs.declared.packet.Packet.TheVariants.{Down, Up, DownHeard, UpHeard}
use Rattle.pv_udc.specs.Replies.{down_of}

-- A packet goes down rightly if the Update Centre has these records: it carries what a centre gets of the record of its number, or it
-- acknowledges no more items of its centre than were taken up.
abbrev pub GoesDown : List Record → Packet → Type 0
GoesDown records (Down centre n rec) = (edit : Record) × (slice_get records n ≡ Some edit) × (rec ≡ down_of edit)
GoesDown records (UpHeard centre count) = count ≤ taken_of records centre
GoesDown records _ = ⊥

-- A packet goes up rightly if the centre has these records: it carries the item of its number, or it acknowledges no more records than
-- were applied.
abbrev pub GoesUp : List CentreRecord → Packet → Type 0
GoesUp records (Up centre number item) = slice_get (items_of records) number ≡ Some item
GoesUp records (DownHeard centre count) = count ≤ applied_of records
GoesUp records _ = ⊥

-- if the bytes spell a packet of this centre, it is right
abbrev pub IsRightIfPacket : ℕ → (Packet → Type 0) → List ℕ → Type 0
IsRightIfPacket C IsRight bytes = (packet : Packet) → IsPacket packet → bytes ≡ packet_bytes packet → centre_of packet ≡ C → IsRight packet

-- all packets of this centre that the two links may hold are right, by what the passes have seen
pub record HoldRightPackets {L : Type 0} (k : links.Ghosts L) (udc_opening : List Record) (centre_opening : List CentreRecord) (C : ℕ)
    (udc : Standing Record) (centre : Standing CentreRecord) (down_link up_link : L) : Type 0 where
  pub down : (bytes : List ℕ) → k.may_hold down_link bytes → IsRightIfPacket C (GoesDown (with_opening udc_opening udc.seen)) bytes
  pub up : (bytes : List ℕ) → k.may_hold up_link bytes → IsRightIfPacket C (GoesUp (with_opening centre_opening centre.seen)) bytes
