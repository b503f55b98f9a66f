-- A packet's spelling is read as the packet, and has a greatest length in bytes.
use Rattle.std.proofs.Common.{◌≡◌, ℕ, ◌≤◌, ◌<◌, ◌^◌, false, eqb, List, [], ◌∷◌, ◌++◌, length, Some, refl, sym, ap, ◌∙◌, lit<, arith, append-nil}
use Rattle.std.specs.Int.{w64, to_be_bytes}
use Rattle.pv_fields.specs.Reading.{whole}
use Rattle.pv_fields.proofs.Readings.{◌&◌, Reads-byte, Reads-eight, Reads-within}
use Rattle.pv_account.specs.declared.account.TheConstants.{LAST_CENTRE}
use Rattle.pv_post.specs.declared.item.Item.{Item}
use Rattle.pv_post.specs.Spelling.{IsItem, item_bytes, item_at}
use Rattle.pv_post.proofs.CallerLemmas.{Reads-item}
use Rattle.pv_edits.specs.Record.{IsRecord, record_tag, record_body, record_bytes, record_at}
use Rattle.pv_edits.specs.Down.{IsDown, down_bytes}
use Rattle.pv_edits.specs.declared.record.Record.{Record}
use Rattle.pv_edits.specs.declared.record.Record.TheVariants.{Put, Drop, Account, Lease, Taken}
use Rattle.pv_edits.specs.declared.down.DownRecord.{DownRecord}
use Rattle.pv_edits.specs.declared.down.DownRecord.TheVariants.{Whole, Blank}
use Rattle.pv_edits.specs.declared.down.TheConstants.{BLANK_TAG}
use Rattle.pv_edits.proofs.CallerLemmas.{Reads-record, length-item, length-down}
use Rattle.pv_packet.specs.Packet.{IsPacket, packet_bytes}
use Rattle.pv_packet.specs.Reading.{down_of_bytes, centre_and_number, packet_of_bytes}
use Rattle.pv_packet.specs.declared.head.TheConstants.{PACKET_BYTES}
use Rattle.pv_packet.specs.declared.packet.Packet.{Packet}
use Rattle.pv_packet.specs.declared.packet.Packet.TheVariants.{Down, Up, DownHeard, UpHeard}

-- a record's first byte is not that of Blank
not_blank : (edit : Record) → eqb (record_tag edit) BLANK_TAG ≡ false
not_blank (Put editor q name frame) = refl
not_blank (Drop editor q name) = refl
not_blank (Account editor q account) = refl
not_blank (Lease editor q root account) = refl
not_blank (Taken taken) = refl

-- a record, with no byte after it
record_read : (edit : Record) → IsRecord edit → whole record_at (record_tag edit ∷ record_body edit) ≡ Some edit
unfolding record_bytes
record_read edit is =
    ap (whole record_at) (sym (append-nil (record_tag edit ∷ record_body edit))) ∙ rw (Reads-record.again edit [] refl is) refl

-- what goes down
down_read : (down : DownRecord) → IsDown down → down_of_bytes (down_bytes down) ≡ Some down
unfolding down_bytes
down_read Blank is = refl
down_read (Whole edit) is = rw (not_blank edit, record_read edit is) refl

-- an item, with no byte after it
item_read : (item : Item) → IsItem item → whole item_at (item_bytes item) ≡ Some item
item_read item is = ap (whole item_at) (sym (append-nil (item_bytes item))) ∙ rw (Reads-item.again item [] tt is) refl

-- a centre and a number, with any bytes after them
head_read : (centre number : ℕ) (rest : List ℕ) → centre ≤ LAST_CENTRE → number < 2 ^ 64
    → centre_and_number (centre ∷ (to_be_bytes w64 number ++ rest)) ≡ Some ((centre, number), rest)
head_read centre number rest known wide =
    (Reads-within 0 LAST_CENTRE (lit< tt) Reads-byte & Reads-eight).again (centre, number) rest tt ((omega arith, known), wide)

-- a packet
pub packet_read : (packet : Packet) → IsPacket packet → packet_of_bytes (packet_bytes packet) ≡ Some packet
unfolding packet_of_bytes packet_bytes
packet_read (Down centre number rec) is = rw (head_read centre number (down_bytes rec) is.0.known is.0.wide, down_read rec is.1) refl
packet_read (Up centre number item) is = rw (head_read centre number (item_bytes item) is.0.known is.0.wide, item_read item is.1) refl
packet_read (DownHeard centre number) is = rw (head_read centre number [] is.known is.wide) refl
packet_read (UpHeard centre number) is = rw (head_read centre number [] is.known is.wide) refl

-- how long it is
pub packet_size : (packet : Packet) → IsPacket packet → length (packet_bytes packet) ≤ PACKET_BYTES
unfolding packet_bytes
packet_size (Down centre number rec) is = omega (arith, length-down rec is.1)
packet_size (Up centre number item) is = omega (arith, length-item item is.1)
packet_size (DownHeard centre number) is = omega arith
packet_size (UpHeard centre number) is = omega arith
