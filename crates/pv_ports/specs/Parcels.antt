-- What goes down and up next, and its spelling in a buffer.
use Rattle.std.specs.Prelude.{◌≡◌, ℕ, ◌≤◌, List, take, slice_get, Option, Some, None, option_map}
use Rattle.pv_fields.specs.Reading.{◌>>=◌}
use Rattle.pv_outside.specs.declared.link.TheConstants.{MAX_PACKET}
use Rattle.pv_post.specs.declared.item.Item.{Item}
use Rattle.pv_edits.specs.declared.record.Record.{Record}
use Rattle.pv_packet.specs.Packet.{IsPacket, packet_bytes}
use Rattle.pv_packet.specs.declared.packet.Packet.{Packet}
use Rattle.pv_packet.specs.declared.packet.Packet.TheVariants.{Down, Up}
use Rattle.pv_udc.specs.Replies.{down_of}

-- the packet of the record of a number
abbrev pub down_packet : ℕ → List Record → Option ℕ → Option Packet
down_packet C records number = number >>= λ n. option_map (λ (rec : Record). Down C n (down_of rec)) (slice_get records n)

-- the packet of the item of a number
abbrev pub up_packet : ℕ → List Item → Option ℕ → Option Packet
up_packet C items number = number >>= λ k. option_map (λ (item : Item). Up C k item) (slice_get items k)

-- the buffer begins with the packet's spelling, which has this many bytes; or there is no packet
abbrev pub BeginsWithPacket : List ℕ → Option ℕ → Option Packet → Type 0
BeginsWithPacket bytes (Some n) (Some packet) = (n ≤ MAX_PACKET) × IsPacket packet × (take n bytes ≡ packet_bytes packet)
BeginsWithPacket bytes None None = Unit {0}
BeginsWithPacket bytes _ _ = ⊥
