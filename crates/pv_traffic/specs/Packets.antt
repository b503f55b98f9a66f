-- All packets that were made, as the code keeps them: their bytes one after another, and where those of each begin and end.
use Rattle.std.specs.Prelude.{◌≡◌, ℕ, ◌-◌, ◌*◌, ◌≤◌, All, List, length, take, drop, map, unwrap_or}
use Rattle.pv_packet.specs.Packet.{IsPacket, packet_bytes}
use Rattle.pv_packet.specs.Reading.{packet_of_bytes}
use Rattle.pv_packet.specs.declared.head.TheConstants.{PACKET_BYTES}
use Rattle.pv_packet.specs.declared.packet.Packet.{Packet}
use Rattle.pv_traffic.specs.declared.packets.Span.{Span}
use Rattle.pv_traffic.specs.Link.{no_packet}

-- the bytes from a span's start to its end
abbrev pub run_of : List ℕ → Span → List ℕ
run_of bytes span = take (span.end - span.start) (drop span.start bytes)

-- the packet that they spell
abbrev pub spelled_packet : List ℕ → Span → Packet
spelled_packet bytes span = unwrap_or (packet_of_bytes (run_of bytes span)) no_packet

-- the packets, in the order made
abbrev pub packets_of : List ℕ → List Span → List Packet
packets_of bytes spans = map (spelled_packet bytes) spans

-- the span is within the bytes, and its bytes spell a packet
pub record IsSpelled (bytes : List ℕ) (span : Span) : Type 0 where
  pub order : span.start ≤ span.end
  pub within : span.end ≤ length bytes
  pub packet : Packet
  pub valid : IsPacket packet
  pub spelling : run_of bytes span ≡ packet_bytes packet

-- each span's bytes spell a packet, and there are no more bytes than that many packets of the greatest size have
pub record AreSpelled (bytes : List ℕ) (spans : List Span) : Type 0 where
  pub each : All (IsSpelled bytes) spans
  pub size : length bytes ≤ length spans * PACKET_BYTES
