-- Packets in the bytes of their spellings, and one more that is added after them.
use Rattle.std.proofs.Common.{◌≡◌, ℕ, ◌+◌, ◌-◌, ◌≤◌, List, [], ◌∷◌, ◌++◌, length, take, drop, get_or, Option, Some, ap, ◌∙◌, arith}
use Rattle.std.specs.Prelude.{map, unwrap_or, option_map}
use Rattle.std.specs.List.{slice_get}
use Rattle.std.proofs.Math.Seq.{drop-append_seam, take-length}
use Rattle.std.proofs.lemmas.List.{drop-append-le, take-append-le, length-append, length-drop, map_push}
use Rattle.std.proofs.lemmas.List.Elements.{All-push, All-weaker}
use Rattle.std.proofs.lemmas.Option.{slice_get-map}
use Rattle.pv_packet.specs.Packet.{IsPacket, packet_bytes}
use Rattle.pv_packet.specs.Reading.{packet_of_bytes}
use Rattle.pv_packet.specs.declared.head.TheConstants.{PACKET_BYTES}
use Rattle.pv_packet.specs.declared.packet.Packet.{Packet}
use Rattle.pv_traffic.specs.declared.packets.Span.{Span}
use Rattle.pv_traffic.specs.Link.{no_packet}
use Rattle.pv_traffic.specs.Packets.{run_of, spelled_packet, packets_of, IsSpelled, AreSpelled}
use Rattle.pv_traffic.proofs.Rows.{map_agree}

module _ (bytes more : List ℕ) where
  -- the bytes of a span stay as more are added
  run_stays : (span : Span) → span.start ≤ span.end → span.end ≤ length bytes → run_of (bytes ++ more) span ≡ run_of bytes span
  run_stays span order within =
      ap (take (span.end - span.start)) (drop-append-le span.start bytes more (omega (arith, order, within)))
      ∙ take-append-le (span.end - span.start) (drop span.start bytes) more (omega (arith, within, length-drop span.start bytes))

  -- they spell what they spelled
  spelled_longer : (span : Span) → IsSpelled bytes span → IsSpelled (bytes ++ more) span
  spelled_longer span is = record {
    order = is.order;
    within = omega (arith, is.within, length-append bytes more);
    packet = is.packet;
    valid = is.valid;
    spelling = run_stays span is.order is.within ∙ is.spelling;
  }

  -- the span of those that were added
  new_run : (span : Span) → span.start ≡ length bytes → span.end ≡ length bytes + length more → run_of (bytes ++ more) span ≡ more
  new_run span starts ends =
      let size : span.end - span.start ≡ length more = omega (arith, starts, ends) in
      ap (λ (n : ℕ). take n (drop span.start (bytes ++ more))) size
      ∙ ap (λ (n : ℕ). take (length more) (drop n (bytes ++ more))) starts
      ∙ ap (take (length more)) (drop-append_seam bytes more) ∙ take-length more

-- bytes that spell a packet are read as it
pub spells : (bytes : List ℕ) (span : Span) (packet : Packet) → packet_of_bytes (run_of bytes span) ≡ Some packet
    → spelled_packet bytes span ≡ packet
spells bytes span packet reads = ap (λ (found : Option Packet). unwrap_or found no_packet) reads

-- a packet is read at the place of its span
pub gets : (bytes : List ℕ) (spans : List Span) (place : ℕ) (span : Span) (packet : Packet) → slice_get spans place ≡ Some span
    → packet_of_bytes (run_of bytes span) ≡ Some packet → slice_get (packets_of bytes spans) place ≡ Some packet
gets bytes spans place span packet is reads =
    slice_get-map (spelled_packet bytes) spans place ∙ ap (option_map (spelled_packet bytes)) is ∙ ap Some (spells bytes span packet reads)

module _ (bytes : List ℕ) (spans : List Span) (all : AreSpelled bytes spans) (packet : Packet) (valid : IsPacket packet)
    (reads : packet_of_bytes (packet_bytes packet) ≡ Some packet) (size : length (packet_bytes packet) ≤ PACKET_BYTES)
    (span : Span) (starts : span.start ≡ length bytes) (ends : span.end ≡ length bytes + length (packet_bytes packet)) where
  -- the bytes with those of the packet
  abbrev longer : List ℕ
  longer = bytes ++ packet_bytes packet

  -- the packet is added
  pub packets_pushed : packets_of longer (spans ++ span ∷ []) ≡ packets_of bytes spans ++ packet ∷ []
  packets_pushed =
      map_push (spelled_packet longer) spans span
      ∙ ap (λ (p : Packet). map (spelled_packet longer) spans ++ p ∷ []) (spells longer span packet
      (ap packet_of_bytes (new_run bytes (packet_bytes packet) span starts ends) ∙ reads))
      ∙ ap (λ (ps : List Packet). ps ++ packet ∷ []) (map_agree (spelled_packet longer) (spelled_packet bytes) spans (λ k d below.
      let is = all.each k d below in
      ap (λ (run : List ℕ). unwrap_or (packet_of_bytes run) no_packet)
      (run_stays bytes (packet_bytes packet) (get_or spans k d) is.order is.within)))

  -- its bytes spell it, and those of the others still spell them
  pub spelled_pushed : AreSpelled longer (spans ++ span ∷ [])
  spelled_pushed = record {
    each = All-push (IsSpelled longer) spans span
        (All-weaker (IsSpelled bytes) (IsSpelled longer) (spelled_longer bytes (packet_bytes packet)) spans all.each)
        (record {
          order = omega (arith, starts, ends);
          within = omega (arith, ends, length-append bytes (packet_bytes packet));
          packet = packet;
          valid = valid;
          spelling = new_run bytes (packet_bytes packet) span starts ends;
        });
    size = omega (arith, all.size, size, length-append bytes (packet_bytes packet), length-append spans (span ∷ []));
  }
