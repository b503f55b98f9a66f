-- The links as the code keeps them: all packets in one row, and of each link the places of its own.
use Rattle.std.proofs.Common.{◌≡◌, ℕ, zero, suc, ◌+◌, ◌<◌, ◌≤◌, false, List, [], ◌∷◌, ◌++◌, length, get_or, set, refl, sym, ap, subst, ◌∙◌, arith}
use Rattle.std.specs.Prelude.{map}
use Rattle.std.specs.List.{All}
use Rattle.std.proofs.lemmas.Bool.{leb-false}
use Rattle.std.proofs.lemmas.List.{get_or-map, get_or_append_left, get_or_push, length-append, length-map, map-set, map_push}
use Rattle.std.proofs.lemmas.List.Elements.{All-map, All-push, All-set, All-weaker}
use Rattle.std.proofs.lemmas.List.Sums.{sum_by-cons, sum_by-set}
use Rattle.pv_link.specs.Sending.{SendingEnd}
use Rattle.pv_packet.specs.declared.packet.Packet.{Packet}
use Rattle.pv_traffic.specs.declared.packets.TheConstants.{MAX_PACKETS}
use Rattle.pv_traffic.specs.declared.way.Way.{Way}
use Rattle.pv_traffic.specs.declared.way.Way.TheVariants as ways
use Rattle.pv_traffic.specs.Link.{AreWithin, IsWithin, Link, Places, link_in, is_packets_full, link_of, links_of, new_link, no_packet, packet_at, packet_count, place_count, end_at, end_on, packets_on, places_on, places_with_end, with_end, with_packet, with_place}

-- how many packets were made on a link
abbrev size : Places → ℕ
size here = length here.down + length here.up

-- there are as many packets as places
pub count_of_places : (packets : List Packet) (links : List Places) → packet_count (links_of packets links) ≡ place_count links
count_of_places packets [] = refl
count_of_places packets (here ∷ links) =
    let made = sum_by-cons (λ (link : Link). length link.down + length link.up) (link_of packets here) (links_of packets links) in
    grind (
      arith,
      made,
      sum_by-cons size here links,
      length-map here.down (packet_at packets),
      length-map here.up
          (packet_at packets),
      count_of_places packets links,
    )

-- if more may be made, there are fewer of them in the row
pub room_left : (packets : List Packet) (links : List Places) → length packets ≡ place_count links
    → is_packets_full (links_of packets links) ≡ false → length packets < MAX_PACKETS
room_left packets links count is =
    omega (arith, count, count_of_places packets links, leb-false MAX_PACKETS (packet_count (links_of packets links)) is)

-- functions that agree on each element of a list
pub map_agree : {X Y : Type 0} (f g : X → Y) (xs : List X) → ((k : ℕ) (d : X) → k < length xs → f (get_or xs k d) ≡ g (get_or xs k d))
    → map f xs ≡ map g xs
map_agree f g [] same = refl
map_agree f g (x ∷ xs) same =
    ap (λ y. y ∷ map f xs) (same 0 x (omega arith)) ∙ ap (λ ys. g x ∷ ys) (map_agree f g xs (λ k d inside. same (suc k) d (omega arith)))

-- ---- ways

-- another end leaves all places, and the link has that end
size_ended : (way : Way) (here : Places) (end : SendingEnd) → size (places_with_end way here end) ≡ size here
size_ended ways.Down here end = refl
size_ended ways.Up here end = refl

within_ended : (packets : List Packet) (way : Way) (here : Places) (end : SendingEnd) → IsWithin packets here
    → IsWithin packets (places_with_end way here end)
within_ended packets ways.Down here end is = record { down = is.down; up = is.up }
within_ended packets ways.Up here end is = record { down = is.down; up = is.up }

pub link_ended : (packets : List Packet) (way : Way) (here : Places) (end : SendingEnd)
    → link_of packets (places_with_end way here end) ≡ with_end way (link_of packets here) end
link_ended packets ways.Down here end = refl
link_ended packets ways.Up here end = refl

-- the end and the packets of a link are those of its places
pub end_read : (packets : List Packet) (way : Way) (here : Places) → end_on way (link_of packets here) ≡ end_at way here
end_read packets ways.Down here = refl
end_read packets ways.Up here = refl

pub packets_read : (packets : List Packet) (way : Way) (here : Places)
    → packets_on way (link_of packets here) ≡ map (packet_at packets) (places_on way here)
packets_read packets ways.Down here = refl
packets_read packets ways.Up here = refl

-- the places on a way are some of all
places_size : (way : Way) (here : Places) → length (places_on way here) ≤ size here
places_size ways.Down here = omega arith
places_size ways.Up here = omega arith

-- one place more is one more
pub size_placed : (way : Way) (here : Places) (place : ℕ) → size (with_place way here place) ≡ size here + 1
size_placed ways.Down here place = omega (arith, length-append here.down (place ∷ []))
size_placed ways.Up here place = omega (arith, length-append here.up (place ∷ []))

module _ (packets : List Packet) (links : List Places) (c : ℕ) (there : c < length (links_of packets links)) (here : Places)
    (read : here ≡ get_or links c here) where
  -- it is one of the links
  inside : c < length links
  inside = omega (arith, there, length-map links (link_of packets))

  -- the link whose places are read
  pub link_read : link_in (links_of packets links) c ≡ link_of packets here
  link_read = get_or-map (link_of packets) links c here new_link inside ∙ ap (link_of packets) (sym read)

  -- it has no more packets than there are on all links
  pub places_within : (way : Way) → length (places_on way here) ≤ place_count links
  places_within way =
      let none : Places = record { down = []; up = []; sending = here.sending; posting = here.posting } in
      let all = sum_by-set size links c none here inside in
      omega (arith, all, ap size read, places_size way here)

  -- it has as many packets on a way as places
  pub count_on : (way : Way) → length (places_on way here) ≡ length (packets_on way (link_in (links_of packets links) c))
  count_on way =
      sym (length-map (places_on way here) (packet_at packets))
      ∙ ap (λ (ps : List Packet). length ps) (sym (ap (packets_on way) link_read ∙ packets_read packets way here))

  -- another end leaves the link's places in the row
  pub ended : (way : Way) (end : SendingEnd) → AreWithin packets links → length packets ≡ place_count links
      → AreWithin packets (set links c (places_with_end way here end))
      × (length packets ≡ place_count (set links c (places_with_end way here end)))
  ended way end within count =
      let is = subst (IsWithin packets) (sym read) (within c here inside) in (
        All-set (IsWithin packets) links c (places_with_end way here end) (within_ended packets way here end is) within,
        omega
            (arith, count, sum_by-set size links c (places_with_end way here end) here inside, ap size read, size_ended way here end),
      )

  -- and the link has that end, which comes from its own
  pub end_replaced : (way : Way) (next : SendingEnd → SendingEnd)
      → links_of packets (set links c (places_with_end way here (next (end_at way here))))
      ≡ set (links_of packets links) c
      (with_end way (link_in (links_of packets links) c) (next (end_on way (link_in (links_of packets links) c))))
  end_replaced way next =
      map-set (link_of packets) links c _
      ∙ ap (set (links_of packets links) c) (link_ended packets way here (next (end_at way here))
      ∙ ap (λ (end : SendingEnd). with_end way (link_of packets here) (next end)) (sym (end_read packets way here))
      ∙ ap (λ (link : Link). with_end way link (next (end_on way link))) (sym link_read))

  -- the row goes on by one packet, at the place that is last then
  module _ (within : AreWithin packets links) (packet : Packet) (place : ℕ) (last : place ≡ length packets) where
    -- the row with that packet
    abbrev row : List Packet
    row = packets ++ packet ∷ []

    -- the link's places are in the row
    within_read : IsWithin packets here
    within_read = subst (IsWithin packets) (sym read) (within c here inside)

    -- packets are where they were
    stays : (places : List ℕ) → All (λ p. p < length packets) places → map (packet_at row) places ≡ map (packet_at packets) places
    stays places all =
        map_agree (packet_at row) (packet_at packets) places
        (λ k d below. get_or_append_left packets (packet ∷ []) no_packet (get_or places k d) (all k d below))

    -- those of a link are
    link_stays : (other : Places) → IsWithin packets other → link_of row other ≡ link_of packets other
    link_stays other is =
        λ i. record { down = stays other.down is.down i; up = stays other.up is.up i; sending = other.sending; posting = other.posting }

    -- one place more is that of the packet
    pub pushed : (places : List ℕ) → All (λ p. p < length packets) places
        → map (packet_at row) (places ++ place ∷ []) ≡ map (packet_at packets) places ++ packet ∷ []
    pushed places all =
        map_push (packet_at row) places place
        ∙ ap (λ p. map (packet_at row) places ++ p ∷ []) (get_or_push packets packet no_packet place (sym last))
        ∙ ap (λ (packed : List Packet). packed ++ packet ∷ []) (stays places all)

    -- another link in the place of this one leaves all others as they were
    grown : (next : Places) (link : Link) → link_of row next ≡ link → links_of row (set links c next) ≡ set (links_of packets links) c link
    grown next link is =
        map-set (link_of row) links c next
        ∙ ap (λ (ls : List Link). set ls c (link_of row next)) (map_agree (link_of row) (link_of packets) links (λ k d below.
        link_stays (get_or links k d) (within k d below)))
        ∙ ap (set (links_of packets links) c) is

    -- the link with the place has the packet
    link_grown : (way : Way) → link_of row (with_place way here place) ≡ with_packet way (link_of packets here) packet
    link_grown ways.Down = λ i. record {
      down = pushed here.down within_read.down i;
      up = stays here.up within_read.up i;
      sending = here.sending;
      posting = here.posting;
    }
    link_grown ways.Up = λ i. record {
      down = stays here.down within_read.down i;
      up = pushed here.up within_read.up i;
      sending = here.sending;
      posting = here.posting;
    }

    -- the packet went a way
    pub packed : (way : Way) → links_of row (set links c (with_place way here place))
        ≡ set (links_of packets links) c (with_packet way (link_in (links_of packets links) c) packet)
    packed way =
        grown (with_place way here place) (with_packet way (link_of packets here) packet) (link_grown way)
        ∙ ap (λ (link : Link). set (links_of packets links) c (with_packet way link packet)) (sym link_read)

    -- places in the row are in the longer one
    longer : (places : List ℕ) → All (λ p. p < length packets) places → All (λ p. p < length row) places
    longer places all =
        All-weaker (λ p. p < length packets) (λ p. p < length row)
        (λ p below. omega (arith, below, length-append packets (packet ∷ []))) places all

    -- and so is one place more
    longer_push : (places : List ℕ) → All (λ p. p < length packets) places → All (λ p. p < length row) (places ++ place ∷ [])
    longer_push places all =
        All-push (λ p. p < length row) places place (longer places all) (omega (arith, last, length-append packets (packet ∷ [])))

    -- the places with that one are in the row
    pub within_placed : (way : Way) → IsWithin row (with_place way here place)
    within_placed ways.Down = record { down = longer_push here.down within_read.down; up = longer here.up within_read.up }
    within_placed ways.Up = record { down = longer here.down within_read.down; up = longer_push here.up within_read.up }

    -- with one place more, each place is one of the row, and there are as many
    pub stored : (next : Places) → IsWithin row next → size next ≡ size here + 1 → length packets ≡ place_count links
        → AreWithin row (set links c next) × (length row ≡ place_count (set links c next))
    stored next is more count = (
      All-set (IsWithin row) links c next is (All-weaker (IsWithin packets) (IsWithin row) (λ other all. record {
        down = longer other.down all.down;
        up = longer other.up all.up;
      }) links within),
      omega (arith, count, more, sum_by-set size links c next here inside, ap size read, length-append packets (packet ∷ [])),
    )

-- another link in the place of one is read there
pub link_set : (links : List Link) (c : ℕ) (link : Link) → c < length links → link_in (set links c link) c ≡ link
link_set [] c link there = absurd (omega (arith, there))
link_set (other ∷ links) zero link there = refl
link_set (other ∷ links) (suc c) link there = link_set links c link (omega (arith, there))

-- ---- ends that are new

-- the links whose places have new ends are the links with new ends
pub links_renewed : (packets : List Packet) (links : List Places) (end : SendingEnd)
    → links_of packets (map (λ (here : Places). record here { sending = end }) links)
    ≡ map (λ (link : Link). record link { sending = end }) (links_of packets links)
links_renewed packets [] end = refl
links_renewed packets (here ∷ links) end =
    ap (λ (ls : List Link). record (link_of packets here) { sending = end } ∷ ls) (links_renewed packets links end)

-- there are as many places
pub count_renewed : (links : List Places) (end : SendingEnd)
    → place_count (map (λ (here : Places). record here { sending = end }) links) ≡ place_count links
count_renewed [] end = refl
count_renewed (here ∷ links) end =
    sum_by-cons size (record here { sending = end }) (map (λ (here : Places). record here { sending = end }) links)
    ∙ ap (λ (n : ℕ). size here + n) (count_renewed links end) ∙ sym (sum_by-cons size here links)

-- each is one of the row, as before
pub within_renewed : (packets : List Packet) (links : List Places) (end : SendingEnd) → AreWithin packets links
    → AreWithin packets (map (λ (here : Places). record here { sending = end }) links)
within_renewed packets links end within =
    All-map (IsWithin packets) (λ (here : Places). record here { sending = end }) links
    (All-weaker (IsWithin packets) (λ here. IsWithin packets (record here { sending = end }))
    (λ here is. record { down = is.down; up = is.up }) links within)
