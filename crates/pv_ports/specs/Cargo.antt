-- What a round carries that does not stop: what its looks find, what its links are given and hand out, and what is stored of that.
use Rattle.std.specs.Prelude.{◌≡◌, ℕ, zero, suc, ◌+◌, ◌≤◌, ◌<◌, IsTrue, List, [], ◌∷◌, length, take, All, Option, Some, None, IfSome, option_to_list, Ok}
use Rattle.std.specs.List.{filter_map}
use mathlib.Core.List.{IsPrefix}
use Rattle.pv_outside.specs.Counts.{one_more}
use Rattle.pv_outside.specs.declared.limits.Limits.{Limits}
use Rattle.pv_outside.specs.declared.link.Link as links
use Rattle.pv_edits.specs.Edits.{taken_of}
use Rattle.pv_edits.specs.declared.record.Record.{Record}
use Rattle.pv_irc.specs.Deciding.{down_fits}
use Rattle.pv_irc.specs.History.{applied_of, items_of, centre_state_of}
use Rattle.pv_irc.specs.declared.record.CentreRecord.{CentreRecord}
use Rattle.pv_link.specs.Sending.{SendingEnd, number_to_give}
use Rattle.pv_live.specs.Entries.{with_opening}
use Rattle.pv_live.specs.Pass.{Standing}
use Rattle.pv_packet.specs.Packet.{IsPacket, packet_bytes}
use Rattle.pv_packet.specs.declared.packet.Packet.{Packet}
use Rattle.pv_packet.specs.declared.packet.Packet.TheVariants.{Down, Up, DownHeard, UpHeard}
use Rattle.pv_ports.specs.Parcels.{down_packet, up_packet}
use Rattle.pv_ports.specs.Rights.{GoesDown, GoesUp, HoldRightPackets}
use Rattle.pv_ports.specs.Round.{CarrierState, Stop, Gave, Took, IsReadAs}
use Rattle.pv_ports.specs.Talk.{PassLooks}
use Rattle.pv_ports.specs.declared.round_end.RoundEnd.TheVariants as stops

-- the round went to its end
abbrev pub WentThrough : Stop → Type 0
WentThrough (stops.Moved records items) = Unit {0}
WentThrough stops.Idle = Unit {0}
WentThrough _ = ⊥

-- What a link has handed out: the packet of this centre that the bytes spell, if they spell one, and the acknowledgement that was given for
-- it, if one was.
pub record Arrival : Type 0 where
  pub packet : Option Packet
  pub answer : Option Packet

-- the acknowledgements that were given, in order
abbrev pub acknowledgements : List Arrival → List Packet
acknowledgements came = filter_map (λ (arrival : Arrival). arrival.answer) came

-- A record is acknowledged by a count of records, an item by a count of items, or they are not; nothing else is.
abbrev pub MayAnswer : Option Packet → Option Packet → Type 0
MayAnswer (Some (Down centre n rec)) (Some (DownHeard other count)) = other ≡ centre
MayAnswer (Some (Up centre number item)) (Some (UpHeard other count)) = other ≡ centre
MayAnswer packet (Some answer) = ⊥
MayAnswer packet None = Unit {0}

-- what a round carries: what the passes had seen at its looks, and what came down and up, in order
pub record Cargo : Type 0 where
  pub udc : Standing Record
  pub centre : Standing CentreRecord
  pub down : List Arrival
  pub up : List Arrival

-- ---- links

module _ {L : Type 0} (k : links.Ghosts L) where
  -- these packets are given to a link, in order
  abbrev pub GivesEach : List Packet → L → L → Type 0
  GivesEach [] old new = new ≡ old
  GivesEach (packet ∷ later) old new =
      (mid : L) × IsPacket packet × Gave k (packet_bytes packet) old mid (Ok tt) × GivesEach later mid new

  -- a link hands out bytes that spell this packet of the centre, or none of it
  abbrev pub HandsOutPacket : ℕ → Option Packet → L → L → Type 0
  HandsOutPacket C packet old new = (into : List ℕ) × (n : ℕ) × Took k into old new (Ok (Some n)) × IsReadAs C (take n into) packet

  -- a link holds nothing to hand out
  abbrev pub HandsOutNone : L → L → Type 0
  HandsOutNone old new = (into : List ℕ) × Took k into old new (Ok None)

  -- these are taken from a link: two, or fewer if it holds no more
  abbrev pub TakesUpToTwo : ℕ → List Arrival → L → L → Type 0
  TakesUpToTwo C [] old new = HandsOutNone old new
  TakesUpToTwo C (one ∷ []) old new = (mid : L) × HandsOutPacket C one.packet old mid × HandsOutNone mid new
  TakesUpToTwo C (one ∷ other ∷ []) old new = (mid : L) × HandsOutPacket C one.packet old mid × HandsOutPacket C other.packet mid new
  TakesUpToTwo C _ old new = ⊥

-- a count of the outside, after this many more
abbrev pub count_after : ℕ → ℕ → ℕ
count_after zero count = count
count_after (suc more) count = count_after more (one_more count)

-- ---- what is stored

-- A record that came down is applied after the round, if before it as many records were applied as its number, or more, and there was room.
abbrev pub IsBroughtDown : ℕ → Limits → List CentreRecord → List CentreRecord → Packet → Type 0
IsBroughtDown C limits before after (Down centre n rec) =
    n ≤ applied_of before → IsTrue (down_fits (centre_state_of C limits before) rec) → n < applied_of after
IsBroughtDown C limits before after _ = Unit {0}

-- An item that came up is taken up after the round, if before it as many of its centre were taken up as its number, or more.
abbrev pub IsBroughtUp : ℕ → List Record → List Record → Packet → Type 0
IsBroughtUp C before after (Up centre number item) = number ≤ taken_of before C → number < taken_of after C
IsBroughtUp C before after _ = Unit {0}

module _ {L : Type 0} (k : links.Ghosts L) (centre_limits : Limits) (udc_opening : List Record) (centre_opening : List CentreRecord) (C : ℕ)
  where
    -- the number of the record that goes down next, if one does, by what the look has seen
    abbrev pub record_due : Cargo → SendingEnd → Option ℕ
    record_due cargo end = number_to_give end (length (with_opening udc_opening cargo.udc.seen))

    -- the number of the item that goes up next
    abbrev pub item_due : Cargo → SendingEnd → Option ℕ
    item_due cargo end = number_to_give end (length (items_of (with_opening centre_opening cargo.centre.seen)))

    -- What the links go through. The link down is given the record that is due; then it hands out packets; then it is given acknowledgements of
    -- what came up. The link up is given the item that is due, then acknowledgements of what came down; then it hands out packets.
    pub record GoesThroughLinks (old : CarrierState) (old_down old_up : L) (cargo : Cargo) (new_down new_up : L) : Type 0 where
      pub down : (given taken : L)
          × GivesEach k (option_to_list (down_packet C (with_opening udc_opening cargo.udc.seen) (record_due cargo old.sending))) old_down given
          × TakesUpToTwo k C cargo.down given taken × GivesEach k (acknowledgements cargo.up) taken new_down
      pub up : (given answered : L)
          × GivesEach k (option_to_list (up_packet C (items_of (with_opening centre_opening cargo.centre.seen)) (item_due cargo old.posting)))
          old_up given
          × GivesEach k (acknowledgements cargo.down) given answered × TakesUpToTwo k C cargo.up answered new_up
      pub answered : All (λ (came : Arrival). MayAnswer came.packet came.answer) cargo.down
          × All (λ (came : Arrival). MayAnswer came.packet came.answer) cargo.up

    -- What the links count. The link down was given a packet if a record was due, and one for each item that was acknowledged; the link up one
    -- if an item was due, and one for each record that was acknowledged. Each handed out what came.
    pub record CountsCargo (old : CarrierState) (old_down old_up : L) (cargo : Cargo) (new_down new_up : L) : Type 0 where
      pub given_down : k.given new_down
          ≡ count_after (length (option_to_list (record_due cargo old.sending)) + length (acknowledgements cargo.up)) (k.given old_down)
      pub given_up : k.given new_up
          ≡ count_after (length (option_to_list (item_due cargo old.posting)) + length (acknowledgements cargo.down)) (k.given old_up)
      pub taken_down : k.taken new_down ≡ count_after (length cargo.down) (k.taken old_down)
      pub taken_up : k.taken new_up ≡ count_after (length cargo.up) (k.taken old_up)

    -- What a round has carried that went to its end. Each record and item that came is stored which was due, and no more is acknowledged than
    -- is stored. If all packets that the links may hold are right before the round, so is each that came: a record that was asked for is
    -- the Update Centre's of its number, and an item the centre's.
    pub record HasBrought (old : CarrierState) (old_down old_up : L) (new : CarrierState) (new_down new_up : L) : Type 0 where
      pub cargo : Cargo
      pub looks : PassLooks old.udc cargo.udc × PassLooks old.centre cargo.centre
      pub seen : IsPrefix cargo.udc.seen new.udc.seen × IsPrefix cargo.centre.seen new.centre.seen
      pub links : GoesThroughLinks old old_down old_up cargo new_down new_up
      pub counts : CountsCargo old old_down old_up cargo new_down new_up
      pub records : All (λ (came : Arrival). IfSome came.packet
          (IsBroughtDown C centre_limits (with_opening centre_opening old.centre.seen) (with_opening centre_opening new.centre.seen))) cargo.down
      pub items : All (λ (came : Arrival). IfSome came.packet
          (IsBroughtUp C (with_opening udc_opening old.udc.seen) (with_opening udc_opening new.udc.seen))) cargo.up
      pub heard : All (λ (came : Arrival). IfSome came.answer (GoesUp (with_opening centre_opening new.centre.seen))) cargo.down
          × All (λ (came : Arrival). IfSome came.answer (GoesDown (with_opening udc_opening new.udc.seen))) cargo.up
      pub asked : HoldRightPackets k udc_opening centre_opening C old.udc old.centre old_down old_up
          → All (λ (came : Arrival). IfSome came.packet (GoesDown (with_opening udc_opening new.udc.seen))) cargo.down
          × All (λ (came : Arrival). IfSome came.packet (GoesUp (with_opening centre_opening new.centre.seen))) cargo.up
