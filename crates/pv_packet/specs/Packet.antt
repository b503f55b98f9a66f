-- A packet, its spelling in bytes, and the error of bytes that spell none.
use Rattle.std.specs.Prelude.{◌≡◌, ◌⊎◌, ℕ, zero, suc, ◌<◌, ◌^◌, ◌&&◌, ◌||◌, nat_lt, List, [], ◌∷◌, ◌++◌, length, drop, slice_index, Option, Some, None}
use Rattle.std.specs.Int.{w64, to_be_bytes}
use Rattle.pv_fields.specs.Refusals.{first_of, some_if}
use Rattle.pv_account.specs.declared.account.TheConstants.{LAST_CENTRE}
use Rattle.pv_post.specs.declared.item.Item.{Item}
use Rattle.pv_post.specs.Spelling.{IsItem, item_bytes}
use Rattle.pv_edits.specs.Taken.{IsCentre}
use Rattle.pv_edits.specs.Down.{IsDown, down_bytes}
use Rattle.pv_edits.specs.declared.down.DownRecord.{DownRecord}
use Rattle.pv_packet.specs.declared.head.TheConstants.{HEAD_BYTES, LAST_KIND, LAST_CARRYING}
use Rattle.pv_packet.specs.declared.error.PacketError.{PacketError}
use Rattle.pv_packet.specs.declared.error.PacketError.TheVariants.{Short, Kind, Body, Trailing}
use Rattle.pv_packet.specs.declared.packet.Packet.{Packet}
use Rattle.pv_packet.specs.declared.packet.Packet.TheVariants.{Down, Up, DownHeard, UpHeard}

-- a centre and a number of eight bytes
pub record IsNumbered (centre number : ℕ) : Type 0 where
  pub known : IsCentre centre
  pub wide : number < 2 ^ 64

-- the centre that it goes to or comes from
abbrev pub centre_of : Packet → ℕ
centre_of (Down centre number rec) = centre
centre_of (Up centre number item) = centre
centre_of (DownHeard centre number) = centre
centre_of (UpHeard centre number) = centre

-- each part of the packet is within its range
abbrev pub IsPacket : Packet → Type 0
IsPacket (Down centre number rec) = IsNumbered centre number × IsDown rec
IsPacket (Up centre number item) = IsNumbered centre number × IsItem item
IsPacket (DownHeard centre number) = IsNumbered centre number
IsPacket (UpHeard centre number) = IsNumbered centre number

-- what a packet begins with: its kind, its centre and its number
abbrev pub head_bytes : ℕ → ℕ → ℕ → List ℕ
head_bytes kind centre number = kind ∷ centre ∷ to_be_bytes w64 number

-- its spelling: that, and then what it carries
unfoldable pub packet_bytes : Packet → List ℕ
packet_bytes (Down centre number rec) = head_bytes 1 centre number ++ down_bytes rec
packet_bytes (Up centre number item) = head_bytes 2 centre number ++ item_bytes item
packet_bytes (DownHeard centre number) = head_bytes 3 centre number
packet_bytes (UpHeard centre number) = head_bytes 4 centre number

-- the errors of bytes that begin with this kind, in order, without those of what the packet carries
abbrev pub head_errors_of : ℕ → List ℕ → List (Option PacketError)
head_errors_of kind bytes =
    some_if (nat_lt kind 1 || nat_lt LAST_KIND kind) Kind
    ∷ some_if (nat_lt (length bytes) HEAD_BYTES) Short
    ∷ some_if (nat_lt LAST_CENTRE (slice_index bytes 1)) Body
    ∷ some_if (nat_lt LAST_CARRYING kind && nat_lt HEAD_BYTES (length bytes)) Trailing
    ∷ []

-- the first of these errors
abbrev pub head_error : List ℕ → Option PacketError
head_error [] = Some Short
head_error (kind ∷ rest) = first_of (head_errors_of kind (kind ∷ rest))

-- the bytes spell nothing that a packet of this kind carries
abbrev pub CarriesNothing : ℕ → List ℕ → Type 0
CarriesNothing (suc zero) bytes = (rec : DownRecord) → IsDown rec → bytes ≡ down_bytes rec → ⊥
CarriesNothing (suc (suc zero)) bytes = (item : Item) → IsItem item → bytes ≡ item_bytes item → ⊥
CarriesNothing _ bytes = ⊥

-- This error is that of the bytes: the first of their head; or, if that has none, that they carry nothing.
abbrev pub Refuses : List ℕ → PacketError → Type 0
Refuses bytes error = (head_error bytes ≡ Some error)
    ⊎ ((head_error bytes ≡ None) × (error ≡ Body) × CarriesNothing (slice_index bytes 0) (drop HEAD_BYTES bytes))
