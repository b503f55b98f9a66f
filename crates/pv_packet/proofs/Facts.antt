-- Worked examples of packets and of bytes that spell none, computed from the definitions.
use Rattle.std.proofs.Common.{◌≡◌, ℕ, List, [], ◌∷◌, ◌++◌, Some, None, refl}
use Rattle.pv_edits.specs.Down.{down_bytes}
use Rattle.pv_edits.specs.declared.down.DownRecord.TheVariants.{Blank}
use Rattle.pv_packet.specs.Packet.{packet_bytes, head_error}
use Rattle.pv_packet.specs.declared.error.PacketError.TheVariants.{Short, Kind, Body, Trailing}
use Rattle.pv_packet.specs.declared.head.TheConstants.{HEAD_BYTES, PACKET_BYTES}
use Rattle.pv_packet.specs.declared.packet.Packet.TheVariants.{Down, DownHeard, UpHeard}

-- a head has ten bytes
pub ten_bytes : HEAD_BYTES ≡ 10
ten_bytes = refl

-- a packet has at most 1,010 bytes
pub longest_packet : PACKET_BYTES ≡ 1010
longest_packet = refl

-- the head of number 2, of a kind and a centre
abbrev head : ℕ → ℕ → List ℕ
head kind centre = kind ∷ centre ∷ 0 ∷ 0 ∷ 0 ∷ 0 ∷ 0 ∷ 0 ∷ 0 ∷ 2 ∷ []

-- centre 0 has the first two records
pub heard_two : packet_bytes (DownHeard 0 2) ≡ head 3 0
unfolding packet_bytes
heard_two = refl

-- the highest byte of a number comes first
pub high_first : packet_bytes (UpHeard 3 258) ≡ 4 ∷ 3 ∷ 0 ∷ 0 ∷ 0 ∷ 0 ∷ 0 ∷ 0 ∷ 1 ∷ 2 ∷ []
unfolding packet_bytes
high_first = refl

-- a record that is left out goes down as one byte
pub left_out : packet_bytes (Down 1 2 Blank) ≡ head 1 1 ++ 6 ∷ []
unfolding packet_bytes down_bytes
left_out = refl

-- there is no byte, or one too few
pub nothing_there : head_error [] ≡ Some Short
nothing_there = refl

pub nine_bytes : head_error (3 ∷ 0 ∷ 0 ∷ 0 ∷ 0 ∷ 0 ∷ 0 ∷ 0 ∷ 2 ∷ []) ≡ Some Short
nine_bytes = refl

-- kinds are 1 to 4, and one that is none is reported before all else
pub kind_0 : head_error (0 ∷ []) ≡ Some Kind
kind_0 = refl

pub kind_1 : head_error (head 1 0) ≡ None
kind_1 = refl

pub kind_4 : head_error (head 4 0) ≡ None
kind_4 = refl

pub kind_5 : head_error (5 ∷ []) ≡ Some Kind
kind_5 = refl

-- centres are 0 to 3
pub centre_3 : head_error (head 3 3) ≡ None
centre_3 = refl

pub centre_4 : head_error (head 3 4 ++ 0 ∷ []) ≡ Some Body
centre_4 = refl

-- something follows kinds 1 and 2, and nothing 3 and 4
pub item_follows : head_error (head 2 0 ++ 0 ∷ []) ≡ None
item_follows = refl

pub nothing_follows : head_error (head 3 0 ++ 0 ∷ []) ≡ Some Trailing
nothing_follows = refl
