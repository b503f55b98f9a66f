-- The packet that bytes spell.
use Rattle.std.specs.Prelude.{ℕ, zero, suc, ◌==◌, ◌&&◌, List, [], ◌∷◌, length, Option, Some, None, option_map, if◌then◌else◌}
use Rattle.std.specs.Int.{w64}
use Rattle.pv_fields.specs.Reading.{Parser, ◌>>=◌, ◌⊗◌, byte_at, number_at, within, whole}
use Rattle.pv_account.specs.declared.account.TheConstants.{LAST_CENTRE}
use Rattle.pv_post.specs.Spelling.{item_at}
use Rattle.pv_edits.specs.Record.{record_at}
use Rattle.pv_edits.specs.declared.down.DownRecord.{DownRecord}
use Rattle.pv_edits.specs.declared.down.DownRecord.TheVariants.{Whole, Blank}
use Rattle.pv_edits.specs.declared.down.TheConstants.{BLANK_TAG}
use Rattle.pv_packet.specs.declared.packet.Packet.{Packet}
use Rattle.pv_packet.specs.declared.packet.Packet.TheVariants.{Down, Up, DownHeard, UpHeard}

-- the down record that all of the bytes spell
abbrev pub down_of_bytes : List ℕ → Option DownRecord
down_of_bytes [] = None
down_of_bytes (tag ∷ rest) = if tag == BLANK_TAG && length rest == 0 then Some Blank else option_map Whole (whole record_at (tag ∷ rest))

-- the centre and the number of a packet, after its kind
abbrev pub centre_and_number : Parser (ℕ × ℕ)
centre_and_number = within 0 LAST_CENTRE byte_at ⊗ number_at w64

-- the packet of a kind with this centre and number, by the bytes that follow them
abbrev pub carried_packet : ℕ → ℕ → ℕ → List ℕ → Option Packet
carried_packet (suc zero) centre number bytes = option_map (Down centre number) (down_of_bytes bytes)
carried_packet (suc (suc zero)) centre number bytes = option_map (Up centre number) (whole item_at bytes)
carried_packet (suc (suc (suc zero))) centre number [] = Some (DownHeard centre number)
carried_packet (suc (suc (suc (suc zero)))) centre number [] = Some (UpHeard centre number)
carried_packet _ centre number bytes = None

-- the packet that all of the bytes spell, if they spell one
unfoldable pub packet_of_bytes : List ℕ → Option Packet
packet_of_bytes bytes =
    byte_at bytes >>= λ kind. centre_and_number kind.1 >>= λ head. carried_packet kind.0 head.0.0 head.0.1 head.1
