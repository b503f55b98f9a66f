-- Bytes that are refused spell no packet.
use Rattle.std.proofs.Common.{◌≡◌, ◌≢◌, ℕ, ◌≤◌, List, [], ◌++◌, length, drop, None, inl, inr, refl, sym, ap, subst, ◌∙◌, arith, append-nil, slice_index}
use Rattle.std.proofs.lemmas.Option.{none-some}
use Rattle.std.proofs.lemmas.Grind.{common_steps}
use Rattle.pv_fields.proofs.Readings.{Reads-back}
use Rattle.pv_post.specs.declared.item.Item.{Item}
use Rattle.pv_post.specs.Spelling.{IsItem, item_bytes, item_at}
use Rattle.pv_post.proofs.CallerLemmas.{Reads-item}
use Rattle.pv_account.specs.declared.account.TheConstants.{LAST_CENTRE}
use Rattle.pv_edits.specs.Down.{down_bytes}
use Rattle.pv_packet.specs.Packet.{IsPacket, head_bytes, packet_bytes, head_error, CarriesNothing, Refuses}
use Rattle.pv_packet.specs.declared.head.TheConstants.{HEAD_BYTES}
use Rattle.pv_packet.specs.declared.error.PacketError.{PacketError}
use Rattle.pv_packet.specs.declared.packet.Packet.{Packet}
use Rattle.pv_packet.specs.declared.packet.Packet.TheVariants.{Down, Up, DownHeard, UpHeard}

-- bytes that begin with an item's spelling and go on are no item's spelling
pub goes_on : (bytes : List ℕ) (item other : Item) (more : List ℕ) → IsItem item → IsItem other → bytes ≡ item_bytes item ++ more
    → length more ≢ 0 → bytes ≡ item_bytes other → ⊥
goes_on bytes item other more is_item is_other begins some same =
    let both = Reads-back IsItem item_bytes item_at Reads-item item other more [] is_item is_other
    (sym begins ∙ same ∙ sym (append-nil (item_bytes other))) in
    some (ap length both.1)

-- a head of kind 1 or 2 with what follows it has no error
head_carries : (kind centre number : ℕ) (body : List ℕ) → 1 ≤ kind → kind ≤ 2 → centre ≤ LAST_CENTRE
    → head_error (head_bytes kind centre number ++ body) ≡ None
head_carries kind centre number body some few known = grind (arith, common_steps)

-- a head of kind 3 or 4 with nothing after it has none
head_ends : (kind centre number : ℕ) → 1 ≤ kind → kind ≤ 4 → centre ≤ LAST_CENTRE → head_error (head_bytes kind centre number) ≡ None
head_ends kind centre number some few known = grind (arith, common_steps)

-- the head of a packet has no error
no_head_error : (packet : Packet) → IsPacket packet → head_error (packet_bytes packet) ≡ None
unfolding packet_bytes
no_head_error (Down centre number rec) is = head_carries 1 centre number (down_bytes rec) (omega arith) (omega arith) is.0.known
no_head_error (Up centre number item) is = head_carries 2 centre number (item_bytes item) (omega arith) (omega arith) is.0.known
no_head_error (DownHeard centre number) is = head_ends 3 centre number (omega arith) (omega arith) is.known
no_head_error (UpHeard centre number) is = head_ends 4 centre number (omega arith) (omega arith) is.known

-- a packet carries something, or is of a kind that carries nothing
carries : (packet : Packet) → IsPacket packet
    → CarriesNothing (slice_index (packet_bytes packet) 0) (drop HEAD_BYTES (packet_bytes packet)) → ⊥
unfolding packet_bytes
carries (Down centre number rec) is nothing = nothing rec is.1 refl
carries (Up centre number item) is nothing = nothing item is.1 refl
carries (DownHeard centre number) is nothing = nothing
carries (UpHeard centre number) is nothing = nothing

-- bytes that are refused spell no packet
pub never_refused : (bytes : List ℕ) (error : PacketError) → Refuses bytes error → (packet : Packet) → IsPacket packet
    → bytes ≡ packet_bytes packet → ⊥
never_refused bytes error (inl first) packet is same = none-some error (sym (no_head_error packet is) ∙ ap head_error (sym same) ∙ first)
never_refused bytes error (inr rest) packet is same =
    carries packet is (subst (λ (b : List ℕ). CarriesNothing (slice_index b 0) (drop HEAD_BYTES b)) same rest.2)
