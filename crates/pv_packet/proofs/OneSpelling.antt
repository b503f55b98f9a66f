-- No spelling of a packet is a prefix of another's.
use Rattle.std.proofs.Common.{◌≡◌, ℕ, ◌<◌, ◌^◌, List, ◌∷◌, ◌++◌}
use Rattle.std.specs.Int.{w64, to_be_bytes}
use Rattle.pv_fields.specs.Reading.{ReadsBack}
use Rattle.pv_fields.proofs.Readings.{Reads-eight, Reads-back}
use Rattle.pv_post.specs.Spelling.{IsItem, item_bytes}
use Rattle.pv_edits.specs.Down.{IsDown, down_bytes}
use Rattle.pv_packet.specs.Packet.{IsPacket, packet_bytes}
use Rattle.pv_packet.specs.declared.packet.Packet.TheVariants.{Down, Up, DownHeard, UpHeard}

-- the parts of two heads that begin the same bytes are equal, and so is the rest
same_head : (kind c n d m : ℕ) (more rest : List ℕ) → n < 2 ^ 64 → m < 2 ^ 64
    → kind ∷ c ∷ (to_be_bytes w64 n ++ more) ≡ kind ∷ d ∷ (to_be_bytes w64 m ++ rest) → (c ≡ d) × (n ≡ m) × (more ≡ rest)
same_head kind c n d m more rest wide_n wide_m same =
    let after : to_be_bytes w64 n ++ more ≡ to_be_bytes w64 m ++ rest = cc in
    let both = Reads-back _ _ _ Reads-eight n m more rest wide_n wide_m after in
    (cc, both.0, both.1)

-- a packet
pub ReadsBack-packet : ReadsBack IsDown down_bytes → ReadsBack IsItem item_bytes → ReadsBack IsPacket packet_bytes
unfolding packet_bytes
ReadsBack-packet down_back item_back (Down c n one) (Down d m other) more rest is_one is_other same =
    let head = same_head 1 c n d m (down_bytes one ++ more) (down_bytes other ++ rest) is_one.0.wide is_other.0.wide same in
    let body = down_back one other more rest is_one.1 is_other.1 head.2 in
    (λ i. Down (head.0 i) (head.1 i) (body.0 i), body.1)
ReadsBack-packet down_back item_back (Up c n one) (Up d m other) more rest is_one is_other same =
    let head = same_head 2 c n d m (item_bytes one ++ more) (item_bytes other ++ rest) is_one.0.wide is_other.0.wide same in
    let body = item_back one other more rest is_one.1 is_other.1 head.2 in
    (λ i. Up (head.0 i) (head.1 i) (body.0 i), body.1)
ReadsBack-packet down_back item_back (DownHeard c n) (DownHeard d m) more rest is_one is_other same =
    let head = same_head 3 c n d m more rest is_one.wide is_other.wide same in
    (λ i. DownHeard (head.0 i) (head.1 i), head.2)
ReadsBack-packet down_back item_back (UpHeard c n) (UpHeard d m) more rest is_one is_other same =
    let head = same_head 4 c n d m more rest is_one.wide is_other.wide same in
    (λ i. UpHeard (head.0 i) (head.1 i), head.2)
ReadsBack-packet down_back item_back one other more rest is_one is_other same = absurd cc
