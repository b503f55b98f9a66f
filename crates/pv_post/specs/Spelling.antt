-- An item, its spelling in bytes, and what is read as an item.
use Rattle.std.specs.Prelude.{ℕ, zero, suc, List, ◌∷◌}
use Rattle.pv_fields.specs.Reading.{Parser, byte_at, nothing_at, map_at, chain_at}
use Rattle.pv_charge.specs.Line.{IsCharge, charge_bytes, charge_at}
use Rattle.pv_post.specs.Item.{IsResponse, response_bytes, response_at, IsMessage, message_bytes, message_at}
use Rattle.pv_post.specs.declared.item.Item.{Item}
use Rattle.pv_post.specs.declared.item.Item.TheVariants.{Charge, Reply, Mail}

-- each part of the item is within its range
abbrev pub IsItem : Item → Type 0
IsItem (Charge line) = IsCharge line
IsItem (Reply reply) = IsResponse reply
IsItem (Mail mail) = IsMessage mail

-- the first byte, which says what the item is
abbrev pub item_tag : Item → ℕ
item_tag (Charge line) = 1
item_tag (Reply reply) = 2
item_tag (Mail mail) = 3

-- the other bytes
abbrev pub item_body : Item → List ℕ
item_body (Charge line) = charge_bytes line
item_body (Reply reply) = response_bytes reply
item_body (Mail mail) = message_bytes mail

-- its spelling: the tag, and the other bytes
unfoldable pub item_bytes : Item → List ℕ
item_bytes item = item_tag item ∷ item_body item

-- how the other bytes are read after a tag
abbrev pub item_after : ℕ → Parser Item
item_after zero = nothing_at
item_after (suc zero) = map_at Charge charge_at
item_after (suc (suc zero)) = map_at Reply response_at
item_after (suc (suc (suc zero))) = map_at Mail message_at
item_after (suc (suc (suc (suc other)))) = nothing_at

-- the item that bytes begin with
unfoldable pub item_at : Parser Item
item_at = chain_at byte_at item_after
