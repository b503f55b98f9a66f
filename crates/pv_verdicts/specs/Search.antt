-- What callers keyed into an editor's frames.
use Rattle.std.specs.Prelude.{ℕ, Option, Some, None, option_map, List, slice_get}
use Rattle.pv_fields.specs.Reading.{◌>>=◌}
use Rattle.pv_post.specs.declared.item.Item.{Item}
use Rattle.pv_edits.specs.declared.record.Record.{Record}
use Rattle.pv_edits.specs.declared.record.Record.TheVariants.{Put, Drop, Account, Lease, Taken}
use Rattle.pv_udc.specs.Replies.{reply_place}

-- the item that a record took up
abbrev pub taken_item : Record → Option Item
taken_item (Put editor q name frame) = None
taken_item (Drop editor q name) = None
taken_item (Account editor q account) = None
taken_item (Lease editor q root account) = None
taken_item (Taken taken) = Some taken.item

-- the first reply to a page that is the editor's now, of those at this place and after it, with its place
abbrev pub first_reply : List Record → ℕ → ℕ → Option (ℕ × Item)
first_reply records editor from =
    reply_place records editor from >>= λ place. slice_get records place >>= λ edit. option_map (λ (item : Item). (place, item))
    (taken_item edit)
