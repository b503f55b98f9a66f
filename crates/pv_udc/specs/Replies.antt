-- What goes down of a record, and what came up to an editor's pages.
use Rattle.std.specs.Prelude.{ℕ, ◌+◌, ◌==◌, Bool, true, false, List, [], ◌∷◌, drop, Option, if◌then◌else◌}
use Rattle.std.specs.List.{position_from}
use Rattle.pv_post.specs.declared.item.Item.{Item}
use Rattle.pv_post.specs.declared.item.Item.TheVariants.{Charge, Reply, Mail}
use Rattle.pv_edits.specs.Taken.{TakenUp}
use Rattle.pv_edits.specs.Owner.{owner_of}
use Rattle.pv_edits.specs.declared.record.Record.{Record}
use Rattle.pv_edits.specs.declared.record.Record.TheVariants.{Put, Drop, Account, Lease, Taken}
use Rattle.pv_edits.specs.declared.down.DownRecord.{DownRecord}
use Rattle.pv_edits.specs.declared.down.DownRecord.TheVariants.{Whole, Blank}

-- of the items that were taken up, letters go down, and charges and replies do not
abbrev pub down_of_item : Item → TakenUp → DownRecord
down_of_item (Charge line) taken = Blank
down_of_item (Reply reply) taken = Blank
down_of_item (Mail mail) taken = Whole (Taken taken)

-- what a centre gets of a record
abbrev pub down_of : Record → DownRecord
down_of (Put editor q name frame) = Whole (Put editor q name frame)
down_of (Drop editor q name) = Whole (Drop editor q name)
down_of (Account editor q account) = Whole (Account editor q account)
down_of (Lease editor q root account) = Whole (Lease editor q root account)
down_of (Taken taken) = down_of_item taken.item taken

-- the item is a reply to a page that is this editor's now
abbrev pub is_reply_to : List Record → ℕ → Item → Bool
is_reply_to records editor (Charge line) = false
is_reply_to records editor (Reply reply) = owner_of records reply.name.page == editor
is_reply_to records editor (Mail mail) = false

-- the record brought such a reply
abbrev pub brings_reply_to : List Record → ℕ → Record → Bool
brings_reply_to records editor (Put other q name frame) = false
brings_reply_to records editor (Drop other q name) = false
brings_reply_to records editor (Account other q account) = false
brings_reply_to records editor (Lease other q root account) = false
brings_reply_to records editor (Taken taken) = is_reply_to records editor taken.item

-- the first place, from this one on, of a record that passes a test
abbrev pub place_from : (Record → Bool) → List Record → ℕ → Option ℕ
place_from test records from = position_from test from (drop from records)

-- the first place, from this one on, of a record that brought a reply to a page that is this editor's now
abbrev pub reply_place : List Record → ℕ → ℕ → Option ℕ
reply_place records editor from = place_from (brings_reply_to records editor) records from

-- ---- from reply to reply

-- the item is a reply, whoever its page belongs to
abbrev pub is_reply : Item → Bool
is_reply (Charge line) = false
is_reply (Reply reply) = true
is_reply (Mail mail) = false

-- the record brought a reply
abbrev pub brings_reply : Record → Bool
brings_reply (Put editor q name frame) = false
brings_reply (Drop editor q name) = false
brings_reply (Account editor q account) = false
brings_reply (Lease editor q root account) = false
brings_reply (Taken taken) = is_reply taken.item

-- these places, with one before them if the test holds
abbrev pub starting_at : Bool → ℕ → List ℕ → List ℕ
starting_at test place places = if test then place ∷ places else places

-- the places of the records that pass a test, if the first record has this place
abbrev pub places_of : (Record → Bool) → ℕ → List Record → List ℕ
places_of test place [] = []
places_of test place (x ∷ xs) = starting_at (test x) place (places_of test (place + 1) xs)

-- the places, from this one on, of the records that brought a reply
abbrev pub reply_places : List Record → ℕ → List ℕ
reply_places records from = places_of brings_reply from (drop from records)
