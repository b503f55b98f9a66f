-- Whom a page belongs to: the account of the longest leased root that covers it, by the last lease of that root.
use Rattle.std.specs.Prelude.{ℕ, Bool, true, ◌&&◌, List, Option, Some, None, if◌then◌else◌}
use Rattle.std.specs.List.{fold}
use Rattle.std.specs.Option.{option_or}
use Rattle.pv_fields.specs.Reading.{◌>>=◌}
use Rattle.pv_page.specs.Names.{covers}
use Rattle.pv_edits.specs.Edits.{leases, last_record}
use Rattle.pv_edits.specs.declared.owner.Lot.{Lot}
use Rattle.pv_edits.specs.declared.record.Record.{Record}
use Rattle.pv_edits.specs.declared.room.TheConstants.{OPERATOR}
use Rattle.pv_edits.specs.declared.record.Record.TheVariants.{Put, Drop, Account, Lease, Taken}

-- the root is as long as the best so far, or longer: of two roots that cover a page, the shorter covers the longer
abbrev pub is_as_long : Option Lot → ℕ → Bool
is_as_long None root = true
is_as_long (Some best) root = covers best.root root

-- the lot that the record gives, if the page is in it and its root is as long as the best so far
abbrev pub better_lot : ℕ → Option Lot → Record → Option Lot
better_lot page best (Put editor q name frame) = None
better_lot page best (Drop editor q name) = None
better_lot page best (Account editor q account) = None
better_lot page best (Lease editor q root account) =
    if covers root page && is_as_long best root then Some (record { root = root; account = account }) else None
better_lot page best (Taken taken) = None

-- the lot that the record gives
abbrev pub lot_in : Record → Option Lot
lot_in (Put editor q name frame) = None
lot_in (Drop editor q name) = None
lot_in (Account editor q account) = None
lot_in (Lease editor q root account) = Some (record { root = root; account = account })
lot_in (Taken taken) = None

-- the lot of a root, by its last lease
abbrev pub lot_at : List Record → ℕ → Option Lot
lot_at records root = last_record (leases root) records >>= lot_in

-- the best lot for a page after one record more
abbrev pub lot_after : ℕ → Option Lot → Record → Option Lot
lot_after page best edit = option_or (better_lot page best edit) best

-- the lot that a page is in
abbrev pub lot_of : List Record → ℕ → Option Lot
lot_of records page = fold (lot_after page) None records

-- the account of a lot, or the operator's if there is no lot
abbrev pub account_of_lot : Option Lot → ℕ
account_of_lot None = OPERATOR
account_of_lot (Some lot) = lot.account

-- whom a page belongs to
abbrev pub owner_of : List Record → ℕ → ℕ
owner_of records page = account_of_lot (lot_of records page)
