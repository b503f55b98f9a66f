-- Bills: the charge lines that came up for an account.
use Rattle.std.specs.Prelude.{ℕ, ◌==◌, Bool, List, take, length, slice_get, Option, Some, None, is_some, option_map, if◌then◌else◌}
use Rattle.std.specs.List.{filter_map, sum_by}
use Rattle.pv_fields.specs.Reading.{◌>>=◌}
use Rattle.pv_charge.specs.Line.{Charge}
use Rattle.pv_charge.specs.declared.bill.Bill.{Bill}
use Rattle.pv_post.specs.declared.item.Item.{Item}
use Rattle.pv_post.specs.declared.item.Item.TheVariants as items
use Rattle.pv_edits.specs.Edits.{last_index}
use Rattle.pv_edits.specs.declared.record.Record.{Record}
use Rattle.pv_edits.specs.declared.record.Record.TheVariants.{Put, Drop, Account, Lease, Taken}

-- the item's charge line, if it is one of this account
abbrev pub line_of_item : ℕ → Item → Option Charge
line_of_item account (items.Charge line) = if line.account == account then Some line else None
line_of_item account (items.Reply reply) = None
line_of_item account (items.Mail mail) = None

-- the charge line of this account that the record brought, if it brought one
abbrev pub billed_line : ℕ → Record → Option Charge
billed_line account (Put editor q name frame) = None
billed_line account (Drop editor q name) = None
billed_line account (Account editor q profile) = None
billed_line account (Lease editor q root lessee) = None
billed_line account (Taken taken) = line_of_item account taken.item

-- the lines of an account's bill, oldest first
abbrev pub billed_lines : List Record → ℕ → List Charge
billed_lines records account = filter_map (billed_line account) records

-- the sum of their prices, in pence
abbrev pub billed_pence : List Record → ℕ → ℕ
billed_pence records account = sum_by (λ line. line.price) (billed_lines records account)

-- the bill of an account
abbrev pub bill_of : List Record → ℕ → Bill
bill_of records account = record { lines = length (billed_lines records account); pence = billed_pence records account }

-- ---- from line to line

-- the record brought a charge line of this account
abbrev pub brings_charge_to : ℕ → Record → Bool
brings_charge_to account edit = is_some (billed_line account edit)

-- the place of an account's last charge line
abbrev pub last_charge : List Record → ℕ → Option ℕ
last_charge records account = last_index (brings_charge_to account) records

-- the charge line that an item is, whatever account it is charged to
abbrev pub charge_of_item : Item → Option Charge
charge_of_item (items.Charge line) = Some line
charge_of_item (items.Reply reply) = None
charge_of_item (items.Mail mail) = None

-- the charge line that the record brought
abbrev pub charge_in : Record → Option Charge
charge_in (Put editor q name frame) = None
charge_in (Drop editor q name) = None
charge_in (Account editor q profile) = None
charge_in (Lease editor q root lessee) = None
charge_in (Taken taken) = charge_of_item taken.item

-- the account that it is charged to
abbrev pub charged_to : Record → Option ℕ
charged_to edit = option_map (λ line. line.account) (charge_in edit)

-- the place of the charge line before the one at this place, of the same account
abbrev pub charge_before : List Record → ℕ → Option ℕ
charge_before records place = slice_get records place >>= charged_to >>= last_charge (take place records)
