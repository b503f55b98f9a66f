-- What is kept beside the records, so that a bill is found without a search.
use Rattle.std.specs.Prelude.{◌≡◌, ℕ, ◌*◌, ◌≤◌, ◌<◌, List, length, slice_get, Option, Some, option_map}
use Rattle.std.specs.Vec.{vec_capacity}
use Rattle.pv_fields.specs.Reading.{◌>>=◌}
use Rattle.pv_charge.specs.declared.bill.Bill.{Bill}
use Rattle.pv_charge.specs.declared.bill.TheConstants.{MAX_BILLED_LINES}
use Rattle.pv_charge.specs.declared.line.TheConstants.{MAX_PRICE}
use Rattle.pv_index.specs.Indexes.{index_under}
use Rattle.pv_edits.specs.Indexed.{HasReserve}
use Rattle.pv_edits.specs.declared.record.Record.{Record}
use Rattle.pv_udc.specs.Bills.{billed_pence, bill_of, last_charge, charge_before}
use Rattle.pv_udc.specs.declared.charges.Charges.{Charges}
use Rattle.pv_udc.specs.declared.charges.Entry.{Entry}

-- the place of the line before, as the entry of a place has it
abbrev pub before_at : List Entry → ℕ → Option ℕ
before_at entries place = slice_get entries place >>= λ entry. entry.before

-- the bill so far, as the entry of a place has it
abbrev pub bill_at : List Entry → ℕ → Option Bill
bill_at entries place = option_map (λ entry. entry.bill) (slice_get entries place)

-- There is room. Each record has an entry, which links its line to the one before, and each account's last line has its bill.
pub record AreChargesOf (charges : Charges) (room : ℕ) (records : List Record) : Type 0 where
  pub fit : room ≤ vec_capacity charges.entries
  pub reserved : HasReserve charges.last room (length records)
  pub counted : length charges.entries.items ≡ length records
  pub lasts : (account : ℕ) → index_under charges.last.pairs account ≡ last_charge records account
  pub links : (place : ℕ) → before_at charges.entries.items place ≡ charge_before records place
  pub bills : (account place : ℕ) → last_charge records account ≡ Some place
      → bill_at charges.entries.items place ≡ Some (bill_of records account)
  pub low : (account : ℕ) → billed_pence records account ≤ MAX_PRICE * length records

-- they are those of some records, to which one may be added
abbrev pub MayGrow : Charges → Type 0
MayGrow charges = (room : ℕ) × (records : List Record) × AreChargesOf charges room records × (length records < room)
    × (room ≤ MAX_BILLED_LINES)
