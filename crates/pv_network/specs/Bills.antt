-- Bills: the charge lines that the Update Centre took up for an account, and those that a centre has stored.
use Rattle.std.specs.Prelude.{ℕ, List, Option, None, option_map}
use Rattle.std.specs.List.{filter_map}
use Rattle.pv_post.specs.declared.item.Item.{Item}
use Rattle.pv_edits.specs.declared.record.Record.{Record}
use Rattle.pv_edits.specs.declared.record.Record.TheVariants.{Put, Drop, Account, Lease, Taken}
use Rattle.pv_udc.specs.Bills.{line_of_item}
use Rattle.pv_network.specs.declared.outcome.BillLine.{BillLine}
use Rattle.pv_network.specs.declared.outcome.Outcome.{Outcome}
use Rattle.pv_network.specs.declared.outcome.Outcome.TheVariants as outcomes
use Rattle.pv_network.specs.Charging.{line_in, line_at}
use Rattle.pv_network.specs.Prices.{pence_of}
use Rattle.pv_network.specs.World.{World, centre_at}

-- charge lines, with the sum of their prices
abbrev pub bill_answer : List BillLine → Outcome
bill_answer lines = outcomes.Bill lines (pence_of lines)

-- ---- bill

-- the charge line of this account that the record brought, with its centre, if it brought one
abbrev pub billed_in : ℕ → Record → Option BillLine
billed_in account (Put editor q name frame) = None
billed_in account (Drop editor q name) = None
billed_in account (Account editor q profile) = None
billed_in account (Lease editor q root lessee) = None
billed_in account (Taken taken) = option_map (line_at taken.centre) (line_of_item account taken.item)

-- the lines of an account, in the order in which they were taken up
abbrev pub bill_lines : List Record → ℕ → List BillLine
bill_lines records account = filter_map (billed_in account) records

abbrev pub step_of_bill : World → ℕ → World × Outcome
step_of_bill w account = (w, bill_answer (bill_lines w.update.records account))

-- ---- charge lines of a centre

-- the charge lines that a centre has stored, in that order
abbrev pub stored_lines : ℕ → List Item → List BillLine
stored_lines c items = filter_map (λ item. option_map (line_at c) (line_in item)) items

abbrev pub step_of_lines : World → ℕ → World × Outcome
step_of_lines w c = (w, bill_answer (stored_lines c (centre_at w c).calls.items))
