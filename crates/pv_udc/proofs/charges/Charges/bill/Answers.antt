use Rattle.std.proofs.Common.{rules, ◌≡◌, ℕ, ◌<◌, List, length, Option, option_map, Some, None, refl, ap, sym, ◌∙◌, arith}
use Rattle.std.proofs.lemmas.Option.{same_Some, slice_get_read}
use Rattle.pv_edits.specs.declared.record.Record.{Record}
use Rattle.pv_index.specs.Indexes.{index_under}
use Rattle.pv_udc.specs.Bills.{brings_charge_to, bill_of}
use Rattle.pv_udc.specs.Charges.{AreChargesOf}
use Rattle.pv_udc.specs.declared.charges.Charges.{Charges}
use Rattle.pv_udc.specs.declared.charges.Entry.{Entry}
use Rattle.pv_udc.proofs.LastEdits.{last_index-within}
use Rattle.pv_udc.proofs.BillsKept.{no_bill}
use Rattle.pv_udc.proofs.charges.Charges.bill.Goals as goal

-- an account's last line has an entry
has_entry : (charges : Charges) (room : ℕ) (records : List Record) (account place : ℕ) → AreChargesOf charges room records
    → index_under charges.last.pairs account ≡ Some place → place < length charges.entries.items
has_entry charges room records account place is found =
    let within = last_index-within (brings_charge_to account) records place (sym (is.lasts account) ∙ found) in
    omega (arith, within, is.counted)

pub index-requires : goal.index-requires
index-requires c =
    let found : index_under c.args.self.now.last.pairs c.args.account ≡ Some c.in-Some.place = search rules in
    let within = has_entry c.args.self.now c.requires.0 c.requires.1 c.args.account c.in-Some.place c.requires.2 found in
    omega (arith, within)

-- which has its bill
pub returns-in-Some : goal.returns-in-Some
returns-in-Some c = λ room records is.
    let entries = c.args.self.now.entries.items in
    let account = c.args.account in
    let place = c.in-Some.place in
    let found : index_under c.args.self.now.last.pairs account ≡ Some place = search rules in
    let within = has_entry c.args.self.now room records account place is found in
    let entry = slice_get_read entries (length entries) place c.index.result.now refl within c.index.ensures in
    same_Some c.index.result.now.bill (bill_of records account)
    (sym (ap (λ (o : Option Entry). option_map (λ (e : Entry). e.bill) o) entry)
    ∙ is.bills account place (sym (is.lasts account) ∙ found))

-- an account without lines has none
pub returns-in-None : goal.returns-in-None
returns-in-None c = λ room records is.
    let none : index_under c.args.self.now.last.pairs c.args.account ≡ None = search rules in
    no_bill records c.args.account c.new.result (sym (is.lasts c.args.account) ∙ none) c.new.ensures.lines c.new.ensures.pence
