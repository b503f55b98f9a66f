use Rattle.std.proofs.Common.{rules, Bool, cond, length, Option, Some, None, is_some, refl, ap, sym, ◌∙◌, arith}
use Rattle.pv_charge.specs.Line.{Charge}
use Rattle.pv_index.specs.Indexes.{index_under}
use Rattle.pv_udc.specs.declared.charges.Entry.{Entry}
use Rattle.pv_udc.proofs.BillsKept.{no_line, IsEntry-none, AreChargesOf-push}
use Rattle.pv_udc.proofs.charges.Charges.push.Goals as goal

pub returns-in-Some : goal.returns-in-Some
returns-in-Some c = λ room records is within.
    c.push_line.ensures room records c.args.rec.now is within (sym c.charge_in.ensures.line ∙ c.in-Some.is)

-- no account has another last line
pub returns-in-None : goal.returns-in-None
returns-in-None c = λ room records is within.
    let old = c.args.self.now in
    let edit = c.args.rec.now in
    let none = sym c.charge_in.ensures.line ∙ c.in-None.is in
    let entry : Entry = record { before = None; bill = c.new.result } in
    let kept = is.reserved in
    AreChargesOf-push old (record { entries = c.push_reserved.new.self; last = old.last }) room records edit entry is
    (IsEntry-none records edit entry none refl)
    c.push_reserved.ensures.items
    (let fit = is.fit in search (rules, fit))
    (kept.0, omega (arith, kept.1))
    (λ account. sym (ap (λ (t : Bool). cond t (Some (length records)) (index_under old.last.pairs account))
    (ap (λ (o : Option Charge). is_some o) (no_line account edit none))))
