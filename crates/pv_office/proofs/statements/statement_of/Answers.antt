use Rattle.std.proofs.Common.{◌≡◌, ℕ, List, ap, sym, subst, ◌∙◌, map, string_bytes}
use Rattle.pv_edits.specs.declared.record.Record.{Record}
use Rattle.pv_udc.specs.EditList.{EditList}
use Rattle.pv_udc.specs.contracts.rules.UdcRulesRules.TheImpl as udc
use Rattle.pv_office.specs.Statements.{AreOfDisk, IsStatementEnd}
use Rattle.pv_office.proofs.Ends.{ends_so}
use Rattle.pv_office.proofs.statements.statement_of.Goals as goal

-- the node has the records of the disk, and the statement of these is written
pub returns-in-Ok-clause-ends : goal.returns-in-Ok-clause-ends
returns-in-Ok-clause-ends g c = λ folder account year month ask.
    let options = c.in-Some.ensures.only folder account year month ask in
    let e = c.statement.ensures in
    let are : AreOfDisk udc.ghosts g.D.Reports c.args.disk c.state.result.now.records =
    λ others stands. ap (λ (s : EditList). s.records) c.state.ensures ∙ (c.in-Ok.ensures.found others stands).state in
    let so = ends_so udc.ghosts g.D.Reports c.args.disk c.state.result.now.records are
    c.in-Some.options.account c.in-Some.options.year c.in-Some.options.month
    (g.K.Sink.written c.args.out.now) (g.K.Sink.written c.statement.new.out)
    _ c.statement.result e.written e.unknown (λ no. ap g.K.Sink.written (e.silent no)) e.prefix in
    rw (c.of_statement.ensures, ← options.account_is, ← options.year_is, ← options.month_is) so
