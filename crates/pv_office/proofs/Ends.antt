-- How a statement that was written, or was not, ends the program.
use Rattle.std.proofs.Common.{◌≡◌, ◌↔◌, ℕ, List, take, Option, None, Result, Ok, Err, refl}
use Rattle.std.specs.Prelude.{OnOk, OnErr, IsErrOf}
use Rattle.std.specs.Io.KnownBytes.{Appends}
use Rattle.pv_outside.specs.declared.reports.Reports as reports
use Rattle.pv_edits.specs.Edits.{account_at}
use Rattle.pv_edits.specs.declared.record.Record.{Record}
use Rattle.pv_node.specs.declared.rules.Rules as rules
use Rattle.pv_udc.specs.EditList.{EditList}
use Rattle.pv_udc.specs.declared.reply.UdcReply.{UdcReply}
use Rattle.pv_udc.specs.declared.request.UdcRequest.{UdcRequest}
use Rattle.pv_statement.specs.Statement.{statement_text}
use Rattle.pv_statement.specs.declared.fault.StatementFault.{StatementFault}
use Rattle.pv_statement.specs.declared.fault.StatementFault.TheVariants.{NoAccount, WriteFault}
use Rattle.pv_office.specs.Statements.{AreOfDisk, IsStatementEnd}
use Rattle.pv_office.specs.Status.{statement_status}

module _ {S D : Type 0} (r : rules.Ghosts S EditList UdcRequest Record UdcReply) (g : reports.Ghosts D) (disk : D)
    (records : List Record) (are : AreOfDisk r g disk records) (account year month : ℕ) (before now : Option (List ℕ)) where
  pub ends_so : (F : Type 0) (written : Result ℕ StatementFault)
      → OnOk written (Appends before now (statement_text records account year month))
      → (IsErrOf written NoAccount ↔ (account_at records account ≡ None))
      → (IsErrOf written NoAccount → now ≡ before)
      → OnErr written ((n : ℕ) × Appends before now (take n (statement_text records account year month)))
      → IsStatementEnd r g disk {F = F} account year month before now (statement_status written)
  ends_so F (Ok lines) whole unknown silent part = (records, are, (λ none. absurd (let no = unknown.1 none in cc)), whole)
  ends_so F (Err NoAccount) whole unknown silent part = (records, are, unknown.0 refl, silent refl)
  ends_so F (Err WriteFault) whole unknown silent part = (records, are, (λ none. absurd (let no = unknown.1 none in cc)), part.0, part.1)
