-- What `statement` writes, and why it does not.
use Rattle.std.specs.Prelude.{◌≡◌, ◌≢◌, ℕ, List, take, Option, None, IfSome}
use Rattle.std.specs.Io.KnownBytes.{Appends}
use Rattle.pv_outside.specs.declared.limits.Limits.{Limits}
use Rattle.pv_outside.specs.declared.reports.Reports as reports
use Rattle.pv_edits.specs.Edits.{account_at}
use Rattle.pv_edits.specs.declared.record.Record.{Record}
use Rattle.pv_node.specs.declared.rules.Rules as rules
use Rattle.pv_node.specs.Standing.{DiskStands}
use Rattle.pv_udc.specs.EditList.{EditList}
use Rattle.pv_udc.specs.declared.reply.UdcReply.{UdcReply}
use Rattle.pv_udc.specs.declared.request.UdcRequest.{UdcRequest}
use Rattle.pv_statement.specs.Statement.{statement_text}
use Rattle.pv_office.specs.declared.status.OfficeStatus.{OfficeStatus}
use Rattle.pv_office.specs.declared.status.OfficeStatus.TheVariants.{Done, WriteFault, Memory, DiskFault, Unopened, NoAccount}

module _ {S D : Type 0} (r : rules.Ghosts S EditList UdcRequest Record UdcReply) (g : reports.Ghosts D) (disk : D) where
  -- the records are those of the disk: if it reports what it reads, and that stands for any, they are these
  abbrev pub AreOfDisk : List Record → Type 0
  AreOfDisk records = (others : List Record) → DiskStands r g disk others → records ≡ others

  -- What was written, by the end: the whole statement; a prefix of it; or nothing, since there is no such account or the disk was
  -- not opened.
  abbrev pub IsStatementEnd : {F : Type 0} → ℕ → ℕ → ℕ → Option (List ℕ) → Option (List ℕ) → OfficeStatus D F → Type 0
  IsStatementEnd account year month before now Done = (records : List Record) × AreOfDisk records
      × (account_at records account ≢ None) × Appends before now (statement_text records account year month)
  IsStatementEnd account year month before now WriteFault = (records : List Record) × AreOfDisk records
      × (account_at records account ≢ None) × (n : ℕ) × Appends before now (take n (statement_text records account year month))
  IsStatementEnd account year month before now NoAccount = (records : List Record) × AreOfDisk records
      × (account_at records account ≡ None) × (now ≡ before)
  IsStatementEnd account year month before now Memory = now ≡ before
  IsStatementEnd account year month before now (DiskFault failure) = now ≡ before
  IsStatementEnd account year month before now (Unopened fault) = now ≡ before
  IsStatementEnd account year month before now _ = ⊥
