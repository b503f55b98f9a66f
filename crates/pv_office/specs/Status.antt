-- How the office's programs end.
use Rattle.std.specs.Prelude.{ℕ, Result, Ok, Err}
use Rattle.pv_node.specs.declared.fault.NodeFault.{NodeFault}
use Rattle.pv_node.specs.declared.fault.NodeFault.TheVariants as faults
use Rattle.pv_statement.specs.declared.fault.StatementFault.{StatementFault}
use Rattle.pv_statement.specs.declared.fault.StatementFault.TheVariants as writing
use Rattle.pv_tape.specs.declared.end.TapeEnd.{TapeEnd}
use Rattle.pv_tape.specs.declared.end.TapeEnd.TheVariants as loading
use Rattle.pv_office.specs.declared.status.OfficeStatus.{OfficeStatus}
use Rattle.pv_office.specs.declared.status.OfficeStatus.TheVariants.{Done, Usage, BadLine, ReadFault, WriteFault, Memory, TooLong, DiskFault, Unopened, Full, NotKnown, Refused, NoAccount}

module _ {D F : Type 0} where
  -- the exit status of each end
  abbrev pub office_number : OfficeStatus D F → ℕ
  office_number Done = 0
  office_number Usage = 2
  office_number (BadLine line) = 3
  office_number ReadFault = 4
  office_number WriteFault = 5
  office_number Memory = 6
  office_number TooLong = 7
  office_number (DiskFault failure) = 8
  office_number (Unopened fault) = 9
  office_number (Full count) = 12
  office_number NotKnown = 13
  office_number (Refused line code shown) = 14
  office_number NoAccount = 15

  -- the end if the disk could not be opened
  abbrev pub open_status : NodeFault D F → OfficeStatus D F
  open_status faults.Memory = Memory
  open_status (faults.Disk failure) = DiskFault failure
  open_status fault = Unopened fault

  -- the end of `statement`, by what writing it came to
  abbrev pub statement_status : Result ℕ StatementFault → OfficeStatus D F
  statement_status (Ok lines) = Done
  statement_status (Err writing.NoAccount) = NoAccount
  statement_status (Err writing.WriteFault) = WriteFault

  -- the end of `tape`, by that of the run of the tape, if what it writes then is written
  abbrev pub tape_status : TapeEnd D F → OfficeStatus D F
  tape_status (loading.Done stored skipped) = Done
  tape_status loading.ReadFault = ReadFault
  tape_status loading.TooLong = TooLong
  tape_status (loading.BadTape line) = BadLine line
  tape_status loading.NotKnown = NotKnown
  tape_status (loading.Refused line code shown) = Refused line code shown
  tape_status (loading.Full count) = Full count
  tape_status (loading.DiskFault failure) = DiskFault failure
  tape_status loading.Memory = Memory
