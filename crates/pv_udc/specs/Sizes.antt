-- The spelling of a record has 1 to 2,048 bytes.
use Rattle.std.proofs.Common.{arith}
use Rattle.pv_journal.specs.Text.{IsBody}
use Rattle.pv_edits.specs.Record.{IsRecord, record_bytes}
use Rattle.pv_edits.specs.declared.record.Record.{Record}
use Rattle.pv_edits.proofs.CallerLemmas.{length-record}

-- a record
pub IsBody-record : (edit : Record) → IsRecord edit → IsBody (record_bytes edit)
unfolding record_bytes
IsBody-record edit is = (omega arith, omega (arith, length-record edit is))
