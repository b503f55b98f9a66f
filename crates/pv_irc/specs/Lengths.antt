-- The spelling of a centre's record has 1 to 2,048 bytes.
use Rattle.std.proofs.Common.{arith}
use Rattle.pv_journal.specs.Text.{IsBody}
use Rattle.pv_edits.proofs.CallerLemmas.{length-item, length-down}
use Rattle.pv_irc.specs.Record.{IsCentreRecord, applied_bytes, removed_bytes, centre_bytes}
use Rattle.pv_irc.specs.declared.record.CentreRecord.{CentreRecord}
use Rattle.pv_irc.specs.declared.record.CentreRecord.TheVariants.{Applied, LogOn, Kept, Removed}

-- a centre's record
pub IsBody-centre : (rec : CentreRecord) → IsCentreRecord rec → IsBody (centre_bytes rec)
unfolding centre_bytes applied_bytes removed_bytes
IsBody-centre (Applied n rec) is = (omega arith, omega (arith, length-down rec is.1))
IsBody-centre (LogOn account) is = (omega arith, omega arith)
IsBody-centre (Kept item) is = (omega arith, omega (arith, length-item item is))
IsBody-centre (Removed account number) is = (omega arith, omega arith)
