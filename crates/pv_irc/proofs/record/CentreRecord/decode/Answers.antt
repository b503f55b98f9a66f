use Rattle.std.proofs.Common.{Ok, Err, arith, refl}
use Rattle.pv_fields.specs.declared.error.NoSpelling.{NoSpelling}
use Rattle.pv_fields.proofs.Readings.{all_found, all_missing}
use Rattle.pv_irc.specs.Record.{IsCentreRecord, centre_bytes, centre_record_at}
use Rattle.pv_irc.specs.declared.record.CentreRecord.{CentreRecord}
use Rattle.pv_irc.specs.Reading.{Reads-centre}
use Rattle.pv_irc.proofs.record.CentreRecord.decode.Goals as goal

-- what is read is spelled by all of the bytes
pub returns-in-Ok-clause-found : goal.returns-in-Ok-clause-found
returns-in-Ok-clause-found c =
    all_found {E = NoSpelling} (λ (rec : CentreRecord). rec) IsCentreRecord centre_bytes centre_record_at Reads-centre
    c.args.bytes.now (Ok c.in-Ok.rec)
    (λ i. omega (arith, c.type_inv.bytes i)) c.in-Ok.ensures

-- bytes that are a spelling are read
pub returns-in-Err-clause-missing : goal.returns-in-Err-clause-missing
returns-in-Err-clause-missing c none rec is same =
    all_missing {E = NoSpelling} (λ (rec : CentreRecord). rec) IsCentreRecord centre_bytes centre_record_at Reads-centre c.args.bytes.now
    (Err c.in-Err.field-0) c.in-Err.ensures refl rec is same
