use Rattle.std.proofs.Common.{Ok, Err, arith, refl}
use Rattle.pv_fields.specs.declared.error.NoSpelling.{NoSpelling}
use Rattle.pv_fields.proofs.Readings.{all_found, all_missing}
use Rattle.pv_edits.specs.Record.{IsRecord, record_bytes, record_at}
use Rattle.pv_edits.specs.declared.record.Record.{Record}
use Rattle.pv_edits.proofs.CallerLemmas.{Reads-record}
use Rattle.pv_edits.proofs.record.Record.decode.Goals as goal

-- what is read is spelled by all of the bytes
pub returns-in-Ok-clause-found : goal.returns-in-Ok-clause-found
returns-in-Ok-clause-found c =
    all_found {E = NoSpelling} (λ (edit : Record). edit) IsRecord record_bytes record_at Reads-record c.args.bytes.now (Ok c.in-Ok.record)
    (λ i. omega (arith, c.type_inv.bytes i)) c.in-Ok.ensures

-- bytes that are a spelling are read
pub returns-in-Err-clause-missing : goal.returns-in-Err-clause-missing
returns-in-Err-clause-missing c none edit is same =
    all_missing {E = NoSpelling} (λ (edit : Record). edit) IsRecord record_bytes record_at Reads-record c.args.bytes.now
    (Err c.in-Err.field-0) c.in-Err.ensures refl edit is same
