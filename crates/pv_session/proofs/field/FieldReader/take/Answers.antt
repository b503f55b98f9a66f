use Rattle.pv_session.proofs.FieldKeys.{no_end}
use Rattle.pv_session.proofs.field.FieldReader.take.Goals as goal

-- another key than # ends no field
pub returns-clause-text : goal.returns-clause-text
returns-clause-text c =
    let reading = c.args.self.now in
    let is = c.add.ensures.reading in
    let never = no_end reading.field reading.full reading.keyed is.bytes is.fits c.args.byte in record {
      found = tt;
      only = λ text says. absurd (never text c.if-byte-eq35.false c.if-byte-eq95.false says.1);
    }
