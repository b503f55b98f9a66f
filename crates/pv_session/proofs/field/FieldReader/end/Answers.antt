use Rattle.std.proofs.Common.{sym, subst}
use Rattle.pv_session.specs.Gathering.{IsFieldReading}
use Rattle.pv_session.proofs.FieldKeys.{kept-hash}
use Rattle.pv_session.proofs.field.FieldReader.end.Goals as goal

-- the key # is not kept
pub returns-then-has_room-clause-kept : goal.returns-then-has_room-clause-kept
returns-then-has_room-clause-kept c = λ none.
    let reading = c.args.self.now in
    let is = subst IsFieldReading c.self.view_is c.self.invariant in
    sym (kept-hash reading.field reading.full reading.keyed is.bytes is.fits)
