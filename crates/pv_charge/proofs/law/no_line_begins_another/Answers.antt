use Rattle.pv_fields.proofs.Readings.{Reads-back}
use Rattle.pv_charge.specs.Line.{IsCharge, charge_bytes, charge_at}
use Rattle.pv_charge.proofs.CallerLemmas.{Reads-charge}
use Rattle.pv_charge.proofs.law.no_line_begins_another.Goals as goal

pub returns : goal.returns
returns c = Reads-back IsCharge charge_bytes charge_at Reads-charge
