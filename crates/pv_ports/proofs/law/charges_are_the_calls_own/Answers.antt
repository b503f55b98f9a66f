use Rattle.pv_ports.proofs.Numbering.{its_charges}
use Rattle.pv_ports.proofs.law.charges_are_the_calls_own.Goals as goal

pub returns : goal.returns
returns g c = λ limits opening shown happened start pass call step talked is.
    let owed = c.a_call_owes_what_is_its_own.ensures in
    its_charges g.row.C limits opening shown start owed.begins owed.lasts c.a_caller_stays_who_he_is.ensures happened pass call step
    talked is
