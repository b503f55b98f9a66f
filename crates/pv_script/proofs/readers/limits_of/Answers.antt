use Rattle.std.proofs.Common.{Some, refl, sym, ap}
use Rattle.pv_script.proofs.Limits.{limits_of_numbers}
use Rattle.pv_script.proofs.readers.limits_of.Goals as goal

-- no other limits have these numbers
pub returns : goal.returns
returns c = record { found = (refl, refl); only = λ l are. ap Some (sym (limits_of_numbers l _ _ _ _ are.0 are.1)) }
