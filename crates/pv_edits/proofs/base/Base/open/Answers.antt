use Rattle.std.proofs.Common.{rules, refl}
use Rattle.pv_edits.specs.Room.{frame_count, account_count, lease_count}
use Rattle.pv_edits.proofs.base.Base.open.Goals as goal

-- no record has no frame, no lease, and the operator's account
pub invariant_of-result : goal.invariant_of-result
unfolding frame_count account_count lease_count
invariant_of-result c = record {
  paired = search rules;
  records_fit = search rules;
  places_fit = search rules;
  opening = search rules;
  frames_counted = rw c.in_ok-open.ensures refl;
  accounts_counted = rw c.in_ok-open.ensures refl;
  leases_counted = rw c.in_ok-open.ensures refl;
}
