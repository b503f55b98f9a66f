-- The numbers that the office's programs end with, which are theirs alone.
use Rattle.std.proofs.Common.{◌≡◌, refl}
use Rattle.pv_office.specs.Status.{office_number}
use Rattle.pv_office.specs.declared.status.OfficeStatus.{OfficeStatus}
use Rattle.pv_office.specs.declared.status.OfficeStatus.TheVariants.{NotKnown, Refused, NoAccount}

module _ (D F : Type 0) where
  pub not_known : office_number {D = D} {F = F} NotKnown ≡ 13
  not_known = refl

  pub refused : office_number {D = D} {F = F} (Refused 1 2 3) ≡ 14
  refused = refl

  pub no_account : office_number {D = D} {F = F} NoAccount ≡ 15
  no_account = refl
