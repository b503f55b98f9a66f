-- What a base keeps beside its records: their places, the operator, counts, and room.
use Rattle.std.specs.Prelude.{◌≡◌, ◌≤◌, length}
use Rattle.std.specs.Vec.{vec_capacity}
use Rattle.pv_edits.specs.declared.base.Base.TheInside.{Inside}
use Rattle.pv_edits.specs.Edits.{operator_profile}
use Rattle.pv_edits.specs.Room.{frame_count, account_count, lease_count}

-- there is a place for each record, and room for as many as the limit; the counts are those of the records
pub record IsKeptBase (base : Inside) : Type 0 where
  pub paired : length base.places.items ≡ length base.records.items
  pub records_fit : base.limits.records ≤ base.records.room
  pub places_fit : base.limits.records ≤ vec_capacity base.places
  pub opening : base.operator ≡ operator_profile
  pub frames_counted : base.frames ≡ frame_count base.records.items
  pub accounts_counted : base.accounts ≡ account_count base.records.items
  pub leases_counted : base.leased ≡ lease_count base.records.items
