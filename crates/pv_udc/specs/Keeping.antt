-- What a state of the Update Centre keeps beside its base.
use Rattle.std.specs.Prelude.{◌≡◌, ℕ, ◌≤◌, List, length, slice_index_or}
use Rattle.pv_outside.specs.declared.limits.Limits.{Limits}
use Rattle.pv_edits.specs.Edits.{taken_of}
use Rattle.pv_edits.specs.declared.base.Base.{Base}
use Rattle.pv_udc.specs.Charges.{AreChargesOf}
use Rattle.pv_udc.specs.EditList.{all_places}
use Rattle.pv_udc.specs.ReplyPlaces.{ArePlacesOf}
use Rattle.pv_udc.specs.declared.charges.Charges.{Charges}
use Rattle.pv_udc.specs.declared.replies.ReplyPlaces.{ReplyPlaces}

-- its limits, how many records it has, which have the places from 0 on, how many items of each centre, the charge lines and the replies
pub record IsKeptList (base : Base) (limits : Limits) (count : ℕ) (counts : List ℕ) (charges : Charges) (replies : ReplyPlaces)
    : Type 0 where
  pub same_limits : limits ≡ base.limits
  pub in_order : base.places ≡ all_places base.records
  pub counted : count ≡ length base.records
  pub within : count ≤ limits.records
  pub taken_up : (centre : ℕ) → slice_index_or counts centre 0 ≡ taken_of base.records centre
  pub charged : AreChargesOf charges limits.records base.records
  pub replied : ArePlacesOf replies limits.records base.records
