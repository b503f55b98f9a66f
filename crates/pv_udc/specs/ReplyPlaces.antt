-- What is kept beside the records, so that replies are found without a search through the records.
use Rattle.std.specs.Prelude.{◌≡◌, ℕ, ◌≤◌, ◌<◌, List, length}
use Rattle.std.specs.Vec.{vec_capacity}
use Rattle.pv_edits.specs.declared.record.Record.{Record}
use Rattle.pv_udc.specs.Replies.{reply_places}
use Rattle.pv_udc.specs.declared.replies.ReplyPlaces.{ReplyPlaces}

-- there is room, and the places are those of all replies
pub record ArePlacesOf (replies : ReplyPlaces) (room : ℕ) (records : List Record) : Type 0 where
  pub fit : room ≤ vec_capacity replies.places
  pub held : replies.places.items ≡ reply_places records 0

-- they are those of some records, to which one may be added
abbrev pub MayHaveMore : ReplyPlaces → Type 0
MayHaveMore replies = (room : ℕ) × (records : List Record) × ArePlacesOf replies room records × (length records < room)
