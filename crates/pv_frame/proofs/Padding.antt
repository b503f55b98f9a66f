-- What the code on fields in their places follows from.
use Rattle.std.proofs.lemmas.{Grind.common_steps, List.{append-nil, map-append, take_more}}
use Rattle.pv_fields.proofs.CallerLemmas.{IsPadded-set, appends_then, length-items, take-set}
use Rattle.pv_frame.proofs.Meaning.{HasRanges-valid}

-- one more field in the first empty place
pub ruleset adding = (common_steps, IsPadded-set, length-items, take-set, take_more, map-append)

-- the parts of a frame, one after another
pub ruleset putting = (common_steps, HasRanges-valid, appends_then, length-items, append-nil)
