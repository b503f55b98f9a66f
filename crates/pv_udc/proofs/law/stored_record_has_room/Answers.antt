use Rattle.pv_udc.specs.Rooms.{has_room-stored}
use Rattle.pv_udc.proofs.law.stored_record_has_room.Goals as goal

pub returns : goal.returns
returns c = has_room-stored
