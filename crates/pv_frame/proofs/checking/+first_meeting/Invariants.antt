use Rattle.std.proofs.Common.{length}
use Rattle.pv_frame.proofs.checking.+first_meeting.Given as goal

abbrev pub decreases-first_meeting : goal.decreases-first_meeting
decreases-first_meeting l = length l.fields.now
