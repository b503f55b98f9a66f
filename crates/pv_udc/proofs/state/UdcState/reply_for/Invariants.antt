use Rattle.std.proofs.Common.{◌≡◌, ℕ, drop}
use Rattle.pv_udc.specs.Replies.{reply_place, reply_places}
use Rattle.pv_udc.proofs.state.UdcState.reply_for.Given as goal

-- the replies that are left are those from some place on, and none before it is the one
abbrev pub invariant-loop-place : goal.invariant-loop-place
invariant-loop-place l =
    (next : ℕ) × (drop l.place-index l.places ≡ reply_places l.self.records next)
    × (reply_place l.self.records l.editor next ≡ reply_place l.self.records l.editor l.from)
