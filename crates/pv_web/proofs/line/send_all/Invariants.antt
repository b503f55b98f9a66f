use Rattle.std.proofs.Common.{◌≡◌, ◌-◌, ◌≤◌, length, take}
use Rattle.std.specs.Io.KnownBytes.{Appends}
use Rattle.pv_web.proofs.line.send_all.Given as goal

-- the bytes up to here were sent
abbrev pub invariant-loop-at : goal.invariant-loop-at
invariant-loop-at g l = record {
  within : l.at ≤ length l.bytes;
  written : Appends (g.M.Messages.written l.fn.messages) (g.M.Messages.written l.messages) (take l.at l.bytes);
  coming : g.M.Messages.coming l.messages ≡ g.M.Messages.coming l.fn.messages;
}

abbrev pub decreases-loop-at : goal.decreases-loop-at
decreases-loop-at g l = length l.bytes - l.at
