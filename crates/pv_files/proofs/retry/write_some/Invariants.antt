use Rattle.std.specs.Io.KnownBytes.{Keeps}
use Rattle.pv_files.proofs.retry.write_some.Given as goal

-- the calls that were interrupted have written nothing
abbrev pub invariant-loop : goal.invariant-loop
invariant-loop g l = Keeps (g.W.Write.contents l.fn.writer) (g.W.Write.contents l.writer)
