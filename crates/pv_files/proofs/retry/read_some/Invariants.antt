use Rattle.std.specs.Io.KnownBytes.{Keeps}
use Rattle.pv_files.proofs.retry.read_some.Given as goal

-- the calls that were interrupted have read nothing
abbrev pub invariant-loop : goal.invariant-loop
invariant-loop g l = Keeps (g.R.Read.remaining l.fn.reader) (g.R.Read.remaining l.reader)
