use Rattle.std.proofs.Common.{rules}
use Rattle.pv_keys.proofs.Keys.{ignored}
use Rattle.pv_keys.proofs.reader.KeyReader.take.Goals as goal

-- a byte that is no key leaves the keys that were kept
pub returns-in_err-next-clause-step : goal.returns-in_err-next-clause-step
returns-in_err-next-clause-step c = search (rules, ignored c.self.inside.progress c.self.invariant c.args.byte)
