use Rattle.std.proofs.Common.{arith}
use Rattle.pv_frame.proofs.RoundTrip.{is_found}
use Rattle.pv_frame.proofs.frame.Frame.decode.Goals as goal

pub returns-clause-found : goal.returns-clause-found
returns-clause-found c = is_found c.args.bytes.now c.frame.result (λ i. omega (arith, c.type_inv.bytes i)) (grind arith)
