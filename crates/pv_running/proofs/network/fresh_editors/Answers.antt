use Rattle.std.proofs.Common.{arith}
use Rattle.pv_centres.proofs.Served.{row_new}
use Rattle.pv_running.proofs.network.fresh_editors.Goals as goal

-- each stand was given a new pass
pub returns-clause-fresh : goal.returns-clause-fresh
returns-clause-fresh g c =
    let made = c.in_ok-stands in
    record {
      counted = omega (arith, made.stands.ok.0, made.ensures.count);
      passes = row_new (λ s. s.port.pass) made.stands.items c.args.passes.items made.ensures.passes c.requires.new;
      lines = made.ensures.calls;
      room = made.ensures.fresh;
    }
