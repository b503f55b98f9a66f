use Rattle.std.proofs.Common.{◌≡◌, ◌+◌, length, lit<, sym, ◌∙◌, vec_len, arith}
use Rattle.pv_live.specs.Pass.{new_passes}
use Rattle.pv_centres.proofs.Passes.{each_is_new, new_stands, one_fewer, taken_new}
use Rattle.pv_centres.proofs.centre.open_centre.Goals as goal

-- one pass for each port is left
pub callers_row-requires-after_bounds : goal.callers_row-requires-after_bounds
callers_row-requires-after_bounds g c κs within =
    let left : length c.pop.new.self.items ≡ vec_len c.args.doors =
    one_fewer c.in_ok-live.passes.items c.pop.new.self.items c.pop.result c.unwrap-own.result (vec_len c.args.doors)
    c.pop.ensures.items c.unwrap-own.ensures
    (omega (arith, c.in_ok-live.passes.ok.0, c.in_ok-live.ensures.count, c.len-count.ensures)) in
    (lit< tt, (lit< tt, (omega (arith, left, c.pop.new.self.ok.0), c.requires.fresh)))

-- each stand was given a new pass
pub returns-clause-fresh : goal.returns-clause-fresh
returns-clause-fresh g c =
    let made = c.in_ok-callers in
    record {
      counted = omega (arith, made.callers.ok.0, made.ensures.count);
      passes = new_stands made.callers.items (λ s. s.port.pass) (c.len-count.result + 1) c.pop.new.self.items c.pop.result
          (sym c.in_ok-live.ensures.passes ∙ c.pop.ensures.items) made.ensures.passes;
      lines = made.ensures.calls;
      room = made.ensures.fresh;
    }

-- the passes of the carrier are new
pub new-requires-after_bounds : goal.new-requires-after_bounds
new-requires-after_bounds g c κs within =
    let own = taken_new (new_passes (c.len-count.result + 1)) c.pop.new.self.items c.pop.result c.unwrap-own.result
    (sym c.in_ok-live.ensures.passes ∙ c.pop.ensures.items) c.unwrap-own.ensures (each_is_new (c.len-count.result + 1)) in
    (lit< tt, (lit< tt, (c.requires.centre, (c.requires.new_udc, own.1))))
