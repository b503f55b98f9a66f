use Rattle.std.proofs.Common.{refl, sym, ◌∙◌, arith}
use Rattle.pv_live.specs.Entries.{with_opening}
use Rattle.pv_live.specs.Pass.{told_count, failed_count}
use Rattle.pv_live.proofs.Lists.{with_count}
use Rattle.pv_group.proofs.Aheads.{ahead_stands}
use Rattle.pv_group.proofs.Shelves.{all_count}
use Rattle.pv_group.proofs.desk.Desk+R+N+H+Published+R+N+Change+R+N.close.Goals as goal

pub from_parts-requires-clause-count : goal.from_parts-requires-clause-count
from_parts-requires-clause-count g c κs within =
    let log = c.args.self.log in
    c.requires.holds.counted.count
    ∙ all_count g.R.Rules g.N.Run.opening log
    ∙ sym (with_count g.N.Run.opening log)
    ∙ sym (g.met.R.Rules.counted c.count_up-state.result.0 (with_opening g.N.Run.opening log)
    c.count_up-state.ensures.ahead.state_of.stands)

pub returns : goal.returns
returns g c =
    let a = c.count_up-state.ensures.ahead in
    let stands = ahead_stands g.R.Rules g.N.Run.limits g.N.Run.opening g.D.Reports c.count_up-state.result.0 c.args.self.log
    (told_count c.args.passes.items) (failed_count c.args.passes.items) c.args.journal a c.requires.holds in
    rw (c.from_parts.ensures, c.count_up-state.ensures.count) (record {
      log = c.args.self.log;
      stands = stands;
      limited = a.state_of.limited;
      run = a.run;
      hand = tt;
      seen = c.count_up-state.ensures.seen;
      count = refl;
      least = a.reported;
      most = omega (arith, a.accounted);
    })
