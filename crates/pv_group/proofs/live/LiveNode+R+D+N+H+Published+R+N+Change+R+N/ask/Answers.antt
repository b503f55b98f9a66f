use Rattle.std.proofs.Common.{◌+◌, ◌<◌, ◌≤◌, length, rules}
use Rattle.pv_history.proofs.CallerLemmas.{prefix_length}
use Rattle.pv_group.proofs.Endings.{replied_at_once, full_at_once, ended}
use Rattle.pv_group.proofs.live.LiveNode+R+D+N+H+Published+R+N+Change+R+N.ask.Goals as goal

-- the pass had seen all that the reply stands on
pub returns-in-Replied : goal.returns-in-Replied
returns-in-Replied g c =
    let d = c.in-Ok.decided in
    let e = c.in-Ok.ensures in
    let all : length d.upto ≤ length c.args.pass.now.seen = search (rules, c.if-length.true) in
    replied_at_once g.R.Rules g.N.Run.limits g.N.Run.opening c.args.request.now c.args.pass.now c.decide.new.pass d.upto d.outcome
    e.decided e.same _ _ e.seen all c.in-Replied.told c.in-Replied.is

pub returns-in-Ok : goal.returns-in-Ok
returns-in-Ok g c =
    let d = c.in-Ok.decided in
    let e = c.in-Ok.ensures in
    let all : length d.upto ≤ length c.args.pass.now.seen = search (rules, c.if-length.true) in
    full_at_once g.R.Rules g.N.Run.limits g.N.Run.opening c.args.request.now c.args.pass.now c.decide.new.pass d.upto d.outcome
    e.decided e.same _ _ e.seen all c.in-Full.count c.in-Full.is

-- a pass that had not seen all of it has seen fewer records than the limit
pub returns-in-Ok-2 : goal.returns-in-Ok-2
returns-in-Ok-2 g c =
    let old = c.args.pass.now in
    let d = c.in-Ok.decided in
    let e = c.in-Ok.ensures in
    let room : length g.N.Run.opening + length old.seen < g.N.Run.limits.records =
    search (rules, e.within, c.if-length.false, prefix_length old.seen d.upto e.seen) in
    ended g.R.Rules g.N.Run.limits g.N.Run.opening c.args.request.now old c.decide.new.pass d.upto d.outcome
    e.decided e.same _ _ e.seen room c.give.new.pass c.give.result c.give.ensures.answered
