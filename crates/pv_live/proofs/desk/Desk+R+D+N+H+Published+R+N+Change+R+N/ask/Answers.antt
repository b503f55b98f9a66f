use Rattle.std.proofs.Common.{refl, ap, sym, arith}
use Rattle.pv_journal.proofs.CallerLemmas.{spends_most, spends_none, spends_then}
use Rattle.pv_live.proofs.Growing.{grows_published, grows_settled, grows_asked}
use Rattle.pv_live.proofs.Asks.{seen_since, asked_earlier, kept_for}
use Rattle.pv_live.proofs.desk.Desk+R+D+N+H+Published+R+N+Change+R+N.ask.Goals as goal

pub returns-then-not-publish-clause-spends : goal.returns-then-not-publish-clause-spends
returns-then-not-publish-clause-spends g c =
    rw (ap (λ b. b.node.journal.disk) c.publish.ensures.same) (spends_none g.D.Reports _ (λ no. no))

pub returns-in-Err-clause-spends : goal.returns-in-Err-clause-spends
returns-in-Err-clause-spends g c =
    rw (← ap (λ b. b.node.journal.disk) c.publish.ensures.same)
    (spends_most g.D.Reports (omega arith) (λ fails. refl) c.in-Err.ensures.spends)

pub returns-then-not-publish-2-clause-spends : goal.returns-then-not-publish-2-clause-spends
returns-then-not-publish-2-clause-spends g c =
    rw (ap (λ b. b.node.journal.disk) c.publish-2.ensures.same, ← ap (λ b. b.node.journal.disk) c.publish.ensures.same)
    (spends_most g.D.Reports (omega arith) (λ no. absurd no) c.settle.ensures.spends)

pub returns-in-Err-decide-clause-spends : goal.returns-in-Err-decide-clause-spends
returns-in-Err-decide-clause-spends g c =
    let settled = rw (ap (λ b. b.node.journal.disk) c.publish.ensures.same) at c.settle.ensures.spends in
    let decided = rw (ap (λ b. b.node.journal.disk) c.publish-2.ensures.same) at c.in-Err-decide.ensures.spends in
    spends_then g.D.Reports settled decided

pub returns-then-not-publish-3-clause-spends : goal.returns-then-not-publish-3-clause-spends
returns-then-not-publish-3-clause-spends g c =
    let settled = rw (ap (λ b. b.node.journal.disk) c.publish.ensures.same) at c.settle.ensures.spends in
    let decided = rw (ap (λ b. b.node.journal.disk) c.publish-2.ensures.same) at c.decide.ensures.spends in
    rw (ap (λ b. b.node.journal.disk) c.publish-3.ensures.same)
    (spends_most g.D.Reports (omega arith) (λ no. absurd no) (spends_then g.D.Reports settled decided))

pub returns-clause-spends : goal.returns-clause-spends
returns-clause-spends g c =
    let settled = rw (ap (λ b. b.node.journal.disk) c.publish.ensures.same) at c.settle.ensures.spends in
    let decided = rw (ap (λ b. b.node.journal.disk) c.publish-2.ensures.same) at c.decide.ensures.spends in
    rw (ap (λ b. b.node.journal.disk) c.publish-3.ensures.same)
    (spends_most g.D.Reports (omega arith) (λ no. absurd no) (spends_then g.D.Reports settled decided))

-- the pass before the decision is as it was at first, but has seen more
pub returns-then-not-publish-3-clause-kept : goal.returns-then-not-publish-3-clause-kept
returns-then-not-publish-3-clause-kept g c =
    let first = c.publish.ensures.done c.if-not-publish.false in
    let second = c.publish-2.ensures.done c.if-not-publish-2.false in
    let since = seen_since c.args.pass.now c.publish.new.pass c.settle.new.pass c.publish-2.new.pass c.publish.new.self c.publish-2.new.self
    first c.in_default.ensures.settled.1 second in
    kept_for g.R.Rules g.N.Run.limits g.N.Run.opening c.args.request.now c.args.pass.now c.publish-2.new.pass since.0 since.1 since.2
    g.row.D-Failure.Denot (record c.decide.new.pass { seen = c.decide.new.self.log }) c.in-Ok.told c.publish-3.new.self
    c.decide.new.self.waiting (sym (ap (λ b. b.log) c.publish-3.ensures.same)) (c.publish-3.ensures.out_of_memory c.if-not-publish-3.true).1
    c.in-Ok.ensures.told c.in-Ok.ensures.waits

pub returns-clause-told : goal.returns-clause-told
returns-clause-told g c =
    let first = c.publish.ensures.done c.if-not-publish.false in
    let second = c.publish-2.ensures.done c.if-not-publish-2.false in
    let third = c.publish-3.ensures.done c.if-not-publish-3.false in
    let since = seen_since c.args.pass.now c.publish.new.pass c.settle.new.pass c.publish-2.new.pass c.publish.new.self c.publish-2.new.self
    first c.in_default.ensures.settled.1 second in
    rw (third.seen, ap (λ b. b.log) c.publish-3.ensures.same)
    (asked_earlier g.R.Rules g.N.Run.limits g.N.Run.opening c.args.request.now c.args.pass.now c.publish-2.new.pass since.0 since.1 since.2
    (record c.decide.new.pass { seen = c.decide.new.self.log }) c.in-Ok.told c.in-Ok.ensures.told)

pub returns-then-not-publish-clause-grows : goal.returns-then-not-publish-clause-grows
returns-then-not-publish-clause-grows g c =
    grows_published g.R.Rules g.N.Run.limits g.N.Run.opening c.args.request.now c.args.pass.now.number
    c.args.self.now c.publish.new.self c.publish.ensures.same

pub returns-in-Err-clause-grows : goal.returns-in-Err-clause-grows
returns-in-Err-clause-grows g c =
    grows_settled g.R.Rules g.N.Run.limits g.N.Run.opening c.args.request.now c.args.pass.now.number
    c.args.self.now c.publish.new.self c.settle.new.self c.settle.new.self c.publish.ensures.same c.settle.ensures.grows refl

pub returns-then-not-publish-2-clause-grows : goal.returns-then-not-publish-2-clause-grows
returns-then-not-publish-2-clause-grows g c =
    grows_settled g.R.Rules g.N.Run.limits g.N.Run.opening c.args.request.now c.args.pass.now.number
    c.args.self.now c.publish.new.self c.settle.new.self c.publish-2.new.self c.publish.ensures.same c.settle.ensures.grows
    c.publish-2.ensures.same

pub returns-in-Err-decide-clause-grows : goal.returns-in-Err-decide-clause-grows
returns-in-Err-decide-clause-grows g c =
    let first = c.publish.ensures.done c.if-not-publish.false in
    let second = c.publish-2.ensures.done c.if-not-publish-2.false in
    let since = seen_since c.args.pass.now c.publish.new.pass c.settle.new.pass c.publish-2.new.pass c.publish.new.self c.publish-2.new.self
    first c.in_default.ensures.settled.1 second in
    grows_asked g.R.Rules g.N.Run.limits g.N.Run.opening c.args.request.now c.args.pass.now.number
    _ c.args.self.now c.publish.new.self c.settle.new.self c.publish-2.new.self c.decide.new.self c.decide.new.self
    c.publish-2.new.pass.number c.publish.ensures.same c.settle.ensures.grows c.in_default.ensures.settled.0 c.publish-2.ensures.same
    c.in-Err-decide.ensures.grows since.1 refl

pub returns-then-not-publish-3-clause-grows : goal.returns-then-not-publish-3-clause-grows
returns-then-not-publish-3-clause-grows g c =
    let first = c.publish.ensures.done c.if-not-publish.false in
    let second = c.publish-2.ensures.done c.if-not-publish-2.false in
    let since = seen_since c.args.pass.now c.publish.new.pass c.settle.new.pass c.publish-2.new.pass c.publish.new.self c.publish-2.new.self
    first c.in_default.ensures.settled.1 second in
    grows_asked g.R.Rules g.N.Run.limits g.N.Run.opening c.args.request.now c.args.pass.now.number
    c.in-Ok.told.number c.args.self.now c.publish.new.self c.settle.new.self c.publish-2.new.self c.decide.new.self c.publish-3.new.self
    c.publish-2.new.pass.number c.publish.ensures.same c.settle.ensures.grows c.in_default.ensures.settled.0 c.publish-2.ensures.same
    c.in-Ok.ensures.grows since.1 c.publish-3.ensures.same

pub returns-clause-grows : goal.returns-clause-grows
returns-clause-grows g c =
    let first = c.publish.ensures.done c.if-not-publish.false in
    let second = c.publish-2.ensures.done c.if-not-publish-2.false in
    let since = seen_since c.args.pass.now c.publish.new.pass c.settle.new.pass c.publish-2.new.pass c.publish.new.self c.publish-2.new.self
    first c.in_default.ensures.settled.1 second in
    grows_asked g.R.Rules g.N.Run.limits g.N.Run.opening c.args.request.now c.args.pass.now.number
    c.in-Ok.told.number c.args.self.now c.publish.new.self c.settle.new.self c.publish-2.new.self c.decide.new.self c.publish-3.new.self
    c.publish-2.new.pass.number c.publish.ensures.same c.settle.ensures.grows c.in_default.ensures.settled.0 c.publish-2.ensures.same
    c.in-Ok.ensures.grows since.1 c.publish-3.ensures.same
