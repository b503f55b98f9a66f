use Rattle.std.proofs.Common.{◌≡◌, [], ◌∷◌, ◌++◌, inl, inr, ◌+◌, ◌≤◌, length, refl, arith, ap, sym, ◌∙◌}
use Rattle.left_right.specs.Handles.{published, pending}
use Rattle.pv_history.proofs.CallerLemmas.{prefix_self}
use Rattle.pv_live.specs.declared.entry.Entry.{Entry}
use Rattle.pv_live.proofs.Lists.{fold_last}
use Rattle.pv_live.proofs.Desks.{node_state, node_count, desk_more, desk_taken, reply_is, storing, taking, refusing, refusing_same}
use Rattle.pv_live.proofs.Growing.{grows_none, grows_stored}
use Rattle.pv_live.proofs.desk.Desk+R+D+N+H+Published+R+N+Change+R+N.store.Goals as goal

pub take_in-requires-clause-made : goal.take_in-requires-clause-made
take_in-requires-clause-made g c =
    let d = c.self.inside in
    let node = ap (λ b. b.node) c.self.view_is in
    let judged = rw (← node) at c.requires.judged in
    let none = ap (λ n. n.hand) node ∙ c.requires.settled in
    (storing g.R.Rules g.D.Reports g.N.Run.limits g.N.Run.opening d.known d.told.total d.failed.total d.node c.self.invariant.0
    c.args.request.now c.args.rec c.requires.valid judged g.row.D-Failure.Denot c.ask.new.self c.in-Ok.told
    (c.in-Ok.ensures.answers none)).1

pub invariant_of-self : goal.invariant_of-self
invariant_of-self g c =
    let d = c.self.inside in
    let i = c.self.invariant in
    let node = ap (λ b. b.node) c.self.view_is in
    let judged = rw (← node) at c.requires.judged in
    let none = ap (λ n. n.hand) node ∙ c.requires.settled in
    let s = storing g.R.Rules g.D.Reports g.N.Run.limits g.N.Run.opening d.known d.told.total d.failed.total d.node i.0
    c.args.request.now c.args.rec c.requires.valid judged g.row.D-Failure.Denot c.ask.new.self c.in-Ok.told
    (c.in-Ok.ensures.answers none) in
    let entry : Entry g.row.R-Rec.Denot = record { rec = c.args.rec; pass = c.pass.inside.number } in
    let before : length d.known + 0 ≤ d.told.total + d.failed.total = rw none at i.0.accounted in (
      rw (c.take_in.ensures.known, c.add.ensures.total)
          (desk_more g.R.Rules g.D.Reports g.N.Run.limits g.N.Run.opening d.known d.told.total d.failed.total d.node i.0 c.ask.new.self
          entry
          (d.told.total + 1) s.0.records s.0.hand c.ask.ensures.limits s.1 (omega (arith, i.0.reported)) (omega (arith, before))),
      fold_last (published d.writer) (pending d.writer) c.take_in.result ∙ c.take_in.ensures.change,
      i.2,
      i.3,
      i.4,
      i.5,
      c.take_in.ensures.supplied,
    )

pub invariant_of-self-in-Err-Disk : goal.invariant_of-self-in-Err-Disk
invariant_of-self-in-Err-Disk g c =
    let d = c.self.inside in
    let i = c.self.invariant in
    let node = ap (λ b. b.node) c.self.view_is in
    let judged = rw (← node) at c.requires.judged in
    let none = ap (λ n. n.hand) node ∙ c.requires.settled in
    let carried = rw c.in-Err-Disk.field-0-is at c.in-Err-Disk.ensures.answers none in
    let t = taking g.R.Rules g.D.Reports g.N.Run.limits g.N.Run.opening d.known d.told.total d.failed.total d.node i.0
    c.args.request.now c.args.rec c.requires.valid judged g.row.D-Failure.Denot c.ask.new.self c.in-Err-Disk.failure carried in (
      rw c.add-in-Err-Disk.ensures.total
          (desk_taken g.R.Rules g.D.Reports g.N.Run.limits g.N.Run.opening d.known d.told.total d.failed.total d.node i.0 c.ask.new.self
          c.args.rec t.0 none c.ask.ensures.limits t.1),
      i.1,
      i.2,
      i.3,
      i.4,
      i.5,
      i.6,
    )

pub returns-in-Ok-clause-told : goal.returns-in-Ok-clause-told
returns-in-Ok-clause-told g c =
    let d = c.self.inside in
    let i = c.self.invariant in
    let node = ap (λ b. b.node) c.self.view_is in
    let judged = rw (← node) at c.requires.judged in
    let none = ap (λ n. n.hand) node ∙ c.requires.settled in
    let s = storing g.R.Rules g.D.Reports g.N.Run.limits g.N.Run.opening d.known d.told.total d.failed.total d.node i.0
    c.args.request.now c.args.rec c.requires.valid judged g.row.D-Failure.Denot c.ask.new.self c.in-Ok.told
    (c.in-Ok.ensures.answers none) in
    let seen : c.args.pass.now.seen ≡ d.known = c.requires.seen ∙ sym (ap (λ b. b.log) c.self.view_is) in
    let entry : Entry g.row.R-Rec.Denot = record { rec = c.args.rec; pass = c.pass.inside.number } in
    rw s.2 (record {
      before = d.known;
      entry = entry;
      stored = record {
        last = c.take_in.ensures.known;
        known = rw seen (prefix_self d.known);
        maker = ap (λ p. p.number) c.pass.view_is;
        counted = node_count g.R.Rules g.D.Reports g.N.Run.limits g.N.Run.opening d.known d.told.total d.failed.total d.node i.0;
      };
      told = c.add.ensures.amount ∙ ap (λ p. p.told + 1) c.pass.view_is;
      judged = (
        d.node.state,
        node_state g.R.Rules g.D.Reports g.N.Run.limits g.N.Run.opening d.known d.told.total d.failed.total d.node i.0,
        (reply_is g.R.Rules g.D.Reports g.N.Run.limits g.N.Run.opening d.known d.told.total d.failed.total d.node i.0 c.args.request.now
            c.args.rec c.requires.valid judged).1,
      );
    })

pub returns-in-Err-Full-clause-failed : goal.returns-in-Err-Full-clause-failed
returns-in-Err-Full-clause-failed g c =
    let d = c.self.inside in
    let node = ap (λ b. b.node) c.self.view_is in
    let judged = rw (← node) at c.requires.judged in
    let none = ap (λ n. n.hand) node ∙ c.requires.settled in
    let carried = rw c.in-Err-Full.field-0-is at c.in-Err-Full.ensures.answers none in
    let seen : c.args.pass.now.seen ≡ d.known = c.requires.seen ∙ sym (ap (λ b. b.log) c.self.view_is) in
    rw c.in-Err-Full.count-is (
      refl,
      refl,
      refusing g.R.Rules g.D.Reports g.N.Run.limits g.N.Run.opening d.known d.told.total d.failed.total d.node c.self.invariant.0
          c.args.request.now c.args.rec c.requires.valid judged g.row.D-Failure.Denot c.ask.new.self c.in-Err-Full.count
          c.args.pass.now seen carried,
    )

-- what is stored is for this pass
pub returns-in-Ok-clause-grows : goal.returns-in-Ok-clause-grows
returns-in-Ok-clause-grows g c =
    let d = c.self.inside in
    let i = c.self.invariant in
    let node = ap (λ b. b.node) c.self.view_is in
    let judged = rw (← node) at c.requires.judged in
    let none = ap (λ n. n.hand) node ∙ c.requires.settled in
    let s = storing g.R.Rules g.D.Reports g.N.Run.limits g.N.Run.opening d.known d.told.total d.failed.total d.node i.0
    c.args.request.now c.args.rec c.requires.valid judged g.row.D-Failure.Denot c.ask.new.self c.in-Ok.told
    (c.in-Ok.ensures.answers none) in
    let entry : Entry g.row.R-Rec.Denot = record { rec = c.args.rec; pass = c.pass.inside.number } in
    rw s.2 (grows_stored g.R.Rules g.N.Run.limits g.N.Run.opening c.args.request.now c.args.pass.now.number
    c.args.self.now _ entry d.node.journal.count (c.take_in.ensures.known ∙ ap (λ b. b.log ++ entry ∷ []) c.self.view_is)
    (ap (λ p. p.number) c.pass.view_is) s.0.hand)

-- what is in hand is for this pass
pub returns-in-Err-Disk-clause-grows : goal.returns-in-Err-Disk-clause-grows
returns-in-Err-Disk-clause-grows g c =
    let d = c.self.inside in
    let i = c.self.invariant in
    let node = ap (λ b. b.node) c.self.view_is in
    let judged = rw (← node) at c.requires.judged in
    let none = ap (λ n. n.hand) node ∙ c.requires.settled in
    let carried = rw c.in-Err-Disk.field-0-is at c.in-Err-Disk.ensures.answers none in
    let t = taking g.R.Rules g.D.Reports g.N.Run.limits g.N.Run.opening d.known d.told.total d.failed.total d.node i.0
    c.args.request.now c.args.rec c.requires.valid judged g.row.D-Failure.Denot c.ask.new.self c.in-Err-Disk.failure carried in
    let replied = reply_is g.R.Rules g.D.Reports g.N.Run.limits g.N.Run.opening d.known d.told.total d.failed.total d.node i.0
    c.args.request.now c.args.rec c.requires.valid judged in
    grows_none g.R.Rules g.N.Run.limits g.N.Run.opening c.args.request.now c.args.pass.now.number
    c.args.self.now _ (ap (λ b. b.log) c.self.view_is) (inr (inr (record {
      rec = c.args.rec;
      reply = replied.0;
      hand = t.0.hand;
      maker = ap (λ p. p.number) c.pass.view_is;
      judged = (
        d.node.state,
        node_state g.R.Rules g.D.Reports g.N.Run.limits g.N.Run.opening d.known d.told.total d.failed.total d.node i.0,
        replied.1,
      );
    })))

pub returns-in-Err-Full-clause-grows : goal.returns-in-Err-Full-clause-grows
returns-in-Err-Full-clause-grows g c =
    let d = c.self.inside in
    let node = ap (λ b. b.node) c.self.view_is in
    let judged = rw (← node) at c.requires.judged in
    let none = ap (λ n. n.hand) node ∙ c.requires.settled in
    let carried = rw c.in-Err-Full.field-0-is at c.in-Err-Full.ensures.answers none in
    let same = refusing_same g.R.Rules g.D.Reports g.N.Run.limits g.N.Run.opening d.known d.told.total d.failed.total d.node
    c.self.invariant.0 c.args.request.now c.args.rec c.requires.valid judged g.row.D-Failure.Denot c.ask.new.self
    c.in-Err-Full.count carried in
    grows_none g.R.Rules g.N.Run.limits g.N.Run.opening c.args.request.now c.args.pass.now.number
    c.args.self.now _ (ap (λ b. b.log) c.self.view_is) (inl (ap (λ n. n.hand) same ∙ none))
