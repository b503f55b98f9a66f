use Rattle.std.proofs.Common.{Ok, Some, inl, ap, ◌∙◌}
use Rattle.pv_journal.specs.Journal.{LeavesOnly}
use Rattle.pv_journal.specs.Text.{SpellsEither}
use Rattle.pv_group.proofs.Shelves.{shelf_stored, shelf_kept, group_stored, group_dropped, of_hand}
use Rattle.pv_group.proofs.Moments.{leaves, leaves_none}
use Rattle.pv_group.proofs.vault.Vault.settle.Goals as goal

pub invariant_of-self-in-Ok-Some-true : goal.invariant_of-self-in-Ok-Some-true
invariant_of-self-in-Ok-Some-true g c =
    let s = c.self.invariant.0 in
    let e = c.in-Ok-Some-true.ensures in
    let found = ap Ok (c.in-Ok-Some-true.field-0-is ∙ ap Some c.in-Ok-Some-true.field-0-0-test) in (
      rw c.copy.ensures
          (shelf_stored g.R.Rules g.D.Reports g.N.Run.opening g.N.Run.limits _ s c.settle.new.self c.clear.new.self e.limit c.clear.ensures
          (group_stored g.R.Rules g.D.Reports g.N.Run.opening g.N.Run.limits _ s c.settle.new.self (e.stored found)
          (λ none. cc (e.none.1 none, found)))),
      c.self.invariant.1,
      c.self.invariant.2,
    )

pub invariant_of-self-in-Ok-Some-false : goal.invariant_of-self-in-Ok-Some-false
invariant_of-self-in-Ok-Some-false g c =
    let s = c.self.invariant.0 in
    let e = c.in-Ok-Some-false.ensures in
    let found = ap Ok (c.in-Ok-Some-false.field-0-is ∙ ap Some c.in-Ok-Some-false.field-0-0-test) in (
      shelf_kept g.R.Rules g.D.Reports g.N.Run.opening g.N.Run.limits _ s c.settle.new.self e.limit
          (inl (group_dropped g.R.Rules g.D.Reports g.N.Run.opening g.N.Run.limits _ s c.settle.new.self (e.dropped found)
          (λ none. cc (e.none.1 none, found)))),
      c.self.invariant.1,
      c.self.invariant.2,
    )

pub returns-in-Err-clause-moments : goal.returns-in-Err-clause-moments
returns-in-Err-clause-moments g c =
    let e = c.in-Err.ensures in
    rw (← c.self.view_is)
    (leaves g.R.Rules g.D.Reports g.N.Run.opening g.N.Run.limits _ c.self.invariant.0 c.settle.new.self.disk c.self.inside.taken
    (of_hand g.R.Rules g.D.Reports g.N.Run.opening g.N.Run.limits _ c.self.invariant.0
    (λ bodies hand. LeavesOnly g.D.Reports c.self.inside.journal.disk c.settle.new.self.disk (SpellsEither bodies hand))
    e.moments (λ none. cc (e.none.1 none))))

pub returns-in-Ok-Some-true-clause-moments : goal.returns-in-Ok-Some-true-clause-moments
returns-in-Ok-Some-true-clause-moments g c =
    let e = c.in-Ok-Some-true.ensures in
    rw (← c.self.view_is)
    (leaves g.R.Rules g.D.Reports g.N.Run.opening g.N.Run.limits _ c.self.invariant.0 c.settle.new.self.disk c.self.inside.taken
    (of_hand g.R.Rules g.D.Reports g.N.Run.opening g.N.Run.limits _ c.self.invariant.0
    (λ bodies hand. LeavesOnly g.D.Reports c.self.inside.journal.disk c.settle.new.self.disk (SpellsEither bodies hand))
    e.moments (λ none. cc (e.none.1 none, c.in-Ok-Some-true.field-0-is))))

pub returns-in-Ok-Some-false-clause-moments : goal.returns-in-Ok-Some-false-clause-moments
returns-in-Ok-Some-false-clause-moments g c =
    let e = c.in-Ok-Some-false.ensures in
    rw (← c.self.view_is)
    (leaves g.R.Rules g.D.Reports g.N.Run.opening g.N.Run.limits _ c.self.invariant.0 c.settle.new.self.disk c.self.inside.taken
    (of_hand g.R.Rules g.D.Reports g.N.Run.opening g.N.Run.limits _ c.self.invariant.0
    (λ bodies hand. LeavesOnly g.D.Reports c.self.inside.journal.disk c.settle.new.self.disk (SpellsEither bodies hand))
    e.moments (λ none. cc (e.none.1 none, c.in-Ok-Some-false.field-0-is))))

pub returns-in-Ok-None-clause-moments : goal.returns-in-Ok-None-clause-moments
returns-in-Ok-None-clause-moments g c =
    let e = c.in-Ok-None.ensures in
    rw (← c.self.view_is)
    (rw (e.unchanged (e.none.0 (ap Ok c.in-Ok-None.field-0-is)))
    (leaves_none g.R.Rules g.D.Reports g.N.Run.opening g.met.D.Disk.only_now g.met.D.Disk.now_is_known g.N.Run.limits _
    c.self.invariant.0))
